-- An edit of an image, one law for each way out of the code. Assumes nothing.
use mathlib.Core.Path.{◌≡◌, refl, sym, ap, ◌∙◌, subst}
use mathlib.Core.Bool.{Bool, true, false, ◌&&◌}
use mathlib.Core.List.{List}
use mathlib.Core.Option.{some}
use Prim.Native.Nat.{ℕ, ◌/◌, ◌≤◌, ◌<◌}
use native.Mathlib.Omega.{arith}
use lib.ListN.{length}
use lib.Dec.{eqb, leb}
use borrow.Author.Tests.{ne_eqb}
use Rattle.big_endian.specs.Laws.{Bytes}
use Rattle.geom.specs.declared.Vec2.{Vec2}
use Rattle.sketch.specs.declared.Curve.{Curve}
use Rattle.sketch.specs.Drawing.{Drawing, limits, curve_in}
use Rattle.sketch.specs.Lists.{ite}
use Rattle.sketch.specs.Blanks.{no_curve}
use Rattle.sketch.specs.Lookup.{FoundAt, among}
use Rattle.sketch.specs.Facts.{Valid}
use Rattle.sketch.specs.Valid.{ok_coordinate}
use Rattle.image.specs.Image as I
use Rattle.image.specs.Records.{curve_size}
use Rattle.image.specs.Encode.{encode, drawing_size}
use Rattle.rows.specs.Rows.{curve_table, ids_in, HoldsCurves}
use Rattle.rows.proofs.GoodTables.{curves_in_lem, curves_count}
use Rattle.rows.proofs.Holds.{holds_curves, curve_found, curve_not_found}
use Rattle.message.specs.declared.Operation.{Operation}
use Rattle.message.specs.declared.Operation.TheVariants.{Trim, Split, Extend}
use Rattle.sketch_geometry.specs.Geometry.{shape_of}
use Rattle.relations.specs.Met.{all_met}
use Rattle.edit_plan.specs.declared.Plan.{Plan}
use Rattle.edit_plan.specs.declared.Removed.{Removed}
use Rattle.edit_plan.specs.Outcome.{Outcome, refused, accepted, guard}
use Rattle.edit_plan.specs.Tables.{ok_position}
use Rattle.edit_plan.specs.ApplyPlan.{apply_plan}
use Rattle.edit_plan.specs.Suited.{Suited}
use Rattle.edit_plan.proofs.Bridge.{unless_refused}
use Rattle.edit_plan.proofs.Loops.{look_at}
use Rattle.edit_plan.proofs.Tables.{look_some}
use Rattle.chains.proofs.Edits.{plan_valid}
use Rattle.std.specs.Prelude.{Result, Ok, Err}
use Rattle.std.specs.Prelude as O
use Rattle.refusal.specs.declared.Refusal.{Refusal}
use Rattle.refusal.specs.Refusals.{number}
use Rattle.refusal.proofs.Numbers.{number_above_0}
use Rattle.sketch.proofs.Bools.{never}
use Rattle.chains.proofs.Refusals.{By, cutting, suited_refusals}
use Rattle.apply.specs.declared.Applied.{Applied}
use Rattle.apply.specs.Answers as A
use Rattle.apply.specs.Applied.{target_in, plan_refusal, drawing_after, removed_by, PlanWritten}
use Rattle.apply.proofs.ListDefinition.{outcome_is, apply_plan_listed}
use Rattle.apply.proofs.NewImages.{Numbers, new_image, drawing_numbers}
use Rattle.apply.proofs.PlanNumbers.{PlanNumbers, plan_numbers}
use Rattle.refusal.specs.Refusals.{Refused, Accepted}
use Rattle.planning.specs.Planning.{PlanResult, guard_plan, trim_curve, split_curve}
use Rattle.planning.proofs.Suits.{trim_curve_suited, split_curve_suited}
use Rattle.extend.specs.Answers.{ImageAnswer, refused_at, answer_of}
use Rattle.extend.specs.ExtendAnswer.{apply_planned, reported_place}
use Rattle.extend.specs.ImageExtend.{if_fits, number_in, OutcomeWritten, ExtendWritten}
use Rattle.extend.proofs.Places.{Placeless, without_place, placeless_below, placeless_above, place_none}
use Rattle.extend.proofs.OutcomesWritten.{applied_answer, written_outcome, refused_outcome, not_accepted}
use Rattle.extend.proofs.ImageMoves.{image_valid}
use Rattle.modify.specs.Edits.{plan_on_curve, plan_on_found, plan_edit, edit_of}
use Rattle.modify.specs.ImageEdits.{edit_image, EditWritten}
use Rattle.modify.specs.ImageContracts.{PlanEdited}
use Rattle.modify.proofs.ImageFaults.{image_fault_low}
use Rattle.modify.proofs.Numbered.{cut_number}

-- ---- numbers that come with no place

-- those that applying a trim's or a split's plan is refused by, 0 and 25
applied_placeless : (o : Outcome Drawing Removed) → By cutting o → (room : ℕ) → Placeless (number_in (if_fits room o))
unfolding guard
applied_placeless (refused n) h room =
    record { not_13 = λ z. never (subst (λ (j : ℕ). among j cutting ≡ true) z h); not_19 = λ z. never (subst (λ (j : ℕ). among j cutting ≡ true) z h) }
applied_placeless (accepted d gone) h room = go (leb (length (encode d)) room)
  where
    go : (b : Bool) → Placeless (number_in (guard b 25 (accepted d gone)))
    go true = placeless_below (omega arith)
    go false = placeless_above (omega arith)

-- ---- a plan applied

module _ (s : List ℕ) (b : Bytes s) (k : ℕ) (e : I.image_fault s ≡ 0) (below : k < length (I.drawing_of s).curves) where
  abbrev d : Drawing
  d = I.drawing_of s

  abbrev c : Curve
  c = target_in d k

  valid : Valid limits d
  valid = image_valid s e b

  found : curve_in d.curves c.id ≡ some c
  found = look_at no_curve d.next 0 d.curves k valid.curves_rise below

  module _ (plan : Plan) (su : Suited d c plan) (fits : PlanNumbers plan) where
    made_is : (d' : Drawing) (removed : Removed) → apply_plan all_met limits d c.id plan ≡ accepted d' removed → d' ≡ drawing_after d k plan
    unfolding unless_refused
    made_is d' removed a = go (eqb (plan_refusal d k plan) 0) (sym (outcome_is valid k below plan su all_met) ∙ a)
      where
        go : (t : Bool) → ◌≡◌ {A = Outcome Drawing Removed} (ite t (accepted (drawing_after d k plan) (removed_by d k plan)) (refused (plan_refusal d k plan))) (accepted d' removed) → d' ≡ drawing_after d k plan
        go true h = let z : drawing_after d k plan ≡ d' = cc in sym z
        go false h = not_accepted refl h

    plan_sound : (d' : Drawing) (removed : Removed) → apply_plan all_met limits d c.id plan ≡ accepted d' removed → (length (encode d') ≡ drawing_size d') × (I.parse (encode d') ≡ I.accepted d')
    plan_sound d' removed a =
        new_image d' (plan_valid all_met limits d valid c.id plan d' removed a su.pins)
        (subst Numbers (sym (made_is d' removed a)) (plan_numbers d k plan (drawing_numbers s) below fits))

    pub plan_edited : (before after : List ℕ) (x : Result Applied Refusal) → PlanWritten s k plan before after (A.answer_of x) → PlanEdited d k (Accepted plan) before after (answer_of x)
    unfolding apply_planned
    plan_edited before after x w =
        let o : Outcome Drawing Removed = apply_plan all_met limits d c.id plan in
        let written = written_outcome o (apply_plan_listed all_met s b e k (omega (arith, curve_count_lem s e)) plan su before after (A.answer_of x) w) in
        let h : Placeless (A.answer_of x).refusal = subst Placeless (sym written.refusal) (applied_placeless o (suited_refusals limits all_met d c.id c plan found su.kind) (length before)) in
        subst (PlanEdited d k (Accepted plan) before after) (applied_answer x h) (record { written = written; sound = plan_sound; no_place = refl })
      where
        curve_count_lem : (s : List ℕ) (e : I.image_fault s ≡ 0) → length (I.drawing_of s).curves ≡ I.curve_count s
        curve_count_lem s e = sym (ap length (curves_in_lem s e)) ∙ curves_count s e

  pub planned_refused : {planned : PlanResult} {n : ℕ} (l : List ℕ) → planned ≡ Refused n → PlanEdited d k planned l l (refused_at n 0)
  unfolding apply_planned
  planned_refused {planned} {n} l h =
      let o : apply_planned all_met limits d c.id planned ≡ refused n = ap (apply_planned all_met limits d c.id) h in
      record {
        written = refused_outcome n 0 o;
        sound = λ d' removed a. not_accepted o a;
        no_place = refl;
      }

  pub planned_accepted : {planned : PlanResult} {plan : Plan} {before after : List ℕ} {r : ImageAnswer} → planned ≡ Accepted plan → PlanEdited d k (Accepted plan) before after r → PlanEdited d k planned before after r
  planned_accepted {before = before} {after = after} {r = r} h w = subst (λ (x : PlanResult). PlanEdited d k x before after r) (sym h) w

  -- ---- by the operation

  module _ (p : Vec2) (ok : ok_position p ≡ true) where
    edit_is : (op : Operation) (f : Drawing → Bool) → guard (eqb (I.image_fault s) 0) (I.image_fault s) (apply_planned f limits d c.id (plan_edit op d c.id p)) ≡ apply_planned f limits d c.id (plan_on_curve op d p c)
    unfolding guard guard_plan plan_on_found
    edit_is op f = rw (e, ok, found)

    plan_is : (op : Operation) (f : Drawing → Bool) → apply_planned f limits d c.id (plan_edit op d c.id p) ≡ apply_planned f limits d c.id (plan_on_curve op d p c)
    unfolding guard_plan plan_on_found
    plan_is op f = rw (ok, found)

    -- a cut's number comes with no place, nor do 0 and 25
    cut_placeless : (op : Operation) → (op ≡ Extend → ⊥) → (o : Outcome Drawing Removed) → o ≡ edit_of op limits d c.id p → (room : ℕ) → Placeless (number_in (if_fits room o))
    unfolding guard
    cut_placeless op ne (refused n) h room = (cut_number d c.id p op ne n (sym h)).1
    cut_placeless op ne (accepted d' removed) h room = go (leb (length (encode d')) room)
      where
        go : (b : Bool) → Placeless (number_in (guard b 25 (accepted d' removed)))
        go true = placeless_below (omega arith)
        go false = placeless_above (omega arith)

    cut_edited : (op : Operation) → (op ≡ Extend → ⊥) → {planned : PlanResult} → planned ≡ plan_on_curve op d p c → {before after : List ℕ} {r : ImageAnswer} → PlanEdited d k planned before after r → EditWritten op s c.id p before after r
    cut_edited op ne {planned} h {before} {after} {r} w =
        let o : edit_image op s c.id p ≡ apply_planned all_met limits d c.id planned = edit_is op all_met ∙ ap (apply_planned all_met limits d c.id) (sym h) in
        record {
          written = subst (λ (x : Outcome Drawing Removed). OutcomeWritten (if_fits (length before) x) before after r) (sym o) w.written;
          sound = λ d' removed a. w.sound d' removed (sym o ∙ a);
          place = w.no_place ∙ place_none d _ (subst Placeless (sym w.written.refusal) (cut_placeless op ne (apply_planned all_met limits d c.id planned) (sym (plan_is op all_met ∙ ap (apply_planned all_met limits d c.id) (sym h))) (length before)));
        }

    cut_refused : (op : Operation) → (op ≡ Extend → ⊥) → {planned : PlanResult} → planned ≡ plan_on_curve op d p c → (why : Refusal) → planned ≡ Refused (number why) → (l : List ℕ) → EditWritten op s c.id p l l (answer_of (Err why))
    unfolding apply_planned
    cut_refused op ne {planned} h why q l =
        let o : apply_planned all_met limits d c.id planned ≡ refused (number why) = ap (apply_planned all_met limits d c.id) q in
        let low : Placeless (number why) = (cut_number d c.id p op ne (number why) (plan_is op all_met ∙ ap (apply_planned all_met limits d c.id) (sym h) ∙ o)).1 in
        cut_edited op ne h (rw (without_place why low) (planned_refused l q))

    pub trim_refused : {op : Operation} {planned : PlanResult} → op ≡ Trim → planned ≡ trim_curve d p c (shape_of d.points c.kind) → (why : Refusal) → planned ≡ Refused (number why) → (l : List ℕ) → EditWritten op s c.id p l l (answer_of (Err why))
    unfolding plan_on_curve
    trim_refused q h why f l = rw q (cut_refused Trim (λ x. let z : ◌≡◌ {A = ℕ} 0 1 = cc in omega arith) h why f l)

    pub split_refused : {op : Operation} {planned : PlanResult} → op ≡ Split → planned ≡ split_curve d p c (shape_of d.points c.kind) → (why : Refusal) → planned ≡ Refused (number why) → (l : List ℕ) → EditWritten op s c.id p l l (answer_of (Err why))
    unfolding plan_on_curve
    split_refused q h why f l = rw q (cut_refused Split (λ x. let z : ◌≡◌ {A = ℕ} 0 1 = cc in omega arith) h why f l)

    module _ {op : Operation} {before after : List ℕ} {r : ImageAnswer} where
      pub trim_edited : {planned : PlanResult} → op ≡ Trim → planned ≡ trim_curve d p c (shape_of d.points c.kind) → (((plan : Plan) → planned ≡ Accepted plan → Suited d c plan) → PlanEdited d k planned before after r) → EditWritten op s c.id p before after r
      unfolding plan_on_curve
      trim_edited q h w =
          rw q (cut_edited Trim (λ x. let z : ◌≡◌ {A = ℕ} 0 1 = cc in omega arith) h (w (λ plan x. trim_curve_suited d p c plan (sym h ∙ x))))

      pub split_edited : {planned : PlanResult} → op ≡ Split → planned ≡ split_curve d p c (shape_of d.points c.kind) → (((plan : Plan) → planned ≡ Accepted plan → Suited d c plan) → PlanEdited d k planned before after r) → EditWritten op s c.id p before after r
      unfolding plan_on_curve
      split_edited q h w =
          rw q (cut_edited Split (λ x. let z : ◌≡◌ {A = ℕ} 0 1 = cc in omega arith) h (w (λ plan x. split_curve_suited d p c plan (sym h ∙ x))))

      pub extend_edited : op ≡ Extend → ExtendWritten d k p before after r → EditWritten op s c.id p before after r
      unfolding plan_on_curve
      extend_edited q w =
          rw q (record {
            written = subst (λ (x : Outcome Drawing Removed). OutcomeWritten (if_fits (length before) x) before after r) (sym (edit_is Extend all_met)) w.written;
            sound = λ d' removed a. w.sound d' removed (sym (edit_is Extend all_met) ∙ a);
            place = w.place ∙ ap (λ (x : Outcome Drawing Removed). reported_place d x r.refusal) (sym (plan_is Extend (λ x. true)));
          })

-- ---- the tests that all edits begin with

-- a pick with two coordinates that are tested one by one
module _ (p : Vec2) {x v : Bool} (ex : x ≡ ok_coordinate p.x) where
  pub both_tested : x ≡ true → {y : Bool} → y ≡ ok_coordinate p.y → v ≡ y → ok_position p ≡ v
  both_tested h ey e = ap (λ b. b && ok_coordinate p.y) (sym ex ∙ h) ∙ sym ey ∙ sym e

  pub one_tested : x ≡ false → v ≡ x → ok_position p ≡ v
  one_tested h e = ap (λ b. b && ok_coordinate p.y) (sym ex ∙ h) ∙ sym (e ∙ h)

module _ (op : Operation) (s : List ℕ) (t : ℕ) (p : Vec2) (l : List ℕ) where
  refused_edit : (n : ℕ) → edit_image op s t p ≡ refused n → n ≤ 12 → EditWritten op s t p l l (refused_at n 0)
  refused_edit n o h = record { written = refused_outcome n 0 o; sound = λ d' removed a. not_accepted o a; place = place_none _ _ (placeless_below h) }

  pub fault_edit : (why : Refusal) → number why ≡ I.image_fault s → EditWritten op s t p l l (answer_of (Err why))
  unfolding guard
  fault_edit why h =
      let low = image_fault_low s in
      let n : ℕ = number why in
      let z : n ≡ 0 → ⊥ = λ x. omega (arith, number_above_0 why) in
      rw (without_place why (placeless_below (omega (arith, low)))) (refused_edit n (rw (ne_eqb (I.image_fault s) 0 (λ x. z (h ∙ x))) (ap refused (sym h))) (omega (arith, low)))

  module _ {n : ℕ} (h : n ≡ I.image_fault s) (z : n ≡ 0) where
    good : I.image_fault s ≡ 0
    good = sym h ∙ z

    module _ {v : Bool} (pick : ok_position p ≡ v) where
      pub pick_edit : v ≡ false → EditWritten op s t p l l (refused_at 9 0)
      unfolding guard guard_plan apply_planned
      pick_edit o = let q : ok_position p ≡ false = pick ∙ o in refused_edit 9 (rw (good, q)) (omega arith)

      module _ (o : v ≡ true) {curves : List ℕ} (ec : curves ≡ curve_table s) (place : O.Option ℕ) (f : FoundAt t (ids_in curve_size curves) place) where
        picked : ok_position p ≡ true
        picked = pick ∙ o

        holds : HoldsCurves (I.drawing_of s).curves curves
        holds = rw ec (holds_curves s good)

        pub curve_edit : place ≡ O.None → EditWritten op s t p l l (refused_at 8 0)
        unfolding guard guard_plan plan_on_found apply_planned
        curve_edit q = refused_edit 8 (rw (good, picked, curve_not_found holds t (subst (FoundAt t (ids_in curve_size curves)) q f))) (omega arith)

        pub found_edit : {k : ℕ} → place ≡ O.Some k → {after : List ℕ} {r : ImageAnswer}
            → (I.image_fault s ≡ 0 → ok_position p ≡ true → k < length (I.drawing_of s).curves → EditWritten op s (target_in (I.drawing_of s) k).id p l after r) → EditWritten op s t p l after r
        found_edit {k} q {after} {r} w =
            let here = curve_found holds t k (subst (FoundAt t (ids_in curve_size curves)) q f) in
            let named : (target_in (I.drawing_of s) k).id ≡ t = (look_some (I.drawing_of s).curves t (target_in (I.drawing_of s) k) here.1).1 in
            subst (λ i. EditWritten op s i p l after r) named (w good picked here.0)
