-- The extend of a line of an image, one law for each way out of the code. Assumes nothing.
use mathlib.Core.Path.{◌≡◌, refl, sym, ap, ◌∙◌, subst}
use mathlib.Core.Bool.{Bool, true, false, ◌&&◌, and-true}
use mathlib.Core.List.{List, [], ◌∷◌, ◌++◌, map}
use mathlib.Core.Option.{some}
use Prim.Native.Nat.{ℕ, zero, suc, ◌+◌, ◌≤◌, ◌<◌}
use native.Mathlib.Omega.{arith}
use lib.Dec.{eqb, ltb, leb}
use lib.ListN.{length, get_or, length-append}
use borrow.Author.Tests.{ne_eqb, ltb-true, ltb-false}
use Rattle.big_endian.specs.Laws.{Bytes}
use Rattle.geom.specs.declared.Vec2.{Vec2}
use Rattle.sketch.specs.declared.Point.{Point}
use Rattle.sketch.specs.declared.Curve.{Curve}
use Rattle.sketch.specs.declared.CurveKind.{CurveKind}
use Rattle.sketch.specs.declared.CurveKind.TheVariants.{Line}
use Rattle.sketch.specs.declared.Relation.{Relation}
use Rattle.sketch.specs.Lists.{ite, every, guard_number}
use Rattle.sketch.specs.Blanks.{no_point, no_curve}
use Rattle.sketch.specs.Lookup.{among}
use Rattle.sketch.specs.Drawing.{Drawing, limits}
use Rattle.sketch.specs.Facts.{Valid}
use Rattle.sketch.proofs.Bools.{never}
use Rattle.sketch.proofs.Facts.{fault_valid}
use Rattle.image.specs.Image.{drawing_of, image_fault, parse}
use Rattle.image.specs.Image as I
use Rattle.image.specs.Encode.{encode, drawing_size}
use Rattle.image.specs.Records.{point_size, curve_size}
use Rattle.image.specs.Decode.{read_point, read_curve}
use Rattle.image.proofs.GoodImages.{drawing_good}
use Rattle.rows.specs.Rows.{point_table, curve_table, relation_table, row_in, relations_in}
use Rattle.rows.proofs.GoodTables.{relations_in_lem}
use Rattle.rows.proofs.Holds.{holds_points, held_points, held_point, holds_curves, held_curves, held_curve}
use Rattle.relations.specs.Met.{met, all_met, first_failing, first_unmet, below}
use Rattle.relations.specs.Moves.{first_named_unmet}
use Rattle.relations.proofs.Failing.{none_fails, some_fails, first_in_front, first_behind}
use Rattle.relations.proofs.Unmoved.{named_enough}
use Rattle.edit_plan.specs.declared.Pin.{Pin}
use Rattle.edit_plan.specs.declared.Plan.TheVariants as P
use Rattle.edit_plan.specs.declared.Removed.{Removed}
use Rattle.edit_plan.specs.Outcome.{refused, accepted, guard}
use Rattle.edit_plan.specs.Tables.{ok_position, moved, uses, others}
use Rattle.edit_plan.specs.Changes.{pin_relation}
use Rattle.edit_plan.specs.Steps.{is_line, nothing}
use Rattle.edit_plan.specs.Suited.{Pinned}
use Rattle.edit_plan.specs.ApplyPlan.{check_met, move_end, apply_plan_to, apply_plan_at}
use Rattle.edit_plan.proofs.Bridge.{unless_refused}
use Rattle.edit_plan.proofs.Loops.{look_at}
use Rattle.apply.specs.Answers.{Answer}
use Rattle.apply.specs.Answers as A
use Rattle.apply.specs.Applied.{Answered}
use Rattle.apply.specs.Moved.{pinned_by, point_at_place, drawing_moved, move_refusal}
use Rattle.apply.proofs.MovedRows.{pinned_few, pinned_one, pinned_none}
use Rattle.apply.proofs.MoveDefinition.{drawing_moved_lem, move_is}
use Rattle.apply.proofs.NewImages.{Numbers, new_image, drawing_numbers}
use Rattle.apply.proofs.PlanNumbers.{VecNumbers, move_numbers}
use Rattle.chains.proofs.Edits.{plan_valid}
use Rattle.std.specs.Prelude.{Result, Ok, Err}
use Rattle.std.specs.Prelude as O
use Rattle.refusal.specs.declared.Refusal.{Refusal}
use Rattle.refusal.specs.Refusals.{Refused, Accepted}
use Rattle.refusal.specs.Refusals as N
use Rattle.refusal.proofs.Numbers.{number_above_0}
use Rattle.extend.specs.declared.EndMove.{EndMove}
use Rattle.apply.specs.declared.Applied.{Applied}
use Rattle.extend.specs.Answers.{ImageAnswer, refused_at, answer_of}
use Rattle.extend.specs.Extend.{extend_curve}
use Rattle.extend.specs.ExtendAnswer.{apply_planned, reported_place}
use Rattle.extend.specs.ExtendContracts.{plan_of}
use Rattle.extend.specs.ImageExtend.{if_fits, OutcomeWritten, extend_in, ExtendWritten}
use Rattle.extend.specs.ImageExtendContracts.{MovesEnd, ExtendIn, PlansExtendIn, move_in, MoveAnswer, MovesIfMet}
use Rattle.extend.proofs.Places.{Placeless, without_place, placeless_below, placeless_above, place_none, place_13, place_after}
use Rattle.extend.proofs.Refusing.{extend_number}
use Rattle.extend.proofs.ExtendPlans.{not_line_lem, unmet_line}
use Rattle.extend.proofs.Moves.{extend_moves_end}
use Rattle.extend.proofs.OutcomesWritten.{edited_by, applied_answer, answered_outcome, refused_outcome, not_accepted}

-- ---- lists of which one more entry stands last

module _ {A : Type 0} (f : A → Bool) where
  first_of_few : (ys : List A) → length ys ≤ 1 → every f ys ≡ false → first_failing f ys ≡ 0
  first_of_few [] l h = never (sym h)
  first_of_few (y ∷ []) l h = go (f y) h
    where
      go : (b : Bool) → (b && true) ≡ false → ite b (suc zero) zero ≡ zero
      go true h = never (sym h)
      go false h = refl
  first_of_few (y ∷ z ∷ ys) l h = absurd (omega arith)

  every_both : (xs ys : List A) → every f xs ≡ true → every f ys ≡ true → every f (xs ++ ys) ≡ true
  every_both [] ys h k = k
  every_both (x ∷ xs) ys h k = go (f x) h (every_both xs ys)
    where
      go : (b : Bool) → (b && every f xs) ≡ true → (every f xs ≡ true → every f ys ≡ true → every f (xs ++ ys) ≡ true) → (b && every f (xs ++ ys)) ≡ true
      go true h w = w h k
      go false h w = never h

-- ---- a place below a length, or none

below_some : (n k : ℕ) {j : ℕ} → O.Some j ≡ below n k → (j ≡ k) × (j < n)
below_some n k {j} e = go (ltb k n) refl e
  where
    go : (b : Bool) → ltb k n ≡ b → O.Some j ≡ ite b (O.Some k) O.None → (j ≡ k) × (j < n)
    go true q f = let z : j ≡ k = cc in (z, omega (arith, ltb-true k n q))
    go false q f = cc

below_none : (n k : ℕ) → O.None ≡ below n k → n ≤ k
below_none n k e = go (ltb k n) refl e
  where
    go : (b : Bool) → ltb k n ≡ b → ◌≡◌ {A = O.Option ℕ} O.None (ite b (O.Some k) O.None) → n ≤ k
    go true q f = cc
    go false q f = ltb-false k n q

-- ---- the pin's own relation

module _ (w : Pin) (p : ℕ) (f : Relation → Bool) {n : ℕ} (e : n ≡ length (pinned_by w p)) where
  pub pin_adds_none : n ≡ 0 → true ≡ every f (pinned_by w p)
  pin_adds_none z = sym (ap (every f) (pinned_none w p (sym e ∙ z)))

  pub pin_adds_one : (n ≡ 0 → ⊥) → {r : Relation} → r ≡ pin_relation w p → {b : Bool} → b ≡ f r → b ≡ every f (pinned_by w p)
  pin_adds_one z {r} g h = h ∙ ap f g ∙ sym (ap (every f) (pinned_one w p (λ x. z (e ∙ x))) ∙ and-true (f (pin_relation w p)))

-- ---- the move

-- 8, 24 or 22
move_number : (ps : List Point) (rs : List Relation) (k : ℕ) (v : Vec2) (w : Pin) → Placeless (move_refusal ps rs k v w)
unfolding guard_number
move_number ps rs k v w = go (ltb k (length ps)) (ok_position v) (leb (length rs + length (pinned_by w (get_or ps k no_point).id)) limits.relations)
  where
    go : (a b c : Bool) → Placeless (guard_number a 8 (guard_number b 24 (guard_number c 22 0)))
    go false b c = placeless_below (omega arith)
    go true false c = placeless_above (omega arith)
    go true true false = placeless_above (omega arith)
    go true true true = placeless_below (omega arith)

-- a place is that of a drawing's first unmet relation
pub record FirstIn (d : Drawing) (j : ℕ) : Type 0 where
  pub unmet : all_met d ≡ false
  pub first : j ≡ first_unmet d

first_in : (d : Drawing) (j : ℕ) → j ≡ first_unmet d → j < length d.relations → FirstIn d j
first_in d j e h = record { unmet = some_fails (met d.points d.curves) d.relations (omega (arith, e)); first = e }

module _ (d : Drawing) (k : ℕ) (v : Vec2) (w : Pin) where
  abbrev number : ℕ
  number = move_refusal d.points d.relations k v w

  abbrev after_move : Drawing
  after_move = drawing_moved d k v w

  abbrev p : ℕ
  p = (point_at_place d k).id

  pub move_refused_by : (why : Refusal) (l : List ℕ) → N.number why ≡ number → MoveAnswer d k v w l l (answer_of (Err why))
  move_refused_by why l e =
      let n : ℕ = N.number why in
      let h : n ≡ 0 → ⊥ = λ z. omega (arith, number_above_0 why) in
      let p : Placeless n = subst Placeless (sym e) (move_number d.points d.relations k v w) in
      let o : move_in all_met d k v w ≡ refused n = ap (λ x. ite (eqb x 0) (check_met all_met after_move) (refused x)) (sym e) ∙ ap (λ b. ite b (check_met all_met after_move) (refused n)) (ne_eqb n 0 h) in
      rw (without_place why p) (record { written = refused_outcome n 0 o; place = place_none d _ p })

  module _ (z : number ≡ 0) where
    moves : (f : Drawing → Bool) → move_in f d k v w ≡ check_met f after_move
    moves f = ap (λ x. ite (eqb x 0) (check_met f after_move) (refused x)) z

    pub move_unmet : (l : List ℕ) {j : ℕ} → FirstIn after_move j → MoveAnswer d k v w l l (refused_at 19 j)
    unfolding check_met guard
    move_unmet l {j} u =
        let o : move_in all_met d k v w ≡ refused 19 = moves all_met ∙ ap (λ b. guard b 19 (accepted after_move nothing)) u.unmet in
        record { written = refused_outcome 19 j o; place = u.first ∙ sym (place_after d _ after_move nothing (moves (λ d'. true))) }

    pub move_met : all_met after_move ≡ true → (before after : List ℕ) (x : Result Applied Refusal) → Answered number (encode after_move) nothing before after (A.answer_of x) → MoveAnswer d k v w before after (answer_of x)
    unfolding check_met guard
    move_met u before after x g =
        let a : Answer = A.answer_of x in
        let o : move_in all_met d k v w ≡ accepted after_move nothing = moves all_met ∙ ap (λ b. guard b 19 (accepted after_move nothing)) u in
        let t : Answered 0 (encode after_move) nothing before after a = subst (λ x. Answered x (encode after_move) nothing before after a) z g in
        let h = go (leb (length (encode after_move)) (length before)) t.refusal in
        subst (MoveAnswer d k v w before after) (applied_answer x h)
        (record {
          written = subst (λ x. OutcomeWritten (if_fits (length before) x) before after (edited_by a)) (sym o) (answered_outcome after_move nothing t);
          place = place_none d _ h;
        })
      where
        go : (b : Bool) {n : ℕ} → n ≡ ite b 0 25 → Placeless n
        go true e = placeless_below (omega arith)
        go false e = placeless_above (omega arith)

-- ---- which relations are met then

module _ {d : Drawing} (valid : Valid limits d) (k : ℕ) (inside : k < length d.points) (v : Vec2) (w : Pin) (all : all_met d ≡ true) (id : ℕ)
    (alone : among (point_at_place d k).id (uses (others id d.curves)) ≡ false) where
  abbrev q : ℕ
  q = (point_at_place d k).id

  abbrev shifted : List Point
  shifted = map (moved q v) d.points

  abbrev f : Relation → Bool
  f = met shifted d.curves

  is_moved : drawing_moved d k v w ≡ record { next = d.next; points = shifted; curves = d.curves; relations = d.relations ++ pinned_by w q }
  is_moved = drawing_moved_lem valid k inside v w

  module _ {j : ℕ} (e : j ≡ first_named_unmet q v id d) where
    first : j ≡ first_failing f d.relations
    first = e ∙ named_enough q v id d all alone

    -- there are as many relations as before, and at most the pin's own
    relations_then : length (drawing_moved d k v w).relations ≡ length d.relations + length (pinned_by w q)
    relations_then = ap (λ (x : Drawing). length x.relations) is_moved ∙ length-append d.relations (pinned_by w q)

    pub named_unmet : j < length d.relations → FirstIn (drawing_moved d k v w) j
    named_unmet h =
        let t : first_unmet (drawing_moved d k v w) ≡ j = ap first_unmet is_moved ∙ first_in_front f d.relations (pinned_by w q) (omega (arith, first)) ∙ sym first in
        first_in (drawing_moved d k v w) j (sym t) (omega (arith, relations_then))

    old_met : length d.relations ≤ j → every f d.relations ≡ true
    old_met h = none_fails f d.relations (omega (arith, first))

    module _ (h : length d.relations ≤ j) {b : Bool} (c : b ≡ every f (pinned_by w q)) where
      pub pin_met : b ≡ true → all_met (drawing_moved d k v w) ≡ true
      pin_met t = ap all_met is_moved ∙ every_both f d.relations (pinned_by w q) (old_met h) (sym c ∙ t)

      pub pin_unmet : b ≡ false → FirstIn (drawing_moved d k v w) (length d.relations)
      pin_unmet t =
          let few = first_of_few f (pinned_by w q) (pinned_few w q) (sym c ∙ t) in
          let u : first_unmet (drawing_moved d k v w) ≡ length d.relations + first_failing f (pinned_by w q) = ap first_unmet is_moved ∙ first_behind f d.relations (pinned_by w q) (old_met h) in
          let some : length (pinned_by w q) ≡ 0 → ⊥ = λ z. never (sym (sym c ∙ t) ∙ ap (every f) (pinned_none w q z)) in
          first_in (drawing_moved d k v w) (length d.relations) (omega (arith, u, few)) (omega (arith, relations_then, some))

-- ---- what is read of a good image

module _ (s : List ℕ) (e : image_fault s ≡ 0) where
  pub counted_relations : {t : List ℕ} {n : ℕ} → t ≡ relation_table s → n ≡ length (relations_in t) → n ≡ length (drawing_of s).relations
  counted_relations u h = h ∙ ap (λ x. length (relations_in x)) u ∙ ap length (relations_in_lem s e)

  pub placed_point : (k : ℕ) {t : List ℕ} {p : Point} → k < length (drawing_of s).points → t ≡ point_table s → p ≡ read_point (row_in point_size t k) → p ≡ point_at_place (drawing_of s) k
  placed_point k h u g = let w = holds_points s e in g ∙ ap (λ x. read_point (row_in point_size x k)) u ∙ held_point w k (omega (arith, held_points w))

  pub placed_curve : (k : ℕ) {t : List ℕ} {c : Curve} → k < length (drawing_of s).curves → t ≡ curve_table s → c ≡ read_curve (row_in curve_size t k) → c ≡ get_or (drawing_of s).curves k no_curve
  placed_curve k h u g = let w = holds_curves s e in g ∙ ap (λ x. read_curve (row_in curve_size x k)) u ∙ held_curve w k (omega (arith, held_curves w))

  pub image_valid : Bytes s → Valid limits (drawing_of s)
  image_valid b = fault_valid limits (drawing_of s) (drawing_good s e b)

-- ---- the move in an image

module _ (s : List ℕ) (b : Bytes s) (id k : ℕ) (v : Vec2) (w : Pin) (e : image_fault s ≡ 0) (all : all_met (drawing_of s) ≡ true) (within : k < length (drawing_of s).points)
    (alone : among (point_at_place (drawing_of s) k).id (uses (others id (drawing_of s).curves)) ≡ false) {number : ℕ} (u : number ≡ move_refusal (drawing_of s).points (drawing_of s).relations k v w) (z : number ≡ 0)
    {t : List ℕ} {p : Point} (et : t ≡ point_table s) (ep : p ≡ read_point (row_in point_size t k)) {r : List ℕ} {n : ℕ} (er : r ≡ relation_table s) (en : n ≡ length (relations_in r))
    {o : O.Option ℕ} (ej : o ≡ below (length (drawing_of s).relations) (first_named_unmet p.id v id (drawing_of s))) where
  point_so : p ≡ point_at_place (drawing_of s) k
  point_so = placed_point s e k within et ep

  count_so : n ≡ length (drawing_of s).relations
  count_so = counted_relations s e er en

  abbrev named : ℕ
  named = first_named_unmet (point_at_place (drawing_of s) k).id v id (drawing_of s)

  first_so : o ≡ below (length (drawing_of s).relations) named
  first_so = ej ∙ ap (λ (x : Point). below (length (drawing_of s).relations) (first_named_unmet x.id v id (drawing_of s))) point_so

  pub answer_unmet : (l : List ℕ) {j : ℕ} → o ≡ O.Some j → MoveAnswer (drawing_of s) k v w l l (refused_at 19 j)
  answer_unmet l h =
      let q = below_some _ _ (sym h ∙ first_so) in
      move_unmet (drawing_of s) k v w (sym u ∙ z) l (named_unmet (image_valid s e b) k within v w all id alone q.0 q.1)

  module _ (h : o ≡ O.None) {m : Bool} (em : m ≡ every (met (map (moved p.id v) (drawing_of s).points) (drawing_of s).curves) (pinned_by w p.id)) where
    pin_so : m ≡ every (met (map (moved (point_at_place (drawing_of s) k).id v) (drawing_of s).points) (drawing_of s).curves) (pinned_by w (point_at_place (drawing_of s) k).id)
    pin_so = em ∙ ap (λ (x : Point). every (met (map (moved x.id v) (drawing_of s).points) (drawing_of s).curves) (pinned_by w x.id)) point_so

    pub answer_pin_unmet : (l : List ℕ) → m ≡ false → MoveAnswer (drawing_of s) k v w l l (refused_at 19 n)
    answer_pin_unmet l x =
        move_unmet (drawing_of s) k v w (sym u ∙ z) l
        (subst (FirstIn (drawing_moved (drawing_of s) k v w)) (sym count_so) (pin_unmet (image_valid s e b) k within v w all id alone refl (below_none _ _ (sym h ∙ first_so)) pin_so x))

    pub answer_met : m ≡ true → (before after : List ℕ) (a : Result Applied Refusal) → Answered (move_refusal (drawing_of s).points (drawing_of s).relations k v w) (encode (drawing_moved (drawing_of s) k v w)) nothing before after (A.answer_of a) → MoveAnswer (drawing_of s) k v w before after (answer_of a)
    answer_met x before after a g = move_met (drawing_of s) k v w (sym u ∙ z) (pin_met (image_valid s e b) k within v w all id alone refl (below_none _ _ (sym h ∙ first_so)) pin_so x) before after a g

-- ---- the extend

module _ (d : Drawing) (k : ℕ) (at : Vec2) where
  abbrev target : Curve
  target = get_or d.curves k no_curve

  refused_by_lem : (l : List ℕ) (n : ℕ) → Placeless n → extend_in all_met d k at ≡ refused n → ExtendWritten d k at l l (refused_at n 0)
  refused_by_lem l n h o = record { written = refused_outcome n 0 o; sound = λ d' removed a. not_accepted o a; place = place_none d _ h }

  pub no_line : (l : List ℕ) → ((i j : ℕ) → target.kind ≡ Line i j → ⊥) → ExtendWritten d k at l l (refused_at 10 0)
  unfolding apply_planned
  no_line l h = refused_by_lem l 10 (placeless_below (omega arith)) (ap (apply_planned all_met limits d target.id) (sym (not_line_lem d at target target.kind h)))

  pub unmet_first : (l : List ℕ) {j : ℕ} → is_line target.kind ≡ true → FirstIn d j → ExtendWritten d k at l l (refused_at 13 j)
  unfolding apply_planned
  unmet_first l {j} q u =
      let o : extend_in all_met d k at ≡ refused 13 = ap (apply_planned all_met limits d target.id) (sym (unmet_line d at target target.kind q u.unmet)) in
      record { written = refused_outcome 13 j o; sound = λ d' removed a. not_accepted o a; place = u.first ∙ sym (place_13 d _) }

  module _ (all : all_met d ≡ true) {y : Result EndMove Refusal} (i : ExtendIn d target at y) where
    pub plan_refused : (l : List ℕ) {why : Refusal} → y ≡ Err why → ExtendWritten d k at l l (answer_of (Err why))
    unfolding apply_planned
    plan_refused l {why} g =
        let u : extend_curve d at target target.kind ≡ Refused (N.number why) = sym i.plan ∙ ap plan_of g in
        let h = (extend_number d at target target.kind (N.number why) all u).1 in
        rw (without_place why h) (refused_by_lem l (N.number why) h (ap (apply_planned all_met limits d target.id) u))

    module _ {m : EndMove} (g : y ≡ Ok m) where
      abbrev j : ℕ
      j = m.place

      abbrev v : Vec2
      v = m.to

      abbrev w : Pin
      w = m.pin

      abbrev at_b : Bool
      at_b = m.at_b

      ends : MovesEnd d target (Ok m)
      ends = subst (MovesEnd d target) g i.place

      pub moving_within : j < length d.points
      moving_within = ends.2.within

      pub moving_alone : among (point_at_place d j).id (uses (others target.id d.curves)) ≡ false
      moving_alone = ap (λ x. among x (uses (others target.id d.curves))) ends.2.is ∙ ends.2.unshared

      module _ (valid : Valid limits d) (inside : k < length d.curves) where
        extends_so : (f : Drawing → Bool) → extend_in f d k at ≡ move_in f d j v w
        unfolding apply_planned apply_plan_at apply_plan_to unless_refused
        extends_so f =
            let u : extend_curve d at target target.kind ≡ Accepted (P.Move at_b v w) = sym i.plan ∙ ap plan_of g in
            ap (apply_planned f limits d target.id) u
            ∙ ap (apply_plan_at f limits d (P.Move at_b v w)) (look_at no_curve d.next 0 d.curves k valid.curves_rise inside)
            ∙ ap (move_end f limits d at_b v w) ends.1
            ∙ move_is valid j moving_within v w f at_b ends.0 ends.2.is

        new_drawing : (d' : Drawing) (removed : Removed) → extend_in all_met d k at ≡ accepted d' removed → d' ≡ drawing_moved d j v w
        unfolding check_met guard
        new_drawing d' removed a = go (eqb (move_refusal d.points d.relations j v w) 0) (all_met (drawing_moved d j v w)) (sym (extends_so all_met) ∙ a)
          where
            go : (b c : Bool) → ite b (guard c 19 (accepted (drawing_moved d j v w) nothing)) (refused (move_refusal d.points d.relations j v w)) ≡ accepted d' removed → d' ≡ drawing_moved d j v w
            go true true h = let z : drawing_moved d j v w ≡ d' = cc in sym z
            go true false h = not_accepted refl h
            go false c h = not_accepted refl h

        new_sound : Numbers d → VecNumbers v → (d' : Drawing) (removed : Removed) → extend_in all_met d k at ≡ accepted d' removed → (length (encode d') ≡ drawing_size d') × (parse (encode d') ≡ I.accepted d')
        unfolding apply_planned
        new_sound ns fits d' removed a =
            let u : extend_curve d at target target.kind ≡ Accepted (P.Move at_b v w) = sym i.plan ∙ ap plan_of g in
            let m = (extend_moves_end d target at (P.Move at_b v w) u).1 in
            new_image d'
            (plan_valid all_met limits d valid target.id (P.Move at_b v w) d' removed (sym (ap (apply_planned all_met limits d target.id) u) ∙ a) (subst (Pinned d target.id) (sym m.is) m.held))
            (subst Numbers (sym (new_drawing d' removed a)) (move_numbers d j v w ns fits.0 fits.1))

        pub move_extends : Numbers d → VecNumbers v → (before after : List ℕ) (r : ImageAnswer) → MoveAnswer d j v w before after r → ExtendWritten d k at before after r
        move_extends ns fits before after r m =
            record {
              written = subst (λ x. OutcomeWritten (if_fits (length before) x) before after r) (sym (extends_so all_met)) m.written;
              sound = new_sound ns fits;
              place = m.place ∙ ap (λ x. reported_place d x r.refusal) (sym (extends_so (λ d'. true)));
            }

-- ---- the extend in an image

line_so : {c : CurveKind} {i j : ℕ} → c ≡ Line i j → is_line c ≡ true
line_so e = ap is_line e

module _ (s : List ℕ) (b : Bytes s) (k : ℕ) (at : Vec2) (e : image_fault s ≡ 0) (within : k < length (drawing_of s).curves) {t : List ℕ} {c : Curve} (et : t ≡ curve_table s) (ec : c ≡ read_curve (row_in curve_size t k)) where
  curve_so : c ≡ get_or (drawing_of s).curves k no_curve
  curve_so = placed_curve s e k within et ec

  pub image_no_line : (l : List ℕ) → ((i j : ℕ) → c.kind ≡ Line i j → ⊥) → ExtendWritten (drawing_of s) k at l l (refused_at 10 0)
  image_no_line l h = no_line (drawing_of s) k at l (subst (λ (x : Curve). (i j : ℕ) → x.kind ≡ Line i j → ⊥) curve_so h)

  module _ {o : O.Option ℕ} (eu : o ≡ below (length (drawing_of s).relations) (first_unmet (drawing_of s))) where
    pub image_unmet : (l : List ℕ) {i j u : ℕ} → c.kind ≡ Line i j → o ≡ O.Some u → ExtendWritten (drawing_of s) k at l l (refused_at 13 u)
    image_unmet l {u = u} q h =
        let f = below_some _ _ (sym h ∙ eu) in
        unmet_first (drawing_of s) k at l (sym (ap (λ (x : Curve). is_line x.kind) curve_so) ∙ line_so q) (first_in (drawing_of s) u f.0 f.1)

    module _ (h : o ≡ O.None) where
      pub all_so : all_met (drawing_of s) ≡ true
      all_so = none_fails (met (drawing_of s).points (drawing_of s).curves) (drawing_of s).relations (below_none _ _ (sym h ∙ eu))

      module _ {y : Result EndMove Refusal} (g : PlansExtendIn s k at y) where
        planned : ExtendIn (drawing_of s) (get_or (drawing_of s).curves k no_curve) at y
        planned = g e within all_so

        pub image_plan_refused : (l : List ℕ) {why : Refusal} → y ≡ Err why → ExtendWritten (drawing_of s) k at l l (answer_of (Err why))
        image_plan_refused l q = plan_refused (drawing_of s) k at all_so planned l q

        pub image_moved_lem : {m : EndMove} → y ≡ Ok m → (before after : List ℕ) (a : ImageAnswer) → MovesIfMet s c.id m.place m.to m.pin before after a → ExtendWritten (drawing_of s) k at before after a
        image_moved_lem {m} q before after a f =
            let j : ℕ = m.place in
            let x = moving_within (drawing_of s) k at all_so planned q in
            let z : among (point_at_place (drawing_of s) j).id (uses (others c.id (drawing_of s).curves)) ≡ false = ap (λ (i : Curve). among (point_at_place (drawing_of s) j).id (uses (others i.id (drawing_of s).curves))) curve_so ∙ moving_alone (drawing_of s) k at all_so planned q in
            move_extends (drawing_of s) k at all_so planned q (image_valid s e b) within (drawing_numbers s) (f.0, f.1) before after a (f.2 e all_so x z)
