-- For plans that suit, with pins to other curves, the image that is written is that of what the list definition `apply_plan` makes of the drawing.
use mathlib.Core.Path.{◌≡◌, refl, sym, ap, subst, ◌∙◌}
use mathlib.Core.Bool.{Bool, true, false, not}
use mathlib.Core.List.{List, [], ◌∷◌, ◌++◌, map}
use mathlib.Core.Option.{some}
use Prim.Native.Nat.{ℕ, zero, suc, ◌≤◌, ◌<◌}
use native.Mathlib.Omega.{arith}
use lib.Dec.{eqb, leb}
use lib.ListN.{length, take, drop, set, get_or, length-set, length-map}
use lib.Seq.{take_all}
use borrow.Author.Tests.{eq-eqb, ne_eqb, lt-ltb, eqb-true}
use Rattle.big_endian.specs.Fields.{over}
use Rattle.big_endian.specs.Laws.{Bytes}
use Rattle.sketch.specs.declared.Point.{Point}
use Rattle.sketch.specs.declared.Curve.{Curve}
use Rattle.sketch.specs.declared.CurveKind.{CurveKind}
use Rattle.sketch.specs.Lists.{ite, keep, guard_number}
use Rattle.sketch.specs.Lookup.{among}
use Rattle.sketch.specs.Drawing.{Drawing, limits, curve_ids, curve_in}
use Rattle.sketch.specs.Blanks.{no_curve}
use Rattle.sketch.specs.Facts.{Rising, Valid}
use Rattle.sketch.proofs.Bools.{never}
use Rattle.sketch.proofs.Facts.{fault_valid}
use Rattle.sketch.proofs.Lists.{keep_append, keep_true}
use Rattle.image.specs.Records.{curve_size, curve_of}
use Rattle.image.specs.Image.{drawing_of, image_fault, curve_count, point_count, curves_from, curve_rows}
use Rattle.image.specs.Encode.{encode}
use Rattle.image.proofs.GoodImages.{drawing_good}
use Rattle.image.proofs.Tables.{length_rows}
use Rattle.edit_plan.specs.declared.Plan.{Plan}
use Rattle.edit_plan.specs.declared.Plan.TheVariants.{Whole, Cut, CutTwo, Divide, DivideTwo, Move}
use Rattle.edit_plan.specs.declared.Extent.{Extent}
use Rattle.edit_plan.specs.declared.Change.{Change}
use Rattle.edit_plan.specs.declared.Removed.{Removed}
use Rattle.edit_plan.specs.Outcome.{Outcome, refused, accepted}
use Rattle.edit_plan.specs.Tables.{rekind, uses, others}
use Rattle.edit_plan.specs.Steps.{nothing}
use Rattle.edit_plan.specs.ApplyPlan.{apply_plan_to, apply_plan_at, apply_plan}
use Rattle.edit_plan.specs.Suited.{suits, Suited}
use Rattle.edit_plan.specs.Changes.{is_whole, start_of, end_of, change_for, recut, points_new, curves_new, extent_of, staying, candidates_for, whole_gone}
use Rattle.edit_plan.specs.Room.{room_for, left_over}
use Rattle.edit_plan.proofs.Bridge.{unless_refused, unless_refused_none}
use Rattle.edit_plan.proofs.Finals.{same}
use Rattle.edit_plan.proofs.Loops.{look_at, recut_is_map}
use Rattle.edit_plan.proofs.AtOnce.{kept_recut, open_cut, final_of, orphans_of, room_number, start_old, end_old}
use Rattle.edit_plan.proofs.Plans.{rest_of, whole_bridge, cuts_bridge, no_move}
use Rattle.apply.specs.Answers.{Answer}
use Rattle.apply.specs.Applied.{target_in, plan_extent, plan_orphans, plan_change, plan_refusal, changed_by, without_curve, drawing_after, removed_by, Answered, PlanWritten}

-- ---- a curve left out by its id is left out by its place

rising_at : (n b : ℕ) (cs : List Curve) (k : ℕ) → Rising n b (curve_ids cs) → k < length cs → b < (get_or cs k no_curve).id
rising_at n b [] k h q = absurd (omega arith)
rising_at n b (c ∷ cs) zero h q = h.0
rising_at n b (c ∷ cs) (suc k) h q = omega (arith, h.0, rising_at n c.id cs k h.2 (omega arith))

others_low : (n b g : ℕ) (cs : List Curve) → Rising n b (curve_ids cs) → g ≤ b → others g cs ≡ cs
others_low n b g [] h q = refl
others_low n b g (c ∷ cs) h q = rw (ne_eqb g c.id (λ e. omega (arith, h.0)), others_low n c.id g cs h.2 (omega (arith, h.0)))

others_at : (n b : ℕ) (cs : List Curve) (k : ℕ) → Rising n b (curve_ids cs) → k < length cs → others (get_or cs k no_curve).id cs ≡ take k cs ++ drop (suc k) cs
others_at n b [] k h q = absurd (omega arith)
others_at n b (c ∷ cs) zero h q = rw (eq-eqb c.id c.id refl) (others_low n c.id c.id cs h.2 (omega arith))
others_at n b (c ∷ cs) (suc k) h q =
    rw (ne_eqb (get_or cs k no_curve).id c.id (λ e. omega (arith, rising_at n c.id cs k h.2 (omega arith)))) (ap (λ (x : List Curve). c ∷ x) (others_at n c.id cs k h.2 (omega arith)))

whole_plan : (p : Plan) → is_whole p ≡ true → p ≡ Whole
unfolding is_whole
whole_plan Whole q = refl
whole_plan (Cut w b) q = never q
whole_plan (CutTwo w u b) q = never q
whole_plan (Divide u) q = never q
whole_plan (DivideTwo u t) q = never q
whole_plan (Move b u w) q = never q

-- ---- a valid drawing

module _ {d : Drawing} (v : Valid limits d) (k : ℕ) (below : k < length d.curves) where
  abbrev c : Curve
  c = target_in d k

  found : curve_in d.curves c.id ≡ some c
  found = look_at no_curve d.next 0 d.curves k v.curves_rise below

  -- the new points stay: those that go are older
  new_points : (plan : Plan) (n : ℕ) → Suited d c plan → is_whole plan ≡ false → keep (λ (p : Point). staying (orphans_of d c plan) p.id) (points_new (change_for c plan d.next)) ≡ points_new (change_for c plan d.next)
  unfolding candidates_for change_for is_whole
  new_points Whole n s h = never (sym h)
  new_points (Cut w b) n s h =
      let o = open_cut c.kind w b s.kind in
      let old = older b (start_old v c found o) (end_old v c found o) in
      ap (λ x. ite (not x) (points_new (change_for c (Cut w b) d.next)) []) (not_among (λ p. not (among p (uses (others c.id d.curves)))) d.next (ite b (start_of c.kind) (end_of c.kind)) old)
    where
      older : (b : Bool) → start_of c.kind < d.next → end_of c.kind < d.next → ite b (start_of c.kind) (end_of c.kind) < d.next
      older true x y = x
      older false x y = y

      not_among : (f : ℕ → Bool) (i x : ℕ) → x < i → among i (keep f (x ∷ [])) ≡ false
      not_among f i x h = go (f x)
        where
          go : (b : Bool) → among i (ite b (x ∷ []) []) ≡ false
          go true = rw (ne_eqb i x (λ e. omega arith))
          go false = refl
  new_points (CutTwo w u b) n s h = keep_true (λ (p : Point). true) (λ p. refl) _
  new_points (Divide u) n s h = keep_true (λ (p : Point). true) (λ p. refl) _
  new_points (DivideTwo u t) n s h = keep_true (λ (p : Point). true) (λ p. refl) _
  new_points (Move b u w) n s h = no_move c.kind b u w s.kind

  -- the curve at place k with another kind is the one with its id
  set_is : (q : CurveKind) → map (rekind c.id q) d.curves ≡ set d.curves k (recut c q)
  set_is q =
      let n = length d.curves in
      let ls : length (set d.curves k (recut c q)) ≡ n = length-set d.curves k (recut c q) in
      let all : take n d.curves ≡ d.curves = take_all n d.curves (omega arith) in
      let all' : take n (set d.curves k (recut c q)) ≡ set d.curves k (recut c q) = take_all n (set d.curves k (recut c q)) (omega arith) in
      sym (ap (map (rekind c.id q)) all)
      ∙ sym (recut_is_map d.next n d.curves k q below (omega arith) (subst (λ (x : List Curve). Rising d.next 0 (curve_ids x)) (sym all) v.curves_rise))
      ∙ all'

  module _ (plan : Plan) (su : Suited d c plan) where
    abbrev e : Extent
    e = plan_extent d k plan

    abbrev h : Change
    h = plan_change d k plan

    final_is : is_whole plan ≡ false → final_of d c h e (orphans_of d c plan) ≡ changed_by d k e (plan_orphans d k plan) h
    final_is w =
        let os = orphans_of d c plan in
        same _ _ _ _ _ _ _ _ refl
        (keep_append (λ (p : Point). staying os p.id) d.points (points_new h) ∙ ap (λ (x : List Point). keep (λ (p : Point). staying os p.id) d.points ++ x) (new_points plan (length d.curves) su w))
        (ap (λ (x : List Curve). x ++ curves_new h) (set_is h.kept.kind ∙ ap (set d.curves k) (sym (kept_recut c plan d.next)))) refl

    rest_is : rest_of d c e (orphans_of d c plan) ≡ without_curve d k e (plan_orphans d k plan)
    rest_is = same _ _ _ _ _ _ _ _ refl refl (others_at d.next 0 d.curves k v.curves_rise below) refl

    room_is : plan_refusal d k plan ≡ room_for c.kind plan d.next (length d.points) (length d.curves) (left_over e d.relations)
    unfolding guard_number
    room_is = rw (lt-ltb k (length d.curves) below, su.kind)

    abbrev made : Bool → Outcome Drawing Removed
    made b =
        accepted (ite b (without_curve d k e (plan_orphans d k plan)) (changed_by d k e (plan_orphans d k plan) h)) (ite b (whole_gone e) h.removed)

    cut_is : (met : Drawing → Bool) → is_whole plan ≡ false → apply_plan_to met limits d c plan ≡ unless_refused (plan_refusal d k plan) (made (is_whole plan))
    cut_is met w =
        let room = room_number limits d c plan e in
        cuts_bridge v c found met plan su w
        ∙ ap (λ x. unless_refused x (accepted (final_of d c h e (orphans_of d c plan)) h.removed)) (sym (room_is ∙ ap (λ b. ite b 0 room) w))
        ∙ ap (λ x. unless_refused (plan_refusal d k plan) (accepted x h.removed)) (final_is w) ∙ ap (λ b. unless_refused (plan_refusal d k plan) (made b)) (sym w)

    whole_is : (met : Drawing → Bool) → is_whole plan ≡ true → apply_plan_to met limits d c plan ≡ unless_refused (plan_refusal d k plan) (made (is_whole plan))
    whole_is met w =
        let p = whole_plan plan w in
        ap (apply_plan_to met limits d c) p ∙ whole_bridge v c found met (ap (suits c.kind) (sym p) ∙ su.kind)
        ∙ ap (λ x. accepted (rest_of d c (extent_of c.kind c.id x) (orphans_of d c x)) (record { curve = c.id; from = start_of c.kind; to = end_of c.kind })) (sym p)
        ∙ ap (λ x. accepted x (whole_gone e)) rest_is ∙ ap made (sym w) ∙ sym (unless_refused_none (made (is_whole plan)))
        ∙ ap (λ x. unless_refused x (made (is_whole plan))) (sym (room_is ∙ ap (λ b. ite b 0 (room_number limits d c plan e)) w))

    -- the outcome by the list definition, whatever is met
    pub outcome_is : (met : Drawing → Bool) → apply_plan met limits d c.id plan ≡ unless_refused (plan_refusal d k plan) (accepted (drawing_after d k plan) (removed_by d k plan))
    unfolding apply_plan_at
    outcome_is met = ap (apply_plan_at met limits d plan) found ∙ go (is_whole plan) refl
      where
        go : (b : Bool) → is_whole plan ≡ b → apply_plan_to met limits d c plan ≡ unless_refused (plan_refusal d k plan) (made (is_whole plan))
        go true w = whole_is met w
        go false w = cut_is met w

-- ---- an image

-- what an outcome comes to in bytes: a refusal, or the image of the new drawing where it fits
abbrev pub Written : Outcome Drawing Removed → List ℕ → List ℕ → Answer → Type 0
Written (refused n) before after r = (r.refusal ≡ n) × (r.removed ≡ nothing) × (r.size ≡ 0) × (after ≡ before)
Written (accepted d gone) before after r = Answered 0 (encode d) gone before after r

written_is : (n : ℕ) (d : Drawing) (gone : Removed) (before after : List ℕ) (r : Answer) → Answered n (encode d) gone before after r → Written (unless_refused n (accepted d gone)) before after r
unfolding unless_refused
written_is n d gone before after r w = go (eqb n 0) refl
  where
    go : (b : Bool) → eqb n 0 ≡ b → Written (ite b (accepted d gone) (refused n)) before after r
    go true q = subst (λ x. Answered x (encode d) gone before after r) (eqb-true n 0 q) w
    go false q =
        let f : r.refusal ≡ n = w.refusal ∙ ap (λ b. ite b (ite (leb (length (encode d)) (length before)) 0 25) n) q in
        let z : eqb r.refusal 0 ≡ false = ap (λ x. eqb x 0) f ∙ q in
        (f, w.removed ∙ ap (λ b. ite b gone nothing) z, w.size ∙ ap (λ b. ite b (length (encode d)) 0) z, w.bytes ∙ ap (λ b. ite b (over before 0 (encode d)) before) z)

-- a suited plan for the curve at place k of a good image: what is answered and written is the outcome of `apply_plan` on the image's drawing
pub apply_plan_listed : (met : Drawing → Bool) (s : List ℕ) → Bytes s → image_fault s ≡ 0 → (k : ℕ) → k < curve_count s → (plan : Plan) → Suited (drawing_of s) (target_in (drawing_of s) k) plan
    → (before after : List ℕ) (r : Answer) → PlanWritten s k plan before after r → Written (apply_plan met limits (drawing_of s) (target_in (drawing_of s) k).id plan) before after r
apply_plan_listed met s b e k below plan su before after r w =
    let d = drawing_of s in
    let n : length d.curves ≡ curve_count s = length-map (curve_rows s) curve_of ∙ length_rows curve_size (curve_count s) s (curves_from (point_count s)) in
    let o = outcome_is (fault_valid limits d (drawing_good s e b)) k (omega arith) plan su met in
    subst (λ x. Written x before after r) (sym o) (written_is (plan_refusal d k plan) (drawing_after d k plan) (removed_by d k plan) before after r (w e))
