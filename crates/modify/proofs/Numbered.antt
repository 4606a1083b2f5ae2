-- By which numbers an edit is refused: never by 0 (`edit_numbered`); a trim or split by none that comes with a place (`cut_number`); an extend by 13 and 19
-- where relations are not met (`extend_refused_lem`). Assumes nothing.
use mathlib.Core.Path.{◌≡◌, refl, sym, ap, ◌∙◌, subst}
use mathlib.Core.Bool.{Bool, true, false, cond}
use mathlib.Core.List.{List, [], ◌∷◌}
use mathlib.Core.Option.{Option, some, none}
use Prim.Native.Nat.{ℕ, ◌≤◌, ◌<◌}
use native.Mathlib.Omega.{arith}
use lib.Dec.{eqb}
use borrow.Author.Tests.{eqb-false}
use Rattle.geom.specs.declared.Vec2.{Vec2}
use Rattle.shape.specs.declared.Shape.{Shape}
use Rattle.shape.specs.Measures.{is_full, point}
use Rattle.sketch.specs.declared.Curve.{Curve}
use Rattle.sketch.specs.declared.CurveKind.{CurveKind}
use Rattle.sketch.specs.declared.CurveKind.TheVariants.{Line, Arc, Circle, Bezier, Conic}
use Rattle.sketch.specs.Lookup.{among}
use Rattle.sketch.specs.Drawing.{Drawing, limits, curve_in}
use Rattle.sketch.proofs.Bools.{never}
use Rattle.image.specs.Image as I
use Rattle.message.specs.declared.Operation.{Operation}
use Rattle.message.specs.declared.Operation.TheVariants.{Trim, Split, Extend}
use Rattle.sketch_geometry.specs.Geometry.{shape_of}
use Rattle.cuts.specs.declared.Cut.{Cut}
use Rattle.cuts.specs.Bracket.{bracket}
use Rattle.relations.specs.Met.{all_met}
use Rattle.edit_plan.specs.declared.Pin.{Pin}
use Rattle.edit_plan.specs.declared.Plan.{Plan}
use Rattle.edit_plan.specs.declared.Plan.TheVariants as P
use Rattle.edit_plan.specs.Outcome.{refused, accepted, guard}
use Rattle.edit_plan.specs.Tables.{ok_position}
use Rattle.edit_plan.specs.Steps.{is_line, nothing}
use Rattle.edit_plan.specs.ApplyPlan.{apply_plan}
use Rattle.chains.proofs.Refusals.{By, cutting, moving, suited_refusals, move_refusals, move_fails}
use Rattle.refusal.specs.Refusals.{Refused, Accepted}
use Rattle.planning.specs.Planning.{PlanResult, guard_plan, cuts_of, param_of_pick, split_full, at_end, split_plan, trim_curve, split_curve}
use Rattle.planning.proofs.Suits.{guard_plan_accepted, trim_curve_suited, split_curve_suited}
use Rattle.extend.specs.Extend.{extend_curve}
use Rattle.extend.specs.ExtendAnswer.{apply_planned}
use Rattle.extend.proofs.Places.{Placeless, placeless_below}
use Rattle.extend.proofs.Refusing.{extend_number}
use Rattle.extend.proofs.Moves.{extend_moves_end}
use Rattle.modify.specs.Edits.{plan_on_curve, plan_on_found, plan_edit, edit_of, edit_untested}
use Rattle.modify.specs.ImageEdits.{edit_image}

-- ---- the plan

-- a refusal's number is so
abbrev PlanNumber : (ℕ → Type 0) → PlanResult → Type 0
PlanNumber P (Refused n) = P n
PlanNumber P (Accepted plan) = Unit {0}

guarded : (P : ℕ → Type 0) (b : Bool) (n : ℕ) (o : PlanResult) → P n → PlanNumber P o → PlanNumber P (guard_plan b n o)
unfolding guard_plan
guarded P true n o h k = k
guarded P false n o h k = h

-- a cut's number: above 0, and with no place
abbrev CutNumber : ℕ → Type 0
CutNumber n = (n ≡ 0 → ⊥) × Placeless n

-- those of a cut's plan are 8 to 12
low_cut_number : (n : ℕ) → 0 < n → n ≤ 12 → CutNumber n
low_cut_number n h k = (λ z. omega arith, placeless_below k)

trim_number : (d : Drawing) (p : Vec2) (c : Curve) (o : Option Shape) → PlanNumber CutNumber (trim_curve d p c o)
unfolding trim_curve
trim_number d p c none = low_cut_number 10 (omega arith) (omega arith)
trim_number d p c (some sh) = guarded CutNumber _ 10 _ (low_cut_number 10 (omega arith) (omega arith)) (guarded CutNumber _ 11 _ (low_cut_number 11 (omega arith) (omega arith)) tt)

split_number : (d : Drawing) (p : Vec2) (c : Curve) (o : Option Shape) → PlanNumber CutNumber (split_curve d p c o)
unfolding split_curve split_plan split_full
split_number d p c none = low_cut_number 10 (omega arith) (omega arith)
split_number d p c (some sh) =
    guarded CutNumber _ 10 _ (low_cut_number 10 (omega arith) (omega arith))
    (guarded CutNumber _ 11 _ (low_cut_number 11 (omega arith) (omega arith)) (let t = param_of_pick sh p in go (is_full sh) (bracket sh t (cuts_of d c.id sh)) (at_end sh t) (P.Divide (point sh t))))
  where
    full : (cs : List Cut) → PlanNumber CutNumber (split_full sh cs)
    full [] = low_cut_number 12 (omega arith) (omega arith)
    full (k ∷ []) = low_cut_number 12 (omega arith) (omega arith)
    full (k ∷ j ∷ l) = tt

    go : (a : Bool) (cs : List Cut) (b : Bool) (plan : Plan) → PlanNumber CutNumber (cond a (split_full sh cs) (cond b (Refused 12) (Accepted plan)))
    go true cs b plan = full cs
    go false cs true plan = low_cut_number 12 (omega arith) (omega arith)
    go false cs false plan = tt

failed : (b : Bool) (k : ℕ) (o : PlanResult) (n : ℕ) → b ≡ false → guard_plan b k o ≡ Refused n → k ≡ n
unfolding guard_plan
failed true k o n h e = never (sym h)
failed false k o n h e = cc

-- the number of an extend's plan: above 0, not 19, and 13 only where relations are not met
pub record ExtendPlanNumber (d : Drawing) (n : ℕ) : Type 0 where
  pub some_number : n ≡ 0 → ⊥
  pub unmet_13 : n ≡ 13 → all_met d ≡ false
  pub not_19 : n ≡ 19 → ⊥

placeless_number : (d : Drawing) (n : ℕ) → (n ≡ 0 → ⊥) → Placeless n → ExtendPlanNumber d n
placeless_number d n h k = record { some_number = h; unmet_13 = λ z. absurd (k.not_13 z); not_19 = k.not_19 }

extend_plan_number : (d : Drawing) (p : Vec2) (c : Curve) (k : CurveKind) → PlanNumber (ExtendPlanNumber d) (extend_curve d p c k)
unfolding extend_curve guard_plan
extend_plan_number d p c k = go (extend_curve d p c k) refl
  where
    other : (n : ℕ) → 10 ≡ n → ExtendPlanNumber d n
    other n e = placeless_number d n (λ z. omega arith) (placeless_below (omega arith))

    unmet : (k : CurveKind) (n : ℕ) → all_met d ≡ false → extend_curve d p c k ≡ Refused n → ExtendPlanNumber d n
    unmet (Line i j) n m e = let y = failed (all_met d) 13 _ n m e in record { some_number = λ z. omega arith; unmet_13 = λ z. m; not_19 = λ z. omega arith }
    unmet (Arc m i j) n h e = other n cc
    unmet (Circle m r) n h e = other n cc
    unmet (Bezier m) n h e = other n cc
    unmet (Conic i m j rho) n h e = other n cc

    by_met : (b : Bool) → all_met d ≡ b → (n : ℕ) → extend_curve d p c k ≡ Refused n → ExtendPlanNumber d n
    by_met true m n e = let h = extend_number d p c k n m e in placeless_number d n h.0 h.1
    by_met false m n e = unmet k n m e

    go : (o : PlanResult) → extend_curve d p c k ≡ o → PlanNumber (ExtendPlanNumber d) o
    go (Refused n) e = by_met (all_met d) refl n e
    go (Accepted plan) e = tt

-- ---- the plan of the curve that is named

module _ (d : Drawing) (t : ℕ) (p : Vec2) where
  cut_found : (op : Operation) → (op ≡ Extend → ⊥) → (o : Option Curve) → PlanNumber CutNumber (plan_on_found op d p o)
  unfolding plan_on_found plan_on_curve
  cut_found op ne none = low_cut_number 8 (omega arith) (omega arith)
  cut_found Trim ne (some c) = trim_number d p c (shape_of d.points c.kind)
  cut_found Split ne (some c) = split_number d p c (shape_of d.points c.kind)
  cut_found Extend ne (some c) = absurd (ne refl)

  cut_planned : (op : Operation) → (op ≡ Extend → ⊥) → PlanNumber CutNumber (plan_edit op d t p)
  cut_planned op ne = guarded CutNumber (ok_position p) 9 _ (low_cut_number 9 (omega arith) (omega arith)) (cut_found op ne (curve_in d.curves t))

  extend_found : (o : Option Curve) → PlanNumber (ExtendPlanNumber d) (plan_on_found Extend d p o)
  unfolding plan_on_found plan_on_curve
  extend_found none = placeless_number d 8 (λ z. omega arith) (placeless_below (omega arith))
  extend_found (some c) = extend_plan_number d p c c.kind

  extend_planned : PlanNumber (ExtendPlanNumber d) (plan_edit Extend d t p)
  extend_planned = guarded (ExtendPlanNumber d) (ok_position p) 9 _ (placeless_number d 9 (λ z. omega arith) (placeless_below (omega arith))) (extend_found (curve_in d.curves t))

  -- ---- the plan applied

  planned_found : (op : Operation) (plan : Plan) → plan_edit op d t p ≡ Accepted plan → plan_on_found op d p (curve_in d.curves t) ≡ Accepted plan
  planned_found op plan e = (guard_plan_accepted (ok_position p) 9 (plan_on_found op d p (curve_in d.curves t)) plan e).1

  cut_applied : (op : Operation) → (op ≡ Extend → ⊥) → (plan : Plan) → plan_edit op d t p ≡ Accepted plan → By cutting (apply_plan all_met limits d t plan)
  unfolding plan_on_found plan_on_curve
  cut_applied op ne plan e = go (curve_in d.curves t) refl op ne (planned_found op plan e)
    where
      go : (o : Option Curve) → curve_in d.curves t ≡ o → (op : Operation) → (op ≡ Extend → ⊥) → plan_on_found op d p o ≡ Accepted plan → By cutting (apply_plan all_met limits d t plan)
      go none f op ne h = let z : ◌≡◌ {A = ℕ} 0 1 = cc in absurd (omega arith)
      go (some c) f Trim ne h = suited_refusals limits all_met d t c plan f (trim_curve_suited d p c plan h).kind
      go (some c) f Split ne h = suited_refusals limits all_met d t c plan f (split_curve_suited d p c plan h).kind
      go (some c) f Extend ne h = absurd (ne refl)

  -- the plan of an extend is the move of a line's end
  record MovesLine (plan : Plan) : Type 0 where
    pub curve : Curve
    pub found : curve_in d.curves t ≡ some curve
    pub line : is_line curve.kind ≡ true
    pub at_b : Bool
    pub to : Vec2
    pub pin : Pin
    pub is : plan ≡ P.Move at_b to pin

  moves_line : (plan : Plan) → plan_edit Extend d t p ≡ Accepted plan → MovesLine plan
  unfolding plan_on_found plan_on_curve
  moves_line plan e = go (curve_in d.curves t) refl (planned_found Extend plan e)
    where
      go : (o : Option Curve) → curve_in d.curves t ≡ o → plan_on_found Extend d p o ≡ Accepted plan → MovesLine plan
      go none f h = let z : ◌≡◌ {A = ℕ} 0 1 = cc in absurd (omega arith)
      go (some c) f h =
          let w = extend_moves_end d c p plan h in
          record { curve = c; found = f; line = w.0; at_b = w.1.at_end; to = w.1.place; pin = w.1.pin; is = w.1.is }

  extend_applied : (plan : Plan) → plan_edit Extend d t p ≡ Accepted plan → By moving (apply_plan all_met limits d t plan)
  extend_applied plan e =
      let w = moves_line plan e in
      subst (λ (x : Plan). By moving (apply_plan all_met limits d t x)) (sym w.is) (move_refusals limits all_met d t w.curve w.at_b w.to w.pin w.found w.line)

  -- ---- the edit

  -- a cut's refusal comes with no place
  pub cut_number : (op : Operation) → (op ≡ Extend → ⊥) → (n : ℕ) → edit_of op limits d t p ≡ refused n → CutNumber n
  unfolding apply_planned
  cut_number op ne n q = go (plan_edit op d t p) refl (cut_planned op ne) q
    where
      applied_number : (k : ℕ) → among k cutting ≡ true → CutNumber k
      applied_number k h = (
        λ z. never (subst (λ (j : ℕ). among j cutting ≡ true) z h),
        record { not_13 = λ z. never (subst (λ (j : ℕ). among j cutting ≡ true) z h); not_19 = λ z. never (subst (λ (j : ℕ). among j cutting ≡ true) z h) },
      )

      go : (o : PlanResult) → plan_edit op d t p ≡ o → PlanNumber CutNumber o → apply_planned all_met limits d t o ≡ refused n → CutNumber n
      go (Refused k) e h q = let y : k ≡ n = cc in subst CutNumber y h
      go (Accepted plan) e h q = applied_number n (subst (By cutting) q (cut_applied op ne plan e))

  -- an extend's 13 says that a relation is not met, and its 19 that one would not be met in the drawing that it would have left
  pub record ExtendNumber (n : ℕ) : Type 0 where
    pub some_number : n ≡ 0 → ⊥
    pub unmet_before_lem : n ≡ 13 → all_met d ≡ false
    pub unmet_after_lem : n ≡ 19 → (d' : Drawing) × (edit_untested Extend limits d t p ≡ accepted d' nothing) × (all_met d' ≡ false)

  pub extend_refused_lem : (n : ℕ) → edit_of Extend limits d t p ≡ refused n → ExtendNumber n
  unfolding apply_planned
  extend_refused_lem n q = go (plan_edit Extend d t p) refl extend_planned q
    where
      left : (plan : Plan) → plan_edit Extend d t p ≡ Accepted plan → apply_plan all_met limits d t plan ≡ refused 19 → (d' : Drawing) × (edit_untested Extend limits d t p ≡ accepted d' nothing) × (all_met d' ≡ false)
      left plan e q =
          let w = moves_line plan e in
          let (d', here, fails) = move_fails limits all_met d t w.curve w.at_b w.to w.pin w.found w.line (ap (apply_plan all_met limits d t) (sym w.is) ∙ q) in
          (d', ap (apply_planned (λ x. true) limits d t) e ∙ ap (apply_plan (λ x. true) limits d t) w.is ∙ here, fails)

      go : (o : PlanResult) → plan_edit Extend d t p ≡ o → PlanNumber (ExtendPlanNumber d) o → apply_planned all_met limits d t o ≡ refused n → ExtendNumber n
      go (Refused k) e h q =
          let y : k ≡ n = cc in
          record { some_number = λ z. h.some_number (y ∙ z); unmet_before_lem = λ z. h.unmet_13 (y ∙ z); unmet_after_lem = λ z. absurd (h.not_19 (y ∙ z)) }
      go (Accepted plan) e h q =
          let m : among n moving ≡ true = subst (By moving) q (extend_applied plan e) in
          record {
            some_number = λ z. never (subst (λ (j : ℕ). among j moving ≡ true) z m);
            unmet_before_lem = λ z. never (subst (λ (j : ℕ). among j moving ≡ true) z m);
            unmet_after_lem = λ z. left plan e (q ∙ ap refused z);
          }

pub edit_numbered : (op : Operation) (d : Drawing) (t : ℕ) (p : Vec2) → edit_of op limits d t p ≡ refused 0 → ⊥
edit_numbered Trim d t p q = (cut_number d t p Trim (λ e. let z : ◌≡◌ {A = ℕ} 0 1 = cc in omega arith) 0 q).0 refl
edit_numbered Split d t p q = (cut_number d t p Split (λ e. let z : ◌≡◌ {A = ℕ} 0 1 = cc in omega arith) 0 q).0 refl
edit_numbered Extend d t p q = (extend_refused_lem d t p 0 q).some_number refl

-- nor is an image's edit
pub image_edit_numbered : (op : Operation) (s : List ℕ) (t : ℕ) (p : Vec2) → edit_image op s t p ≡ refused 0 → ⊥
unfolding guard
image_edit_numbered op s t p q = go (eqb (I.image_fault s) 0) refl q
  where
    go : (b : Bool) → eqb (I.image_fault s) 0 ≡ b → guard b (I.image_fault s) (edit_of op limits (I.drawing_of s) t p) ≡ refused 0 → ⊥
    go true e q = edit_numbered op (I.drawing_of s) t p q
    go false e q = let y : I.image_fault s ≡ 0 = cc in eqb-false (I.image_fault s) 0 e y
