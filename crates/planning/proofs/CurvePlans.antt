-- The plan for a curve, one law for each way out of the code. Assumes nothing.
use mathlib.Core.Path.{◌≡◌, sym, ap, ◌∙◌}
use mathlib.Core.Bool.{Bool, true, false, not, ◌&&◌, ◌||◌, cond}
use mathlib.Core.List.{List}
use mathlib.Core.Option.{some, none}
use Prim.Native.Nat.{ℕ}
use native.Mathlib.Omega.{arith}
use Rattle.geom.specs.declared.Vec2.{Vec2}
use Rattle.shape.specs.declared.Shape.{Shape}
use Rattle.shape.specs.Measures.{circle, is_full, point}
use Rattle.sketch.specs.declared.Curve.{Curve}
use Rattle.sketch.specs.declared.CurveKind.{CurveKind}
use Rattle.sketch.specs.declared.CurveKind.TheVariants.{Line, Arc, Circle, Bezier, Conic}
use Rattle.sketch.specs.Drawing.{Drawing}
use Rattle.sketch_geometry.specs.Geometry.{position_of, shape_of}
use Rattle.cuts.specs.declared.Cutter.{Cutter}
use Rattle.cuts.specs.Cuts.{cut_points, cutters_of}
use Rattle.cuts.specs.Bracket.{bracket}
use Rattle.edit_plan.specs.declared.Plan.{Plan}
use Rattle.edit_plan.specs.declared.Plan.TheVariants as P
use Rattle.edit_plan.specs.Tables.{others}
use Rattle.edit_plan.specs.Changes.{is_circle}
use Rattle.refusal.specs.Refusals.{Refused, Accepted}
use Rattle.planning.specs.Planning.{PlanResult, guard_plan, param_of_pick, trim_plan, split_full, at_end, split_plan, is_full_arc, no_freeform, trim_curve, split_curve}
use Rattle.planning.proofs.Suits.{circle_full}

module _ (d : Drawing) (p : Vec2) (c : Curve) where
  pub trim_bare : none ≡ shape_of d.points c.kind → Refused 10 ≡ trim_curve d p c (shape_of d.points c.kind)
  unfolding trim_curve
  trim_bare e = sym (rw (← e))

  pub split_bare : none ≡ shape_of d.points c.kind → Refused 10 ≡ split_curve d p c (shape_of d.points c.kind)
  unfolding split_curve
  split_bare e = sym (rw (← e))

  module _ (sh : Shape) (e : some sh ≡ shape_of d.points c.kind) where
    module _ {full round : Bool} (u : full ≡ is_full sh) (v : round ≡ is_circle c.kind) where
      barred : (c.infinite || (full && not round)) ≡ (c.infinite || is_full_arc c sh)
      unfolding is_full_arc
      barred = rw (u, v)

      pub trim_barred : c.infinite || (full && not round) ≡ true → Refused 10 ≡ trim_curve d p c (shape_of d.points c.kind)
      unfolding trim_curve guard_plan
      trim_barred h = sym (rw (← e, sym barred ∙ h))

      pub trim_beside : c.infinite || (full && not round) ≡ false → (f : Bool) → not f ≡ no_freeform d → f ≡ true → Refused 11 ≡ trim_curve d p c (shape_of d.points c.kind)
      unfolding trim_curve guard_plan
      trim_beside h f g t = sym (rw (← e, sym barred ∙ h, sym g ∙ ap not t))

      pub trim_planned : c.infinite || (full && not round) ≡ false → (f : Bool) → not f ≡ no_freeform d → f ≡ false → {plan : Plan} → plan ≡ trim_plan d c.id sh p → Accepted plan ≡ trim_curve d p c (shape_of d.points c.kind)
      unfolding trim_curve guard_plan
      trim_planned h f g t k = rw k (sym (rw (← e, sym barred ∙ h, sym g ∙ ap not t)))

    module _ (v : is_circle c.kind ≡ false) where
      pub split_barred : is_full sh ≡ true → Refused 10 ≡ split_curve d p c (shape_of d.points c.kind)
      unfolding split_curve guard_plan is_full_arc
      split_barred h = sym (rw (← e, v, h))

      pub split_inside : is_full sh ≡ false → {r : PlanResult} → r ≡ cond (at_end sh (param_of_pick sh p)) (Refused 12) (Accepted (P.Divide (point sh (param_of_pick sh p)))) → r ≡ split_curve d p c (shape_of d.points c.kind)
      unfolding split_curve guard_plan is_full_arc split_plan
      split_inside h k = k ∙ sym (rw (← e, v, h))

    -- a circle is full
    round_full : (k : CurveKind) → is_circle k ≡ true → some sh ≡ shape_of d.points k → is_full sh ≡ true
    unfolding is_circle shape_of
    round_full (Line a b) h f = let z : ◌≡◌ {A = ℕ} 0 1 = cc in absurd (omega arith)
    round_full (Arc o a b) h f = let z : ◌≡◌ {A = ℕ} 0 1 = cc in absurd (omega arith)
    round_full (Circle o r) h f = let q : sh ≡ circle (position_of d.points o) r = cc in ap is_full q ∙ circle_full (position_of d.points o) r
    round_full (Bezier n) h f = let z : ◌≡◌ {A = ℕ} 0 1 = cc in absurd (omega arith)
    round_full (Conic a m b rho) h f = let z : ◌≡◌ {A = ℕ} 0 1 = cc in absurd (omega arith)

    module _ (v : is_circle c.kind ≡ true) (f : Bool) (g : not f ≡ no_freeform d) where
      pub split_beside : f ≡ true → Refused 11 ≡ split_curve d p c (shape_of d.points c.kind)
      unfolding split_curve guard_plan is_full_arc
      split_beside t = sym (rw (← e, round_full c.kind v e, v, sym g ∙ ap not t))

      pub split_round : f ≡ false → {os : List Cutter} → os ≡ cutters_of d.points (others c.id d.curves) → {r : PlanResult} → r ≡ split_full sh (bracket sh (param_of_pick sh p) (cut_points sh os)) → r ≡ split_curve d p c (shape_of d.points c.kind)
      unfolding split_curve guard_plan is_full_arc split_plan
      split_round t {os} o k = k ∙ ap (λ l. split_full sh (bracket sh (param_of_pick sh p) (cut_points sh l))) o ∙ sym (rw (← e, round_full c.kind v e, v, sym g ∙ ap not t))
