-- The plan of a line's extend: the end that moves, the point where it meets another curve, and its pin there. Definitions only.
use Rattle.std.specs.Prelude.{ℕ, Bool, false, not, ◌||◌, cond, List, [], ◌∷◌, eqb}
use Rattle.std.proofs.Math.Option.{some, none}
use Rattle.std.specs.Float.Ieee.{le}
use Rattle.geom.specs.Plane.{distance}
use Rattle.geom.specs.declared.Vec2.{Vec2}
use Rattle.shape.specs.declared.Shape.TheVariants as S
use Rattle.shape.specs.Measures.{param, point}
use Rattle.sketch.specs.declared.Point.{Point}
use Rattle.sketch.specs.declared.Curve.{Curve}
use Rattle.sketch.specs.declared.CurveKind.{CurveKind}
use Rattle.sketch.specs.declared.CurveKind.TheVariants.{Line, Arc, Circle, Bezier, Conic}
use Rattle.sketch.specs.Lists.{ite}
use Rattle.sketch.specs.Lookup.{among}
use Rattle.sketch.specs.Drawing.{Drawing, curve_in}
use Rattle.sketch_geometry.specs.Geometry.{position_of}
use Rattle.relations.specs.Met.{all_met}
use Rattle.edit_plan.specs.declared.Plan.TheVariants as P
use Rattle.edit_plan.specs.Tables.{uses, others}
use Rattle.edit_plan.specs.Steps.{ends_at}
use Rattle.refusal.specs.Refusals.{Refused, Accepted}
use Rattle.planning.specs.Planning.{PlanResult, guard_plan, pin_to}
use Rattle.hit_search.specs.NearestHit.{Support, Search, stopped, finished, nearest_hit}

-- 17 where two lie as near, 18 where there is none
unfoldable pub plan_move : Drawing → Bool → Search → PlanResult
plan_move d at_b (stopped n) = Refused n
plan_move d at_b (finished none) = Refused 18
plan_move d at_b (finished (some b)) =
    guard_plan (not b.tied) 17
    (Accepted (P.Move at_b b.at (pin_to d.points b.at b.by (ends_at (curve_in d.curves b.by)))))

unfoldable pub is_fixed : List Point → ℕ → Bool
is_fixed [] i = false
is_fixed (p ∷ ps) i = ite (eqb i p.id) p.fixed (is_fixed ps i)

-- 14 where the end is used by another curve, or is fixed
unfoldable pub extend_end : Drawing → ℕ → Vec2 → Support → ℕ → PlanResult
extend_end d c p s end =
    let rest = others c d.curves in
    let line = S.Line s.a s.b in
    guard_plan (not (among end (uses rest) || is_fixed d.points end)) 14
    (plan_move d s.at_b (nearest_hit d.points s (point line (param line p)) rest none 1000000))

-- anything but a line is refused by 10, and then relations that are not met by 13; the end nearer to the pick moves, b where they are as near
unfoldable pub extend_curve : Drawing → Vec2 → Curve → CurveKind → PlanResult
extend_curve d p c (Line i j) =
    let a = position_of d.points i in
    let b = position_of d.points j in
    let at_b = le (distance p b) (distance p a) in
    guard_plan (all_met d) 13 (extend_end d c.id p (record { a = a; b = b; at_b = at_b }) (cond at_b j i))
extend_curve d p c (Arc m i j) = Refused 10
extend_curve d p c (Circle m r) = Refused 10
extend_curve d p c (Bezier n) = Refused 10
extend_curve d p c (Conic i m j rho) = Refused 10
