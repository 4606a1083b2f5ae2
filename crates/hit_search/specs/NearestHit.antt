-- The nearest hit of a line beyond one of its ends: the line, its hits with other curves, and the nearest of them. Definitions only.
use Rattle.std.specs.Prelude.{ℕ, Bool, false, true, not, ◌&&◌, ◌||◌, cond, List, [], ◌∷◌, map, eqb, Float}
use Rattle.std.proofs.Math.Option.{Option, some, none}
use Rattle.std.specs.Float.Ieee.{lt, le, neg}
use Rattle.float.specs.Numbers.{◌⊖◌, ◌⊗◌, ◌⊘◌, 1f, 1e-7, 1e-6}
use Rattle.float.specs.Sign.{abs}
use Rattle.geom.specs.Plane.{distance}
use Rattle.geom.specs.declared.Vec2.{Vec2}
use Rattle.shape.specs.declared.Shape.{Shape}
use Rattle.shape.specs.declared.Shape.TheVariants as S
use Rattle.shape.specs.Measures.{arc, circle, param}
use Rattle.sketch.specs.declared.Point.{Point}
use Rattle.sketch.specs.declared.Curve.{Curve}
use Rattle.sketch.specs.declared.CurveKind.{CurveKind}
use Rattle.sketch.specs.declared.CurveKind.TheVariants.{Line, Arc, Circle, Bezier, Conic}
use Rattle.sketch.specs.Drawing.{uses_of}
use Rattle.sketch_geometry.specs.Geometry.{position_of}
use Rattle.support.specs.Freeform.{bezier, conic}
use Rattle.support.specs.Hits as H
use Rattle.support.specs.Hits.{shape_hits, freeform_hits, endless_line}

-- ---- the support

-- the line from a to b, and whether it is its end b that moves
pub record Support : Type 0 where
  pub a : Vec2
  pub b : Vec2
  pub at_b : Bool

-- how far beyond that end a place on the line lies
unfoldable pub gap_of : Support → Vec2 → Float
gap_of s q =
    let t = param (S.Line s.a s.b) q in
    let l = distance s.a s.b in
    cond s.at_b ((t ⊖ 1f) ⊗ l) (neg t ⊗ l)

-- ---- the hits of the line with other curves

-- an infinite line reaches far beyond its points, from the place next to the pick
unfoldable pub boundary : Bool → Shape → Vec2 → Shape
boundary infinite (S.Line a b) near = cond infinite (endless_line a b near) (S.Line a b)
boundary infinite (S.Round c r start sweep) near = S.Round c r start sweep

-- the hits with a curve; a conic's weight is rho over 1 − rho
unfoldable pub curve_hits : List Point → Support → Vec2 → Curve → CurveKind → ℕ → H.HitsResult
curve_hits ps s near o (Line a b) budget = shape_hits s.a s.b (boundary o.infinite (S.Line (position_of ps a) (position_of ps b)) near) budget
curve_hits ps s near o (Arc c a b) budget = shape_hits s.a s.b (arc (position_of ps c) (position_of ps a) (position_of ps b)) budget
curve_hits ps s near o (Circle c r) budget = shape_hits s.a s.b (circle (position_of ps c) r) budget
curve_hits ps s near o (Bezier n) budget = freeform_hits s.a s.b (bezier (map (position_of ps) (uses_of (Bezier n) o.slots))) budget
curve_hits ps s near o (Conic a m b rho) budget = freeform_hits s.a s.b (conic (position_of ps a) (position_of ps m) (position_of ps b) (rho ⊘ (1f ⊖ rho))) budget

-- ---- the nearest

-- a hit of the curve `by`, and whether another lies as near
pub record Best : Type 0 where
  pub gap : Float
  pub at : Vec2
  pub by : ℕ
  pub tied : Bool

-- nearer by more than 1e-7 is better; within 1e-7 of the best it ties with it, unless it is the same curve at the same place
unfoldable pub better : Float → Vec2 → ℕ → Option Best → Option Best
better gap q by none = some record { gap = gap; at = q; by = by; tied = false }
better gap q by (some b) =
    cond (lt gap (b.gap ⊖ 1e-7)) (some record { gap = gap; at = q; by = by; tied = false })
    (cond (le (abs (gap ⊖ b.gap)) 1e-7 && (not (eqb b.by by) || lt 1e-7 (distance b.at q)))
    (some record { gap = b.gap; at = b.at; by = b.by; tied = true })
    (some b))

-- only what lies more than 1e-6 beyond the end counts
unfoldable pub best_of : Support → ℕ → Option Best → List Vec2 → Option Best
best_of s by best [] = best
best_of s by best (q ∷ qs) =
    let gap = gap_of s q in
    let now = cond (lt 1e-6 gap) (better gap q by best) best in
    best_of s by now qs

-- the search over the other curves, in order, within one budget
pub data Search : Type 0 where
  stopped : ℕ → Search
  finished : Option Best → Search

-- a refusal of the hits ends it
unfoldable pub continue_with : (List Vec2 → ℕ → Search) → H.HitsResult → Search
continue_with rest (H.found qs b) = rest qs b
continue_with rest (H.refused n b) = stopped n

unfoldable pub nearest_hit : List Point → Support → Vec2 → List Curve → Option Best → ℕ → Search
nearest_hit ps s near [] best budget = finished best
nearest_hit ps s near (o ∷ os) best budget = continue_with (λ qs left. nearest_hit ps s near os (best_of s o.id best qs) left) (curve_hits ps s near o o.kind budget)
