-- Freeform curves, which are one piece each, and their points. Each operation is rounded once, from left to right. Definitions only.
use Rattle.std.specs.Prelude.{List, [], ◌∷◌, map, Float}
use Rattle.float.specs.Numbers.{1f}
use Rattle.geom.specs.Plane.{vec, ◌·ᵥ◌, ◌/ᵥ◌}
use Rattle.geom.specs.declared.Vec2.{Vec2}
use Rattle.bernstein.specs.Evaluate.{evaluate_of}

-- a Bézier curve by its points, or a conic by its start, apex and end and the apex's weight
pub data Freeform : Type 0 where
  bezier : List Vec2 → Freeform
  conic : Vec2 → Vec2 → Vec2 → Float → Freeform

abbrev pub controls : Freeform → List Vec2
controls (bezier ps) = ps
controls (conic a m b w) = a ∷ m ∷ b ∷ []

abbrev pub weights : Freeform → List Float
weights (bezier ps) = map (λ p. 1f) ps
weights (conic a m b w) = 1f ∷ w ∷ 1f ∷ []

-- a polynomial in each coordinate
abbrev pub evaluate_at : List Vec2 → Float → Vec2
evaluate_at ps t = vec (evaluate_of (map (λ p. p.x) ps) t) (evaluate_of (map (λ p. p.y) ps) t)

-- a conic's is that of the coordinates times the weights, over that of the weights
unfoldable pub point_at : Freeform → Float → Vec2
point_at (bezier ps) t = evaluate_at ps t
point_at (conic a m b w) t = evaluate_at (a ·ᵥ 1f ∷ m ·ᵥ w ∷ b ·ᵥ 1f ∷ []) t /ᵥ evaluate_of (1f ∷ w ∷ 1f ∷ []) t
