-- A distance held against a bound, by its square. Assumes nothing.
use mathlib.Core.Path.{◌≡◌}
use lib.Dec.{T}
use lib.Ieee.{lt, le}
use Rattle.float.specs.Numbers.{◌⊖◌}
use Rattle.float.specs.Thresholds.{Threshold, bound_of, least_of, most_of, exact}
use Rattle.float.proofs.Lengths.{length_below, length_above, length_at_most, length_at_least}
use Rattle.geom.specs.Plane.{◌-ᵥ◌, dot, distance}
use Rattle.geom.specs.declared.Vec2.{Vec2}

module _ (t : Threshold) (ok : T (exact t)) (p q : Vec2) where
  pub distance_below : lt (distance p q) (bound_of t) ≡ lt (dot (p -ᵥ q) (p -ᵥ q)) (least_of t)
  distance_below = length_below t ok (p.x ⊖ q.x) (p.y ⊖ q.y)

  pub distance_above : lt (bound_of t) (distance p q) ≡ lt (most_of t) (dot (p -ᵥ q) (p -ᵥ q))
  distance_above = length_above t ok (p.x ⊖ q.x) (p.y ⊖ q.y)

  pub distance_at_most : le (distance p q) (bound_of t) ≡ le (dot (p -ᵥ q) (p -ᵥ q)) (most_of t)
  distance_at_most = length_at_most t ok (p.x ⊖ q.x) (p.y ⊖ q.y)

  pub distance_at_least : le (bound_of t) (distance p q) ≡ le (least_of t) (dot (p -ᵥ q) (p -ᵥ q))
  distance_at_least = length_at_least t ok (p.x ⊖ q.x) (p.y ⊖ q.y)
