-- The distance from a shape held against a bound, by its square. Assumes nothing.
use mathlib.Core.Path.{◌≡◌}
use lib.Dec.{T}
use lib.Ieee.{lt, le}
use Rattle.float.specs.Thresholds.{Threshold, bound_of, least_of, most_of, exact}
use Rattle.geom.specs.declared.Vec2.{Vec2}
use Rattle.geom.proofs.Distances.{distance_below, distance_above, distance_at_most, distance_at_least}
use Rattle.shape.specs.declared.Shape.{Shape}
use Rattle.shape.specs.Measures.{project, dist, dist2}

module _ (t : Threshold) (ok : T (exact t)) (sh : Shape) (p : Vec2) where
  pub dist_below : lt (dist sh p) (bound_of t) ≡ lt (dist2 sh p) (least_of t)
  unfolding dist dist2
  dist_below = distance_below t ok p (project sh p)

  pub dist_above : lt (bound_of t) (dist sh p) ≡ lt (most_of t) (dist2 sh p)
  unfolding dist dist2
  dist_above = distance_above t ok p (project sh p)

  pub dist_at_most : le (dist sh p) (bound_of t) ≡ le (dist2 sh p) (most_of t)
  unfolding dist dist2
  dist_at_most = distance_at_most t ok p (project sh p)

  pub dist_at_least : le (bound_of t) (dist sh p) ≡ le (least_of t) (dist2 sh p)
  unfolding dist dist2
  dist_at_least = distance_at_least t ok p (project sh p)
