-- To name `opened` on an `unfolding` line opens every definition of float, geom and shape, so that a value is worked out by `refl`. Assumes nothing.
use lib.Ieee.{add, sub, mul, div, neg, lt, le, eq, ne, is_nan, of_int, of_bits}
use Rattle.float.specs.Root.{whole_root, isqrt, closest_root, root, sqrt}
use Rattle.float.specs.Sign.{is_finite, negative, abs, signum}
use Rattle.float.specs.Order.{max, before}
use Rattle.geom.specs.Plane.{normalized}
use Rattle.shape.specs.Turn.{in_quarter, below4, turn, forward, upward, wrapped, quarter, turned, first_quarter, heading}
use Rattle.shape.specs.Measures.{range, is_full, line_param, line_point, param, point, on_circle, project, dist, dist2}
use Rattle.shape.specs.Intersections.{lines, by_sign, line_and_round, rounds, crossings}

unfoldable pub opened : Unit {0}
unfolding add sub mul div neg lt le eq ne is_nan of_int of_bits whole_root isqrt closest_root root sqrt is_finite negative abs signum max before normalized in_quarter below4 turn forward upward wrapped quarter turned first_quarter heading range is_full line_param line_point param point on_circle project dist dist2 lines by_sign line_and_round rounds crossings
opened = tt
