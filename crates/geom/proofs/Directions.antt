-- When a vector has a direction: by its length, and by the square of that. Assumes nothing.
use mathlib.Core.Path.{◌≡◌}
use mathlib.Core.Bool.{true, false}
use lib.Ieee.{lt}
use Rattle.std.specs.Prelude.{Some, None}
use Rattle.float.specs.Numbers.{1e-12}
use Rattle.float.specs.Thresholds.{least_of, at_1e-12}
use Rattle.float.proofs.Lengths.{length_below, exact_1e-12}
use Rattle.geom.specs.Plane.{◌/ᵥ◌, dot, len, normalized}
use Rattle.geom.specs.declared.Vec2.{Vec2}

module _ (u : Vec2) where
  pub no_direction : lt (len u) 1e-12 ≡ true → normalized u ≡ None
  unfolding normalized
  no_direction h = rw h

  pub direction : lt (len u) 1e-12 ≡ false → normalized u ≡ Some (u /ᵥ len u)
  unfolding normalized
  direction h = rw h

  pub short_by_square : lt (len u) 1e-12 ≡ lt (dot u u) (least_of at_1e-12)
  short_by_square = length_below at_1e-12 exact_1e-12 u.x u.y
