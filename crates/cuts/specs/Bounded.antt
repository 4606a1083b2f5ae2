-- Whether a point lies on a curve between its ends: on_bounded. Definitions only.
use Rattle.std.specs.Prelude.{Bool, not, ◌&&◌, ◌||◌, Float}
use Rattle.std.specs.Float.Ieee.{lt, le}
use Rattle.float.specs.Numbers.{◌⊕◌, ◌⊖◌, ◌⊘◌, 1e-6, 1e-12}
use Rattle.float.specs.Order.{max}
use Rattle.geom.specs.Plane.{distance}
use Rattle.geom.specs.declared.Vec2.{Vec2}
use Rattle.shape.specs.declared.Shape.{Shape}
use Rattle.shape.specs.declared.Shape.TheVariants.{Line, Round}
use Rattle.shape.specs.Measures.{range, is_full, param, dist}

-- a line's length, and a round's radius
unfoldable pub length_or_radius : Shape → Float
length_or_radius (Line a b) = distance a b
length_or_radius (Round c r start sweep) = r

-- how far beyond its range a parameter may lie: 1e-6 along the curve
unfoldable pub slack : Shape → Float
slack sh = 1e-6 ⊘ max (length_or_radius sh) 1e-12

unfoldable pub in_range : Shape → Float → Bool
in_range sh t = is_full sh || (le ((range sh).start ⊖ slack sh) t && le t ((range sh).end ⊕ slack sh))

-- no more than 1e-6 off, and within its ends but for the slack
unfoldable pub on_bounded : Shape → Vec2 → Bool
on_bounded sh p = not (lt 1e-6 (dist sh p)) && in_range sh (param sh p)
