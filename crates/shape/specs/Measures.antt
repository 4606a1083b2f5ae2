-- Measures of a line and of a round: parameter, point, projection, distance and range. Projection and distance go to the endless line or the
-- full circle. Each operation is rounded once, from left to right. Definitions only.
use Rattle.std.specs.Prelude.{Bool, false, Option, Some, None, Float}
use Rattle.std.specs.Float.Ieee.{le}
use Rattle.float.specs.Numbers.{◌⊕◌, ◌⊖◌, ◌⊘◌, 0f, 1f, 4f, 1e-12, 1e-30}
use Rattle.float.specs.Order.{max}
use Rattle.geom.specs.Plane.{vec, ◌+ᵥ◌, ◌-ᵥ◌, ◌·ᵥ◌, dot, len, distance, normalized}
use Rattle.geom.specs.declared.Vec2.{Vec2}
use Rattle.shape.specs.declared.Range.{Range}
use Rattle.shape.specs.declared.Shape.{Shape}
use Rattle.shape.specs.declared.Shape.TheVariants.{Line, Round}
use Rattle.shape.specs.Turn.{turn, forward, upward, wrapped, heading}

-- ---- making one

-- an arc's radius, start and sweep, from its centre and its ends
abbrev pub arc : Vec2 → Vec2 → Vec2 → Shape
arc c a b =
    let start = turn (a -ᵥ c) in
    Round c (len (a -ᵥ c)) start (upward (turn (b -ᵥ c) ⊖ start))

-- a circle is one full sweep, begun on the side of x
abbrev pub circle : Vec2 → Float → Shape
circle c r = Round c r 0f 4f

-- ---- range

abbrev pub up_to : Float → Range
up_to t = record { start = 0f; end = t }

-- a line's parameter runs from 0 to 1, a round's from 0 to its sweep
unfoldable pub range : Shape → Range
range (Line a b) = up_to 1f
range (Round c r start sweep) = up_to sweep

-- a round whose sweep is within 1e-12 of a full turn
unfoldable pub is_full : Shape → Bool
is_full (Line a b) = false
is_full (Round c r start sweep) = le (4f ⊖ 1e-12) sweep

-- ---- parameter and point

-- with d = b − a: (p − a)·d over d·d, held to 1e-30 at least
unfoldable pub line_param : Vec2 → Vec2 → Vec2 → Float
line_param a b p =
    let d = b -ᵥ a in
    dot (p -ᵥ a) d ⊘ max (dot d d) 1e-30

unfoldable pub line_point : Vec2 → Vec2 → Float → Vec2
line_point a b t = a +ᵥ (b -ᵥ a) ·ᵥ t

unfoldable pub param : Shape → Vec2 → Float
param (Line a b) p = line_param a b p
param (Round c r start sweep) p = forward (turn (p -ᵥ c) ⊖ start)

unfoldable pub point : Shape → Float → Vec2
point (Line a b) t = line_point a b t
point (Round c r start sweep) t = heading (wrapped (start ⊕ t)) ·ᵥ r +ᵥ c

-- ---- projection and distance

-- on the circle, in a direction from its centre; the centre itself projects to (r, 0) from it
unfoldable pub on_circle : Vec2 → Float → Option Vec2 → Vec2
on_circle c r None = c +ᵥ vec r 0f
on_circle c r (Some n) = c +ᵥ n ·ᵥ r

unfoldable pub project : Shape → Vec2 → Vec2
project (Line a b) p = line_point a b (line_param a b p)
project (Round c r start sweep) p = on_circle c r (normalized (p -ᵥ c))

unfoldable pub dist : Shape → Vec2 → Float
dist sh p = distance p (project sh p)

-- the square of it, which is compared where no root is taken
unfoldable pub dist2 : Shape → Vec2 → Float
dist2 sh p =
    let d = p -ᵥ project sh p in
    dot d d
