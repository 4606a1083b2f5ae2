-- Measures and crossings worked out by the definitions. Assumes nothing.
use Prim.Native.Nat.{ℕ}
use mathlib.Core.Path.{◌≡◌, refl}
use lib.Ieee.{neg, binary64, of_bits}
use Rattle.float.specs.Numbers.{◌⊕◌, as_float, ½, 0f, 1f, 2f, 3f, 4f}
use Rattle.geom.specs.Plane.{vec}
use Rattle.geom.specs.declared.Vec2.{Vec2}
use Rattle.shape.specs.declared.Shape.{Shape}
use Rattle.shape.specs.declared.Shape.TheVariants.{Line}
use Rattle.shape.specs.declared.Crossings.TheVariants.{Zero, One, Two}
use Rattle.shape.specs.Turn.{turn}
use Rattle.shape.specs.Measures.{arc, circle, param, point, project, dist}
use Rattle.shape.specs.Intersections.{crossings}
use Rattle.shape.proofs.Opened.{opened}

abbrev at : ℕ → ℕ → Vec2
at x y = vec (as_float x) (as_float y)

-- along x from 0 to 4, and across it at 1
abbrev level : Shape
level = Line (at 0 0) (at 4 0)

abbrev upright : Shape
upright = Line (vec 1f (neg 1f)) (at 1 1)

-- ---- turns: half a quarter, two quarters, and −0 just below the x axis
half_a_quarter : turn (at 1 1) ≡ ½
unfolding opened
half_a_quarter = refl

two_quarters : turn (vec (neg 1f) 0f) ≡ 2f
unfolding opened
two_quarters = refl

on_the_axis : turn (vec 1f (neg 0f)) ≡ neg 0f
unfolding opened
on_the_axis = refl

-- ---- measures: also beyond a line's ends, and from a circle's centre
beyond : (param level (at 6 3) ≡ of_bits binary64 0x3ff8_0000_0000_0000) × (project level (at 6 3) ≡ at 6 0) × (dist level (at 6 3) ≡ 3f)
unfolding opened
beyond = (refl, refl, refl)

from_the_centre : project (circle (at 1 1) 2f) (at 1 1) ≡ at 3 1
unfolding opened
from_the_centre = refl

-- a quarter of a circle: its far end, and the way on to its start
quarter_circle : (point (arc (at 0 0) (at 2 0) (at 0 2)) 1f ≡ vec (neg 0f ⊕ 0f) 2f) × (param (arc (at 0 0) (at 2 0) (at 0 2)) (vec 0f (neg 2f)) ≡ 3f)
unfolding opened
quarter_circle = (refl, refl)

-- ---- crossings
across : crossings level upright ≡ One (at 1 0)
unfolding opened
across = refl

beside : crossings level (Line (at 0 1) (at 4 1)) ≡ Zero
unfolding opened
beside = refl

-- before the middle and behind it, along the line, whichever comes first
through_a_circle : (crossings level (circle (at 2 0) 1f) ≡ Two (at 1 0) (at 3 0)) × (crossings (circle (at 2 0) 1f) level ≡ Two (at 1 0) (at 3 0))
unfolding opened
through_a_circle = (refl, refl)

-- to the left and to the right, seen from the first centre
two_circles : crossings (circle (at 0 0) (as_float 5)) (circle (at 8 0) (as_float 5)) ≡ Two (at 4 3) (vec 4f (neg 3f))
unfolding opened
two_circles = refl
