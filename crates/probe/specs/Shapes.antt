-- Shapes and points as plain numbers.
use Rattle.std.specs.Prelude.{◌≡◌, ℕ, ◌+◌, cond, List, [], ◌∷◌, length, ◌==◌, slice_index_or, slice_set, Float}
use Rattle.std.specs.Float.{nan}
use Rattle.geom.specs.Plane.{vec}
use Rattle.geom.specs.declared.Vec2.{Vec2}
use Rattle.shape.specs.Intersections.{points}
use Rattle.shape.specs.Measures.{arc, circle}
use Rattle.shape.specs.declared.Crossings.{Crossings}
use Rattle.shape.specs.declared.Range.{Range}
use Rattle.shape.specs.declared.Shape.{Shape}
use Rattle.shape.specs.declared.Shape.TheVariants.{Line}

-- the pair of numbers from a place on
abbrev pub pair_at : List Float → ℕ → Vec2
pair_at n i = vec (slice_index_or n i nan) (slice_index_or n (i + 1) nan)

-- a line by its ends, an arc by its centre and its ends, and of any other kind a circle by its centre and its radius
unfoldable pub shape_from_numbers : ℕ → List Float → Shape
shape_from_numbers kind n =
    cond (kind == 0) (Line (pair_at n 0) (pair_at n 2))
    (cond (kind == 1) (arc (pair_at n 0) (pair_at n 2) (pair_at n 4))
    (circle (pair_at n 0) (slice_index_or n 2 nan)))

-- two numbers stored from a place on
abbrev pub set_pair : List Float → ℕ → Float → Float → List Float
set_pair out i x y = slice_set (slice_set out i x) (i + 1) y

abbrev pub set_range : List Float → Range → List Float
set_range out r = set_pair out 0 r.start r.end

abbrev pub set_point : List Float → ℕ → Vec2 → List Float
set_point out i p = set_pair out i p.x p.y

-- points stored one behind the other
abbrev pub set_points : List Float → ℕ → List Vec2 → List Float
set_points out i [] = out
set_points out i (p ∷ ps) = set_points (set_point out i p) (i + 2) ps

-- the number of crossings, and their points at the front of a buffer that is left as it was behind them
pub record Crossed (c : Crossings) (before later : List Float) (r : ℕ) : Type 0 where
  pub number : r ≡ length (points c)
  pub buffer : later ≡ set_points before 0 (points c)
