-- Crossings by the direction of the first are its crossings.
use mathlib.Core.Path.{◌≡◌, refl, ap, ◌∙◌}
use Rattle.std.specs.Prelude.{Option}
use Rattle.geom.specs.declared.Vec2.{Vec2}
use Rattle.shape.specs.declared.Shape.{Shape}
use Rattle.shape.specs.declared.Shape.TheVariants.{Line, Round}
use Rattle.shape.specs.Intersections.{crossings, direction_of, crossings_by}

pub crossings_by_lem : (d : Option Vec2) (sh other : Shape) → d ≡ direction_of sh → crossings_by d sh other ≡ crossings sh other
unfolding crossings_by direction_of crossings
crossings_by_lem d sh other e = ap (λ (x : Option Vec2). crossings_by x sh other) e ∙ own sh other
  where
    own : (sh other : Shape) → crossings_by (direction_of sh) sh other ≡ crossings sh other
    own (Line a b) (Line c d) = refl
    own (Line a b) (Round c r start sweep) = refl
    own (Round c r start sweep) other = refl
