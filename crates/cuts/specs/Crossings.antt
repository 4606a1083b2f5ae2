-- The points where two curves cross, by their places, for the contracts of functions that nothing outside calls. Definitions only.
use Rattle.std.specs.Prelude.{ℕ, cond, eqb}
use Rattle.geom.specs.Plane.{origin}
use Rattle.geom.specs.declared.Vec2.{Vec2}
use Rattle.shape.specs.declared.Crossings.{Crossings}
use Rattle.shape.specs.declared.Crossings.TheVariants.{Zero, One, Two}

-- the point at k of at most two, if there is one
unfoldable pub crossing_at : Crossings → ℕ → Vec2
crossing_at Zero k = origin
crossing_at (One p) k = p
crossing_at (Two p q) k = cond (eqb k 0) p q
