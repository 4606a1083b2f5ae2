-- Where the points of a drawing lie, and the shapes of its curves. Definitions only.
use Rattle.std.specs.Prelude.{ℕ, List, [], ◌∷◌, eqb}
use Rattle.std.proofs.Math.Option.{Option, some, none}
use Rattle.std.specs.Float.{nan}
use Rattle.geom.specs.Plane.{vec}
use Rattle.geom.specs.declared.Vec2.{Vec2}
use Rattle.shape.specs.Measures.{arc, circle}
use Rattle.shape.specs.declared.Shape.{Shape}
use Rattle.shape.specs.declared.Shape.TheVariants as S
use Rattle.sketch.specs.Lists.{ite}
use Rattle.sketch.specs.Drawing.{curve_in}
use Rattle.sketch.specs.declared.Point.{Point}
use Rattle.sketch.specs.declared.Curve.{Curve}
use Rattle.sketch.specs.declared.CurveKind.{CurveKind}
use Rattle.sketch.specs.declared.CurveKind.TheVariants.{Line, Arc, Circle, Bezier, Conic}

-- no place: what is measured from it is a NaN
abbrev pub nowhere : Vec2
nowhere = vec nan nan

-- where the point with an id lies
unfoldable pub position_of : List Point → ℕ → Vec2
position_of [] i = nowhere
position_of (p ∷ ps) i = ite (eqb i p.id) (vec p.x p.y) (position_of ps i)

-- the shape of a line or of a round; a freeform curve has none
unfoldable pub shape_of : List Point → CurveKind → Option Shape
shape_of ps (Line a b) = some (S.Line (position_of ps a) (position_of ps b))
shape_of ps (Arc c a b) = some (arc (position_of ps c) (position_of ps a) (position_of ps b))
shape_of ps (Circle c r) = some (circle (position_of ps c) r)
shape_of ps (Bezier n) = none
shape_of ps (Conic a p b rho) = none

unfoldable pub shape_from : List Point → Option Curve → Option Shape
shape_from ps none = none
shape_from ps (some c) = shape_of ps c.kind

-- the shape of the curve with an id
abbrev pub shape_in : List Point → List Curve → ℕ → Option Shape
shape_in ps cs c = shape_from ps (curve_in cs c)
