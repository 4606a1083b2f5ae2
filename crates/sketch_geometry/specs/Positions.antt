-- What is answered from an image's records, whichever points they hold, and once a point has moved. Definitions only.
use Rattle.std.specs.Prelude.{ℕ, ◌≡◌, List, map, Some, None}
use Rattle.std.specs.Prelude.{Option as Answer}
use Rattle.std.proofs.Math.Option.{Option, some, none}
use Rattle.geom.specs.declared.Vec2.{Vec2}
use Rattle.shape.specs.declared.Shape.{Shape}
use Rattle.sketch.specs.declared.Point.{Point}
use Rattle.sketch.specs.declared.CurveKind.{CurveKind}
use Rattle.rows.specs.Rows.{HoldsPoints}
use Rattle.edit_plan.specs.Tables.{moved}
use Rattle.sketch_geometry.specs.declared.Moved.{Moved}
use Rattle.sketch_geometry.specs.Geometry.{position_of, shape_of}

-- the points once one has moved
unfoldable pub points_after_move : Answer Moved → List Point → List Point
points_after_move None ps = ps
points_after_move (Some m) ps = map (moved m.point m.to) ps

abbrev pub PositionIn : List ℕ → ℕ → Vec2 → Type 0
PositionIn points id r = (ps : List Point) → HoldsPoints ps points → r ≡ position_of ps id

abbrev pub PositionAfter : List ℕ → Answer Moved → ℕ → Vec2 → Type 0
PositionAfter points m id r = (ps : List Point) → HoldsPoints ps points → r ≡ position_of (points_after_move m ps) id

-- the code's answer among the definitions
abbrev pub shape_found : Answer Shape → Option Shape
shape_found None = none
shape_found (Some sh) = some sh

abbrev pub ShapeFrom : List ℕ → CurveKind → Answer Shape → Type 0
ShapeFrom points kind r = (ps : List Point) → HoldsPoints ps points → shape_found r ≡ shape_of ps kind
