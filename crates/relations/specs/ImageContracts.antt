-- What is answered from tables of records, whichever points and curves they hold, and once a point has moved. Definitions only.
use Rattle.std.specs.Prelude.{ℕ, ◌≡◌, Bool, List, Option}
use Rattle.shape.specs.declared.Shape.{Shape}
use Rattle.sketch.specs.declared.Point.{Point}
use Rattle.sketch.specs.declared.Curve.{Curve}
use Rattle.sketch.specs.declared.CurveKind.{CurveKind}
use Rattle.sketch.specs.declared.Relation.{Relation}
use Rattle.rows.specs.Rows.{HoldsPoints, HoldsCurves}
use Rattle.sketch_geometry.specs.declared.Moved.{Moved}
use Rattle.sketch_geometry.specs.Geometry.{shape_of, shape_in}
use Rattle.sketch_geometry.specs.Positions.{points_after_move, shape_found}
use Rattle.relations.specs.Met.{met}
use Rattle.relations.specs.Whole.{whole}

abbrev pub WholeOfKind : List ℕ → Option Moved → CurveKind → Option Shape → Type 0
WholeOfKind points m kind r = (ps : List Point) → HoldsPoints ps points → shape_found r ≡ whole (shape_of (points_after_move m ps) kind)

abbrev pub WholeIn : List ℕ → List ℕ → Option Moved → ℕ → Option Shape → Type 0
WholeIn points curves m id r =
    (ps : List Point) (cs : List Curve) → HoldsPoints ps points → HoldsCurves cs curves → shape_found r ≡ whole (shape_in (points_after_move m ps) cs id)

abbrev pub MetAfter : List ℕ → List ℕ → Option Moved → Relation → Bool → Type 0
MetAfter points curves m relation r =
    (ps : List Point) (cs : List Curve) → HoldsPoints ps points → HoldsCurves cs curves → r ≡ met (points_after_move m ps) cs relation
