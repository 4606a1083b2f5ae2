-- What a read past the end of a table gives.
use Rattle.std.specs.Prelude.{false, []}
use Rattle.std.specs.Float.{nan}
use Rattle.sketch.specs.declared.Point.{Point}
use Rattle.sketch.specs.declared.Curve.{Curve}
use Rattle.sketch.specs.declared.CurveKind.TheVariants.{Line}
use Rattle.sketch.specs.declared.Relation.TheVariants.{Coincident}
use Rattle.sketch.specs.declared.RelationSlot.{RelationSlot}

abbrev pub no_point : Point
no_point = record { id = 0; fixed = false; x = nan; y = nan }

abbrev pub no_curve : Curve
no_curve = record { id = 0; construction = false; centerline = false; infinite = false; kind = Line 0 0; slots = [] }

abbrev pub no_slot : RelationSlot
no_slot = record { relation = Coincident 0 0 }
