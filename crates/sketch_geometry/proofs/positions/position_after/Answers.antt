use Rattle.std.proofs.Common.{◌∙◌, arith}
use Rattle.image.specs.Records.{point_size}
use Rattle.rows.proofs.RecordById.{record_there, record_missing}
use Rattle.sketch_geometry.proofs.RowPositions.{none_moved, another_moved, missing_after, moved_there}
use Rattle.sketch_geometry.proofs.positions.position_after.Goals as goal
use Rattle.sketch_geometry.proofs.positions.position_after.Goals.{in_default-via-in-Some+else-m-id, in_default-via-in_default}

pub returns-then-point_record_of-lt-POINT_SIZE : goal.returns-then-point_record_of-lt-POINT_SIZE
returns-then-point_record_of-lt-POINT_SIZE c = λ ps w. let f = c.point_record_of.ensures in c.nowhere.ensures ∙ missing_after w f.found (record_missing point_size _ _ f c.if-point_record_of-lt-POINT_SIZE.true) _

pub returns-else-point_record_of-lt-POINT_SIZE : goal.returns-else-point_record_of-lt-POINT_SIZE
returns-else-point_record_of-lt-POINT_SIZE c = λ ps w. let f = c.point_record_of.ensures in moved_there w f.found (record_there point_size _ _ f (omega arith) c.if-point_record_of-lt-POINT_SIZE.false) c.in-Some.is c.if-m-id.true

pub returns-in_default : goal.returns-in_default
returns-in_default c = λ ps w. c.position_of.ensures ps w ∙ (elim c.in_default.branch [ in_default-via-in-Some+else-m-id v ↦ another_moved ps _ v.in-Some.is v.if-m-id.false | in_default-via-in_default v ↦ none_moved ps _ v.in_default.is ])
