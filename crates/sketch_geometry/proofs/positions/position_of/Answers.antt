use Rattle.std.proofs.Common.{ap, ◌∙◌, List, ℕ, arith}
use Rattle.geom.specs.Plane.{vec}
use Rattle.image.specs.Records.{point_size}
use Rattle.image.specs.Decode.{read_point}
use Rattle.rows.proofs.RecordById.{record_there, record_missing}
use Rattle.sketch_geometry.proofs.RowPositions.{position_row, position_missing}
use Rattle.sketch_geometry.proofs.positions.position_of.Goals as goal

pub returns-then-r-lt-POINT_SIZE : goal.returns-then-r-lt-POINT_SIZE
returns-then-r-lt-POINT_SIZE c = λ ps w. let f = c.point_record_of-r.ensures in c.nowhere.ensures ∙ position_missing w f.found (record_missing point_size _ _ f c.if-r-lt-POINT_SIZE.true)

pub returns : goal.returns
returns c = λ ps w. let f = c.point_record_of-r.ensures in c.coordinates.ensures ∙ ap (λ (l : List ℕ). vec (read_point l).x (read_point l).y) f.is ∙ position_row w f.found (record_there point_size _ _ f (omega arith) c.if-r-lt-POINT_SIZE.false)
