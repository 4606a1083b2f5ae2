use Rattle.relations.proofs.RowData.{whole_there, whole_missing}
use Rattle.relations.proofs.whole_shapes.whole_shape.Goals as goal

pub returns-then-r-lt-CURVE_SIZE : goal.returns-then-r-lt-CURVE_SIZE
returns-then-r-lt-CURVE_SIZE c = λ ps cs p w. whole_missing w c.curve_record_of-r.ensures _ c.if-r-lt-CURVE_SIZE.true

pub returns : goal.returns
returns c = λ ps cs p w. whole_there w c.curve_record_of-r.ensures _ c.if-r-lt-CURVE_SIZE.false c.read_kind.ensures (c.whole_of_kind.ensures ps p)
