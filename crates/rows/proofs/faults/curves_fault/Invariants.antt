use Rattle.sketch.specs.Lookup.{among}
use Rattle.sketch.specs.Valid.{sound_curve}
use Rattle.image.specs.Records.{curve_of, point_size}
use Rattle.image.specs.Image.{good_curve}
use Rattle.rows.specs.Rows.{ids_in}
use Rattle.rows.proofs.Walked.{RowsWalk}
use Rattle.rows.proofs.faults.curves_fault.Given as goal

abbrev pub invariant-loop-i : goal.invariant-loop-i
invariant-loop-i l = RowsWalk good_curve (λ r. sound_curve (λ p. among p (ids_in point_size l.points)) (curve_of r)) l.next l.rows l.initial.near l.near l.last l.i
