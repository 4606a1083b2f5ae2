use Rattle.std.proofs.Common.{true}
use Rattle.image.specs.Image.{good_point}
use Rattle.rows.proofs.Walked.{RowsWalk}
use Rattle.rows.proofs.faults.points_fault.Given as goal

abbrev pub invariant-loop-i : goal.invariant-loop-i
invariant-loop-i l = RowsWalk good_point (λ r. true) l.next l.rows l.initial.near l.near l.last l.i
