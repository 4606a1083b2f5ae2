-- `sketch::points_fault` meets its contract. The invariant: the fault of what is left is the fault of all, and the column holds the ids that are done.
use Rattle.std.proofs.Common.{◌≡◌, length}
use Rattle.sketch.proofs.Checked.{PointsWalk}
use Rattle.sketch.proofs.validity.points_fault.Given as goal

abbrev pub invariant-loop-i : goal.invariant-loop-i
invariant-loop-i l = (PointsWalk l.next l.points l.initial.ids l.ids l.last l.i) × (length l.near ≡ length l.initial.near)
