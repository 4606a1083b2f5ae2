-- `sketch::curves_fault` meets its contract. The invariant: the fault of what is left is the fault of all, and the columns hold the ids and sorts that are done.
use Rattle.std.proofs.Common.{◌≡◌, length, map}
use Rattle.sketch.specs.Sorts.{sort_number}
use Rattle.sketch.proofs.Checked.{CurvesWalk}
use Rattle.sketch.proofs.validity.curves_fault.Given as goal

abbrev pub invariant-loop-i : goal.invariant-loop-i
invariant-loop-i l =
    (CurvesWalk l.next l.points l.curves l.initial.ids (map sort_number l.initial.sorts) l.ids (map sort_number l.sorts) l.last l.i)
    × (length l.near ≡ length l.initial.near)
