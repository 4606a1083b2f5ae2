-- `sketch::relations_fault` meets its contract. The invariant: the fault of what is left is the fault of all.
use Rattle.std.proofs.Common.{map}
use Rattle.sketch.specs.Sorts.{sort_number}
use Rattle.sketch.proofs.Checked.{RelationsWalk}
use Rattle.sketch.proofs.validity.relations_fault.Given as goal

abbrev pub invariant-loop-slot : goal.invariant-loop-slot
invariant-loop-slot l = RelationsWalk l.points l.curves (map sort_number l.sorts) l.relations l.slot-index
