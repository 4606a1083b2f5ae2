-- `apply::write_staying` meets its contract.
use Rattle.apply.proofs.Turns.{stay}
use Rattle.apply.proofs.Walks.{Walk}
use Rattle.image.specs.Records.{point_size}
use Rattle.edit_plan.specs.Changes.{orphan_list}
use Rattle.rows.specs.Rows.{rows_in}
use Rattle.apply.proofs.points.write_staying.Given as goal

abbrev pub invariant-loop-i : goal.invariant-loop-i
invariant-loop-i l = Walk (stay (orphan_list l.os)) point_size (rows_in point_size l.points) l.initial.out l.at l.from l.i l.out l.to
