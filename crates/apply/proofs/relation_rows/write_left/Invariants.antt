-- `apply::write_left` meets its contract.
use Rattle.apply.proofs.Walks.{Walk}
use Rattle.apply.specs.Clauses.{left_row}
use Rattle.image.specs.Records.{relation_size}
use Rattle.edit_plan.specs.Changes.{orphan_list}
use Rattle.rows.specs.Rows.{rows_in}
use Rattle.apply.proofs.relation_rows.write_left.Given as goal

abbrev pub invariant-loop-i : goal.invariant-loop-i
invariant-loop-i l = Walk (left_row l.e (orphan_list l.os)) relation_size (rows_in relation_size l.relations) l.initial.out l.at l.from l.i l.out l.to
