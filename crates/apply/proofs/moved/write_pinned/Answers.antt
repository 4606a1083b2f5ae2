-- `apply::write_pinned` meets its contract.
use Rattle.apply.proofs.MovedRows.{pinned_put, pinned_left}
use Rattle.apply.proofs.moved.write_pinned.Goals as goal

pub returns-then-count_pinned-ne0 : goal.returns-then-count_pinned-ne0
returns-then-count_pinned-ne0 c = pinned_put c.args.pin c.args.p c.args.out.now c.args.at c.count_pinned.ensures c.if-count_pinned-ne0.true c.requires c.pin_relation.ensures c.write_relation.ensures

pub returns-else-count_pinned-ne0 : goal.returns-else-count_pinned-ne0
returns-else-count_pinned-ne0 c = pinned_left c.args.pin c.args.p c.args.out.now c.args.at c.count_pinned.ensures c.if-count_pinned-ne0.false
