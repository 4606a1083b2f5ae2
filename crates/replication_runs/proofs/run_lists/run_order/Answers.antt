-- `replication_runs::run_lists::run_order` meets its contract. The invariant: the run came so far by the numbers before this one.
use Rattle.std.proofs.Common.{arith}
use Rattle.replication_runs.proofs.RunOrder.{ran_next, ran_all}
use Rattle.replication_runs.proofs.run_lists.run_order.Goals as goal

pub loop-o-init : goal.loop-o-init
loop-o-init c = c.requires

pub run_number-last-requires : goal.run_number-last-requires
run_number-last-requires c = c.loop-o.invariant.log_fits

pub loop-o-preserved : goal.loop-o-preserved
loop-o-preserved c =
    let a = c.args in
    ran_next _ _ a.entries.now a.others.now _ a.order.now _ _ _ _ c.loop-o.o-index (omega arith) (c.run_number-last.ensures _ _ _ _ c.loop-o.invariant)

pub returns : goal.returns
returns c = let a = c.args in ran_all _ _ a.entries.now a.others.now _ a.order.now _ _ _ _ c.loop-o.o-index (omega arith) c.loop-o.invariant
