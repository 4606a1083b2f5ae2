-- `replication_runs::wall_inputs::deliver_at` meets its contract.
use Rattle.std.proofs.Common.{refl}
use Rattle.replication_runs.proofs.RunOrder.{ran_other, ran_own}
use Rattle.replication_runs.proofs.wall_inputs.deliver_at.Goals as goal

pub returns-then-n-o : goal.returns-then-n-o
returns-then-n-o c =
    let a = c.args in
    λ entries desk mark start before order r.
    ran_other mark start entries a.others.now before order a.run a.log.now desk a.wall.now r a.o _ _ c.if-n-o.true c.other_at.ensures c.deliver_unread-run.ensures

pub returns : goal.returns
returns c =
    let a = c.args in
    λ entries desk mark start before order r.
    ran_own mark start entries a.others.now before order a.run a.log.now desk a.wall.now r a.o c.wall_deliver.result.replica _ c.if-n-o.false _ _ refl refl refl c.wall_deliver.ensures
