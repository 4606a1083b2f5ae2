-- `replication_runs::wall_inputs::start_again` meets its contract.
use Rattle.replication.proofs.CallOutcomes.{nonzero}
use Rattle.replication_runs.proofs.RunOrder.{ran_start, not_refused}
use Rattle.replication_runs.proofs.wall_inputs.start_again.Goals as goal

pub returns-in-Ok : goal.returns-in-Ok
returns-in-Ok c =
    let a = c.args in
    λ entries others log mark start before order r.
    ran_start mark start entries others before order a.run log a.desk.now a.wall.now r _ _ _ c.front.ensures c.in-Ok.ensures

pub returns-in-Err : goal.returns-in-Err
returns-in-Err c =
    let a = c.args in
    λ entries others log mark start before order r.
    absurd (nonzero _ (not_refused mark start entries others before order a.run log a.desk.now a.wall.now r _ _ _ c.front.ensures c.in-Err.ensures))
