-- `replication_runs::run_lists::run_number` meets its contract.
use Rattle.std.proofs.Common.{arith, suc, ◌-◌, ◌≡◌}
use Rattle.replication_runs.proofs.RunOrder.{runs_by}
use Rattle.replication_runs.proofs.run_lists.run_number.Goals as goal

pub returns-in-0 : goal.returns-in-0
returns-in-0 c =
    let a = c.args in
    let e : 0 ≡ a.o = omega (arith, c.in-0.is) in
    runs_by a.entries.now a.others.now a.run a.log.now a.desk.now a.wall.now _ _ _ _ e (c.next_call.ensures a.others.now a.wall.now)

pub returns-in-1 : goal.returns-in-1
returns-in-1 c =
    let a = c.args in
    let e : 1 ≡ a.o = omega (arith, c.in-1.is) in
    runs_by a.entries.now a.others.now a.run a.log.now a.desk.now a.wall.now _ _ _ _ e (c.start_again.ensures a.entries.now a.others.now a.log.now)

pub returns-in_default : goal.returns-in_default
returns-in_default c =
    let a = c.args in
    let e : suc (suc (a.o - 2)) ≡ a.o = omega arith in
    runs_by a.entries.now a.others.now a.run a.log.now a.desk.now a.wall.now _ _ _ _ e (c.deliver_at.ensures a.entries.now a.desk.now)
