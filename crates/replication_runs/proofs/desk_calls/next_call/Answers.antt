-- `replication_runs::desk_calls::next_call` meets its contract.
use Rattle.std.proofs.Common.{arith, ◌+◌, ◌*◌, ◌-◌}
use Rattle.message.specs.Message.{message_size}
use Rattle.replication_runs.proofs.RunOrder.{ran_idle, ran_call}
use Rattle.replication_runs.proofs.desk_calls.next_call.Goals as goal

pub returns-then-entries-made : goal.returns-then-entries-made
returns-then-entries-made c =
    let a = c.args in
    λ others wall mark start before order r. ran_idle mark start a.entries.now others before order a.run a.log.now a.desk.now wall r c.if-entries-made.true

pub returns : goal.returns
returns c =
    let a = c.args in
    let from = a.run.desk.count * message_size in
    let room = c.get1 in
    λ others wall mark start before order r.
    ran_call mark start a.entries.now others before order a.run a.log.now a.desk.now wall r c.if-entries-made.false _ _ _ _ _ from (from + room.result - from) (omega arith) (omega (arith, room.ensures)) (omega arith) c.desk_edit_at-answer.ensures
