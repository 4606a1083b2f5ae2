-- `replication_runs::wall_inputs::deliver_unread` meets its contract.
use Rattle.std.proofs.Common.{refl, sym}
use Rattle.replication.specs.Transitions.{memory}
use Rattle.replication_runs.proofs.WallInputs.{given_read, given_unread}
use Rattle.replication_runs.proofs.wall_inputs.deliver_unread.Goals as goal

pub returns-in-Ok : goal.returns-in-Ok
returns-in-Ok c = let a = c.args in given_read (memory a.replica a.buffer.now) a.bytes.now _ (sym c.in-Ok.ensures)

pub returns-in-Err : goal.returns-in-Err
returns-in-Err c = let a = c.args in given_unread (memory a.replica a.buffer.now) a.bytes.now _ (sym c.in-Err.ensures) _ refl c.wall_deliver.ensures
