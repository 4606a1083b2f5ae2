-- `replication::wall_deliver` meets its contract.
use Rattle.std.proofs.Common.{sym}
use Rattle.replication.proofs.WallDeliver.{wall_unread}
use Rattle.replication.proofs.CallOutcomes.{first_of}
use Rattle.replication.proofs.wall.wall_deliver.Goals as goal

pub returns-in-Err : goal.returns-in-Err
returns-in-Err c = wall_unread c.args.replica c.args.buffer.now c.args.bytes.now _ (sym c.in-Err.ensures) (first_of _ _ c.front-image.ensures c.first_refusal.ensures) c.refuse.ensures

pub returns-in-Ok : goal.returns-in-Ok
returns-in-Ok c = c.deliver_message.ensures c.args.bytes.now (sym c.in-Ok.ensures)
