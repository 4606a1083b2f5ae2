-- `replication::wall::apply_message` meets its contract.
use Rattle.std.proofs.Common.{T, not, sym, ap, subst}
use Rattle.replication.proofs.WallDeliver.{message_declined, message_applied}
use Rattle.replication.proofs.wall.apply_message.Goals as goal

pub float_from_bits-at : goal.float_from_bits-at
float_from_bits-at c = subst T (sym (ap not c.requires.0)) tt

pub float_from_bits-at-2 : goal.float_from_bits-at-2
float_from_bits-at-2 c = subst T (sym (ap not c.requires.1)) tt

pub returns-in-Err : goal.returns-in-Err
returns-in-Err c = message_declined c.args.replica c.args.m c.args.buffer.now _ _ c.in-Err.ensures c.refuse.ensures

pub returns-in-Ok : goal.returns-in-Ok
returns-in-Ok c = message_applied c.args.replica c.args.m c.args.buffer.now _ _ c.in-Ok.ensures
