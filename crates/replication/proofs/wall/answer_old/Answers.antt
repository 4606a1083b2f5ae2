-- `replication::wall::answer_old` meets its contract.
use Rattle.replication.proofs.WallDeliver.{old_refused, old_answered}
use Rattle.replication.proofs.wall.answer_old.Goals as goal

pub returns-in-Err : goal.returns-in-Err
returns-in-Err c = old_refused c.args.replica c.args.image.now _ c.in-Err.ensures c.refuse.ensures

pub returns : goal.returns
returns c = old_answered c.args.replica c.args.image.now c.in_default.ensures
