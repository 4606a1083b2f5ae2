-- `replication_runs::wall_inputs::other_at` meets its contract.
use Rattle.replication_runs.proofs.WallInputs.{other_is}
use Rattle.replication_runs.proofs.wall_inputs.other_at.Goals as goal

pub returns : goal.returns
returns c = other_is c.args.others.now c.args.at c.rest-from.ensures c.rest.ensures c.get2.ensures c.front.ensures
