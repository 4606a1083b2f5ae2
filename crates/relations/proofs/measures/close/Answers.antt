-- `relations::close` meets its contract.
use Rattle.relations.proofs.CurveMeasures.{close_by_square}
use Rattle.relations.proofs.measures.close.Goals as goal

pub returns : goal.returns
returns c = rw c.dist2.ensures (close_by_square _ _)
