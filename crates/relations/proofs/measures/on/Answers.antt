use Rattle.relations.proofs.CurveMeasures.{on_by_square}
use Rattle.relations.specs.Met.{on}
use Rattle.relations.proofs.measures.on.Goals as goal

pub returns-in-Some : goal.returns-in-Some
returns-in-Some c = rw (c.in-Some.is, c.dist2.ensures) (on_by_square _ _)

pub returns-in-None : goal.returns-in-None
unfolding on
returns-in-None c = rw c.in-None.is
