-- `relations::same` meets its contract.
use Rattle.relations.proofs.measures.same.Goals as goal

pub returns : goal.returns
returns c = rw c.abs.ensures
