use Rattle.shape.specs.Measures.{dist}
use Rattle.shape.proofs.Shape.dist.Goals as goal

pub returns : goal.returns
unfolding dist
returns c = simp (c.dist.ensures, c.project.ensures)
