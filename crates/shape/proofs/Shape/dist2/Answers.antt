use Rattle.shape.specs.Measures.{dist2}
use Rattle.shape.proofs.Shape.dist2.Goals as goal

pub returns : goal.returns
unfolding dist2
returns c = simp (c.dist2.ensures, c.project.ensures)
