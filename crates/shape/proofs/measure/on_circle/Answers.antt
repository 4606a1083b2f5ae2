use Rattle.shape.specs.Measures.{on_circle}
use Rattle.shape.proofs.measure.on_circle.Goals as goal

pub returns-in-Some : goal.returns-in-Some
unfolding on_circle
returns-in-Some c = simp (c.add.ensures, c.mul.ensures, c.in-Some.is)

pub returns-in-None : goal.returns-in-None
unfolding on_circle
returns-in-None c = simp (c.add-in-None.ensures, c.new.ensures, c.in-None.is)
