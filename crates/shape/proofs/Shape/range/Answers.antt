use Rattle.shape.specs.Measures.{range}
use Rattle.shape.proofs.Shape.range.Goals as goal

pub returns-in-Line : goal.returns-in-Line
unfolding range
returns-in-Line c = simp c.in-Line.is

pub returns-in-Round : goal.returns-in-Round
unfolding range
returns-in-Round c = simp c.in-Round.is
