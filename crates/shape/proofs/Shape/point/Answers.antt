use Rattle.shape.specs.Measures.{point}
use Rattle.shape.proofs.Shape.point.Goals as goal

pub returns-in-Line : goal.returns-in-Line
unfolding point
returns-in-Line c = simp (c.line_point.ensures, c.in-Line.is)

pub returns-in-Round : goal.returns-in-Round
unfolding point
returns-in-Round c = simp (c.add.ensures, c.mul.ensures, c.heading.ensures, c.wrapped.ensures, c.in-Round.is)
