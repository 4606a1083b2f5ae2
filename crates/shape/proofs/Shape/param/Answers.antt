use Rattle.shape.specs.Measures.{param}
use Rattle.shape.proofs.Shape.param.Goals as goal

pub returns-in-Line : goal.returns-in-Line
unfolding param
returns-in-Line c = simp (c.line_param.ensures, c.in-Line.is)

pub returns-in-Round : goal.returns-in-Round
unfolding param
returns-in-Round c = simp (c.forward.ensures, c.turn.ensures, c.from_points.ensures, c.in-Round.is)
