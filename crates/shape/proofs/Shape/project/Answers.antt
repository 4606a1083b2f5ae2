use Rattle.shape.specs.Measures.{project}
use Rattle.shape.proofs.Shape.project.Goals as goal

pub returns-in-Line : goal.returns-in-Line
unfolding project
returns-in-Line c = simp (c.line_point.ensures, c.line_param.ensures, c.in-Line.is)

pub returns-in-Round : goal.returns-in-Round
unfolding project
returns-in-Round c = simp (c.on_circle.ensures, c.normalized.ensures, c.from_points.ensures, c.in-Round.is)
