use Rattle.shape.specs.Measures.{line_param}
use Rattle.shape.proofs.measure.line_param.Goals as goal

pub returns : goal.returns
unfolding line_param
returns c = simp (c.max.ensures, c.dot-2.ensures, c.dot.ensures, c.from_points.ensures, c.from_points-d.ensures)
