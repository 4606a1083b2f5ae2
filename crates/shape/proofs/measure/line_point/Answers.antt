use Rattle.shape.specs.Measures.{line_point}
use Rattle.shape.proofs.measure.line_point.Goals as goal

pub returns : goal.returns
unfolding line_point
returns c = simp (c.add.ensures, c.mul.ensures, c.from_points.ensures)
