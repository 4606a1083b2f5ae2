use Rattle.support.specs.Freeform.{point_at}
use Rattle.support.proofs.points.rational_point.Goals as goal

pub returns : goal.returns
unfolding point_at
returns c = simp (c.div.ensures, c.evaluate-3.ensures, c.new-p.ensures, c.evaluate-2.ensures, c.evaluate.ensures)
