use Rattle.shape.specs.Intersections.{crossings_by}
use Rattle.shape.proofs.crossing.intersections_by.Goals as goal

pub returns-in-Line : goal.returns-in-Line
returns-in-Line c = simp (c.line_crossings.ensures, c.in-Line.is)

pub returns-in-Round : goal.returns-in-Round
unfolding crossings_by
returns-in-Round c = simp (c.intersections.ensures, c.in-Round.is)
