use Rattle.shape.specs.Intersections.{crossings, crossings_by}
use Rattle.shape.proofs.crossing.line_crossings.Goals as goal

pub returns-in-Line : goal.returns-in-Line
unfolding crossings_by crossings
returns-in-Line c = simp (c.lines.ensures, c.from_points-in-Line.ensures, c.from_points.ensures, c.in-Line.is)

pub returns-in-Round : goal.returns-in-Round
unfolding crossings_by
returns-in-Round c = simp (c.line_and_round.ensures, c.in-Round.is)
