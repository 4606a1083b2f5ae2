use Rattle.shape.specs.Intersections.{direction_of}
use Rattle.shape.proofs.crossing.direction_of.Goals as goal

pub returns-in-Line : goal.returns-in-Line
unfolding direction_of
returns-in-Line c = simp (c.normalized.ensures, c.from_points.ensures, c.in-Line.is)

pub returns-in-Round : goal.returns-in-Round
unfolding direction_of
returns-in-Round c = simp c.in-Round.is
