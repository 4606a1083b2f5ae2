use Rattle.shape.specs.Intersections.{crossings}
use Rattle.shape.proofs.crossing.intersections.Goals as goal

pub returns-in-Line-Line : goal.returns-in-Line-Line
unfolding crossings
returns-in-Line-Line c = simp (c.lines.ensures, c.from_points-in-Line-Line.ensures, c.from_points.ensures, c.in-Line-Line.is-0, c.in-Line-Line.is-1)

pub returns-in-Line-Round : goal.returns-in-Line-Round
unfolding crossings
returns-in-Line-Round c = simp (c.line_and_round.ensures, c.normalized.ensures, c.from_points-in-Line-Round.ensures, c.in-Line-Round.is-0, c.in-Line-Round.is-1)

pub returns-in-Round-Line : goal.returns-in-Round-Line
unfolding crossings
returns-in-Round-Line c = simp (c.line_and_round-in-Round-Line.ensures, c.normalized-in-Round-Line.ensures, c.from_points-in-Round-Line.ensures, c.in-Round-Line.is-0, c.in-Round-Line.is-1)

pub returns-in-Round-Round : goal.returns-in-Round-Round
unfolding crossings
returns-in-Round-Round c = simp (c.rounds.ensures, c.in-Round-Round.is-0, c.in-Round-Round.is-1)
