use Rattle.cuts.specs.Bounded.{length_or_radius}
use Rattle.cuts.proofs.bounded.length_or_radius.Goals as goal

pub returns-in-Line : goal.returns-in-Line
unfolding length_or_radius
returns-in-Line c = simp (c.dist.ensures, c.in-Line.is)

pub returns-in-Round : goal.returns-in-Round
unfolding length_or_radius
returns-in-Round c = simp c.in-Round.is
