use Rattle.shape.specs.Measures.{is_full}
use Rattle.shape.proofs.Shape.is_full.Goals as goal

pub returns-in-Line : goal.returns-in-Line
unfolding is_full
returns-in-Line c = simp c.in-Line.is

pub returns-in-Round : goal.returns-in-Round
unfolding is_full
returns-in-Round c = simp c.in-Round.is
