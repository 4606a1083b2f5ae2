use Rattle.shape.specs.Turn.{wrapped}
use Rattle.shape.proofs.turning.wrapped.Goals as goal

pub returns-then-s : goal.returns-then-s
unfolding wrapped
returns-then-s c = simp c.if-s.true

pub returns-else-s : goal.returns-else-s
unfolding wrapped
returns-else-s c = simp c.if-s.false
