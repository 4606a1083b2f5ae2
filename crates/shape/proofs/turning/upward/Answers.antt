use Rattle.shape.specs.Turn.{upward}
use Rattle.shape.proofs.turning.upward.Goals as goal

pub returns-then-t : goal.returns-then-t
unfolding upward
returns-then-t c = simp c.if-t.true

pub returns-else-t : goal.returns-else-t
unfolding upward
returns-else-t c = simp c.if-t.false
