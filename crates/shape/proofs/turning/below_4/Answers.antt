use Rattle.shape.specs.Turn.{below4}
use Rattle.shape.proofs.turning.below_4.Goals as goal

pub returns-then-t : goal.returns-then-t
unfolding below4
returns-then-t c = simp c.if-t.true

pub returns-else-t : goal.returns-else-t
unfolding below4
returns-else-t c = simp c.if-t.false
