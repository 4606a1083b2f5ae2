use Rattle.shape.specs.Turn.{forward}
use Rattle.shape.proofs.turning.forward.Goals as goal

pub returns-then-t : goal.returns-then-t
unfolding forward
returns-then-t c = simp c.if-t.true

pub returns-else-t : goal.returns-else-t
unfolding forward
returns-else-t c = simp c.if-t.false
