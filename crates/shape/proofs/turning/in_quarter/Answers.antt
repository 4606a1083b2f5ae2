use Rattle.shape.specs.Turn.{in_quarter}
use Rattle.shape.proofs.turning.in_quarter.Goals as goal

pub returns-then-x-y : goal.returns-then-x-y
unfolding in_quarter
returns-then-x-y c = simp c.if-x-y.true

pub returns-then-x-y-2 : goal.returns-then-x-y-2
unfolding in_quarter
returns-then-x-y-2 c = simp (c.if-x-y.false, c.if-x-y-2.true)

pub returns-then-x-y-3 : goal.returns-then-x-y-3
unfolding in_quarter
returns-then-x-y-3 c = simp (c.if-x-y.false, c.if-x-y-2.false, c.if-x-y-3.true)

pub returns : goal.returns
unfolding in_quarter
returns c = simp (c.if-x-y.false, c.if-x-y-2.false, c.if-x-y-3.false)
