use Rattle.cuts.specs.Crossings.{crossing_at}
use Rattle.cuts.proofs.Among.{first_of_two, second_of_two}
use Rattle.cuts.proofs.gather.nth.Goals as goal

pub returns-then-k-eq0 : goal.returns-then-k-eq0
returns-then-k-eq0 c = first_of_two _ _ _ _ c.in-Two.is c.if-k-eq0.true

pub returns-in-Zero : goal.returns-in-Zero
unfolding crossing_at
returns-in-Zero c = simp c.in-Zero.is

pub returns-in-One : goal.returns-in-One
unfolding crossing_at
returns-in-One c = simp c.in-One.is

pub returns-else-k-eq0 : goal.returns-else-k-eq0
returns-else-k-eq0 c = second_of_two _ _ _ _ c.in-Two.is c.if-k-eq0.false
