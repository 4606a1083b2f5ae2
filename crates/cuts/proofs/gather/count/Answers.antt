use Rattle.cuts.proofs.gather.count.Goals as goal

pub returns-in-Zero : goal.returns-in-Zero
returns-in-Zero c = simp c.in-Zero.is

pub returns-in-One : goal.returns-in-One
returns-in-One c = simp c.in-One.is

pub returns-in-Two : goal.returns-in-Two
returns-in-Two c = simp c.in-Two.is
