use Rattle.std.proofs.Common.{refl}
use Rattle.cuts.proofs.Steps.{found_here, found_later, found_end}
use Rattle.cuts.proofs.gather.seen.Goals as goal

pub returns-then-dist2 : goal.returns-then-dist2
returns-then-dist2 c = found_here _ _ _ c.loop-k.invariant c.loop-k-test.true _ _ refl _ c.dist2.ensures c.if-dist2.true

pub loop-k-preserved : goal.loop-k-preserved
loop-k-preserved c = found_later _ _ _ c.loop-k.invariant c.loop-k-test.true _ _ refl _ c.dist2.ensures c.if-dist2.false

pub returns : goal.returns
returns c = found_end _ _ _ c.loop-k-test.false c.loop-k.invariant
