use Rattle.std.proofs.Common.{refl, sym, ◌∙◌}
use Rattle.support.proofs.Offsets.{heavier, heaviest_so_far}
use Rattle.support.proofs.distance.heaviest.Goals as goal

pub loop-w-init : goal.loop-w-init
loop-w-init c = refl

pub loop-w-preserved : goal.loop-w-preserved
loop-w-preserved c = heavier _ _ _ _ c.loop-w-test.true c.max-m.ensures ∙ c.loop-w.invariant

pub returns : goal.returns
returns c = sym (heaviest_so_far _ _ _ c.loop-w-test.false) ∙ c.loop-w.invariant
