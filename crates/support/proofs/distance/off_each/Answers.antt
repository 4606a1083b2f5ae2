use Rattle.std.proofs.Common.{refl, ◌∙◌, rules}
use Rattle.support.proofs.Offsets.{off_next, off_all}
use Rattle.support.proofs.distance.off_each.Goals as goal

pub loop-i-init : goal.loop-i-init
loop-i-init c = (refl, refl)

pub loop-i-preserved : goal.loop-i-preserved
loop-i-preserved c = (search rules, off_next _ _ _ _ _ _ _ _ _ _ _ c.loop-i-test.true (search rules) (search rules) (search rules) c.new.ensures c.off.ensures ∙ c.loop-i.invariant.1)

pub returns : goal.returns
returns c = (off_all _ _ _ _ _ _ _ _ _ (search rules) c.loop-i-test.false c.loop-i.invariant.1, search rules)
