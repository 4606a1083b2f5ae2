use Rattle.std.proofs.Common.{refl, rules}
use Rattle.bernstein.proofs.Lowering.{start, turn, finish}
use Rattle.bernstein.proofs.value.casteljau_four.Goals as goal

pub loop-i-init : goal.loop-i-init
loop-i-init c = start _ _ _ _ _ _ _ _ _ _ _ (search rules) (search rules) (search rules) c.mix-second.ensures refl c.mix-last1.ensures c.mix-last2.ensures c.mix.ensures c.mix-2.ensures c.mix-last3.ensures

pub loop-i-preserved : goal.loop-i-preserved
loop-i-preserved c = turn _ _ _ _ _ _ _ _ _ _ c.loop-i.invariant c.loop-i-test.true _ _ _ _ _ refl c.mix-next1.ensures c.mix-next2.ensures c.mix-next3.ensures c.mix-in-loop-i.ensures

pub returns : goal.returns
returns c = finish _ _ _ _ _ _ _ _ _ _ c.loop-i.invariant c.loop-i-test.false
