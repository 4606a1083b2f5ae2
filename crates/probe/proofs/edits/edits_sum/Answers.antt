use Rattle.std.proofs.Common.{refl, arith, rules}
use Rattle.probe.proofs.Sums.{none_yet, once_more, all_done}
use Rattle.probe.proofs.edits.edits_sum.Goals as goal

pub loop-i-init : goal.loop-i-init
loop-i-init c = (search rules, λ e. none_yet _)

pub loop-i-preserved : goal.loop-i-preserved
loop-i-preserved c = (search rules, λ e. once_more _ _ (c.loop-i.invariant.1 e) (c.edit_adds-sum.ensures e (omega arith)) refl)

pub returns : goal.returns
returns c = λ e. all_done _ _ _ c.loop-i.auto.i-end c.loop-i-test.false (c.loop-i.invariant.1 e)
