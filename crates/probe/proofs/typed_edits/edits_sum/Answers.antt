use Rattle.std.proofs.Common.{refl}
use Rattle.probe.proofs.Sums.{none_yet, once_more, all_done}
use Rattle.probe.proofs.typed_edits.edits_sum.Goals as goal

pub loop-i-init : goal.loop-i-init
loop-i-init c = none_yet _

pub loop-i-preserved : goal.loop-i-preserved
loop-i-preserved c = once_more _ _ c.loop-i.invariant c.edit_adds-sum.ensures refl

pub returns : goal.returns
returns c = all_done _ _ _ c.loop-i.auto.i-end c.loop-i-test.false c.loop-i.invariant
