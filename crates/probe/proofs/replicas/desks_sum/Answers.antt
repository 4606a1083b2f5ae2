-- `probe::replicas::desks_sum` meets its contract.
use Rattle.std.proofs.Common.{refl, arith, rules}
use Rattle.probe.proofs.Sums.{none_yet, once_more, all_done}
use Rattle.probe.proofs.replicas.desks_sum.Goals as goal

pub loop-i-init : goal.loop-i-init
loop-i-init c = (search rules, none_yet _)

pub desk_adds-sum-requires : goal.desk_adds-sum-requires
desk_adds-sum-requires c = (c.requires, omega (arith, c.loop-i.invariant.0))

pub loop-i-preserved : goal.loop-i-preserved
loop-i-preserved c = (search rules, once_more _ _ c.loop-i.invariant.1 c.desk_adds-sum.ensures refl)

pub returns : goal.returns
returns c = all_done _ _ _ c.loop-i.auto.i-end c.loop-i-test.false c.loop-i.invariant.1
