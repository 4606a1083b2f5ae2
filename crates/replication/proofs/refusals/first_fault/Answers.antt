-- `replication::first_fault` meets its contract.
use Rattle.std.proofs.Common.{refl, ◌∙◌}
use Rattle.replication.proofs.CallOutcomes.{nonzero, first_own, first_given}
use Rattle.replication.proofs.refusals.first_fault.Goals as goal

pub returns-in-Ok : goal.returns-in-Ok
returns-in-Ok c = first_given _ _ c.in-Ok.ensures refl

pub returns-in-Err : goal.returns-in-Err
returns-in-Err c = c.number.ensures ∙ first_own _ _ c.in-Err.ensures (nonzero _)
