-- `apply::within_limits` meets its contract.
use Rattle.apply.proofs.Turns.{limits_test}
use Rattle.apply.proofs.limits.within_limits.Goals as goal

pub returns : goal.returns
returns c = limits_test _ _ _
