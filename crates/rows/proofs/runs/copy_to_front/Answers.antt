use Rattle.std.proofs.Common.{arith}
use Rattle.rows.proofs.RunBytes.{copy_starts, copy_turns, copy_ends}
use Rattle.rows.proofs.runs.copy_to_front.Goals as goal

pub loop-i-init : goal.loop-i-init
loop-i-init c = (copy_starts _ _, omega arith)

pub loop-i-preserved : goal.loop-i-preserved
loop-i-preserved c = let l = c.loop-i in (copy_turns _ _ _ _ (omega arith) (omega arith) l.invariant.0, l.invariant.1)

pub returns : goal.returns
returns c = copy_ends _ _ _ _ (omega arith) c.loop-i.invariant.0
