use Rattle.std.proofs.Common.{sym, arith}
use Rattle.rows.proofs.RunBytes.{run_put}
use Rattle.big_endian.specs.Laws.{over_not}
use Rattle.rows.proofs.runs.put_run.Goals as goal
use Rattle.rows.proofs.runs.put_run.Goals.{else-n-out-via-then-n-out+else-at-out, else-n-out-via-else-n-out}

pub returns-then-at-out : goal.returns-then-at-out
returns-then-at-out c = let a = c.args in run_put a.out.now a.run.now a.at _ (omega arith) c.copy_to_front.ensures

pub returns-else-n-out : goal.returns-else-n-out
returns-else-n-out c =
    elim c.else-n-out.branch [
      | else-n-out-via-then-n-out+else-at-out w ↦ sym (over_not _ _ _ (omega arith))
      | else-n-out-via-else-n-out w ↦ sym (over_not _ _ _ (omega arith))
    ]
