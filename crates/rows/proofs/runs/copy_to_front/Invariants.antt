use Rattle.std.proofs.Common.{◌≤◌, length}
use Rattle.rows.proofs.RunBytes.{Copying}
use Rattle.rows.proofs.runs.copy_to_front.Given as goal

abbrev pub invariant-loop-i : goal.invariant-loop-i
invariant-loop-i l = Copying l.run l.initial.out l.i l.out × (length l.run ≤ length l.initial.out)
