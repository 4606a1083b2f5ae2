-- `window::catching_up::copy_due` meets its contract. The invariant: the slots so far stand at the buffer's front, the rest as it was.
use Rattle.window.proofs.CatchingUp.{DueCopied}
use Rattle.window.proofs.catching_up.copy_due.Given as goal

abbrev pub invariant-loop-i : goal.invariant-loop-i
invariant-loop-i l = DueCopied l.window l.wall l.initial.out l.i l.out
