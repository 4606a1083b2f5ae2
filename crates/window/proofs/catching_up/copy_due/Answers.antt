-- `window::catching_up::copy_due` meets its contract. The invariant: the slots so far stand at the buffer's front, the rest as it was.
use Rattle.std.proofs.Common.{◌≡◌, arith}
use Rattle.window.proofs.CatchingUp.{due_none, due_more}
use Rattle.window.proofs.catching_up.copy_due.Goals as goal

pub loop-i-init : goal.loop-i-init
loop-i-init c = due_none _ _ _

pub loop-i-preserved : goal.loop-i-preserved
loop-i-preserved c = let l = c.loop-i in due_more c.args.window.now c.args.wall c.args.n c.args.out.now c.requires.1 c.requires.2 l.i (omega arith) l.invariant c.slot.ensures c.put_run.ensures

pub returns : goal.returns
returns c = let e : c.loop-i.i ≡ c.args.n = omega arith in rw (← e) c.loop-i.invariant.copied.is
