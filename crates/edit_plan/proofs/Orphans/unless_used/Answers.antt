-- `Orphans::unless_used` meets its contract.
use Rattle.edit_plan.proofs.Unused.{orphans_kept, unused_in}
use Rattle.edit_plan.proofs.Orphans.unless_used.Goals as goal

pub returns : goal.returns
returns c = simp (c.still_unused-3.ensures, c.still_unused-2.ensures, c.still_unused.ensures) (orphans_kept (unused_in c.args.c) c.args.self)
