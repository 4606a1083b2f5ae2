-- `window::put_message` meets its contract.
use Rattle.std.proofs.Common.{◌∙◌}
use Rattle.window.proofs.Slides.{slid_fits}
use Rattle.window.proofs.put_message.Goals as goal

pub returns : goal.returns
returns c = c.put_run.ensures ∙ slid_fits c.args.window.now c.args.number c.args.message.now c.requires c.slot_at.ensures c.front.ensures
