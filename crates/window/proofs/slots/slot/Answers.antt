-- `window::slots::slot` meets its contract.
use Rattle.window.proofs.Slides.{slot_taken}
use Rattle.window.proofs.slots.slot.Goals as goal

pub returns : goal.returns
returns c = let a = c.args in slot_taken a.window.now a.number c.slot_at.ensures c.rest.ensures c.front.ensures
