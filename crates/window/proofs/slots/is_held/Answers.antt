-- `window::slots::is_held` meets its contract.
use Rattle.std.proofs.Common.{rules}
use Rattle.std.proofs.lemmas.Result.{MatchResult-weaker}
use Rattle.window.proofs.IsHeld.{held_by}
use Rattle.window.proofs.slots.is_held.Goals as goal

pub returns : goal.returns
returns c =
    let a = c.args in
    held_by a.mark a.window.now a.number _ c.slot.ensures c.read_message.result c.read_message.ensures c.is_ok_and.result
    (MatchResult-weaker c.read_message.result c.is_ok_and.ensures (λ m h. search rules) (λ r h. h))
