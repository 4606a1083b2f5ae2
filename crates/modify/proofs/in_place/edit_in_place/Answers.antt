use Rattle.std.proofs.Common.{rules}
use Rattle.modify.proofs.InPlace.{edited_at_once}
use Rattle.modify.proofs.in_place.edit_in_place.Goals as goal

pub returns : goal.returns
returns c = let a = c.args in edited_at_once a.operation a.curve a.at a.len a.buffer.now c.edit_by_room.ensures (λ k. search rules)
