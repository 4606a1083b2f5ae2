use Rattle.std.proofs.Common.{take, ap, arith, rules}
use Rattle.refusal.specs.Refusals.{number}
use Rattle.modify.proofs.InPlace.{other_number, fits_if, edited_in_place, edited_again}
use Rattle.modify.proofs.in_place.edit_by_either_room.Goals as goal

pub returns-in-Ok : goal.returns-in-Ok
returns-in-Ok c =
    let a = c.args in
    let s = take a.len a.buffer.now in
    edited_in_place a.operation s a.curve a.at c.in-Ok.ensures (fits_if a.operation s a.curve a.at c.in-Ok.ensures (λ z. omega arith))

pub returns-in-ShortBuffer : goal.returns-in-ShortBuffer
returns-in-ShortBuffer c =
    let a = c.args in
    edited_again a.operation a.curve a.at a.len a.buffer.now c.in-Err.ensures (ap number c.in-ShortBuffer.is) (λ k. search rules) c.edit_by_room-in-ShortBuffer.ensures

pub returns-in_default : goal.returns-in_default
returns-in_default c =
    let a = c.args in
    let s = take a.len a.buffer.now in
    edited_in_place a.operation s a.curve a.at c.in-Err.ensures (fits_if a.operation s a.curve a.at c.in-Err.ensures (other_number _ c.in_default.not-ShortBuffer))
