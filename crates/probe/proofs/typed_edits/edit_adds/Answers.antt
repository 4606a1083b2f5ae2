use Rattle.std.proofs.Common.{refl, arith}
use Rattle.std.specs.Prelude.{Ok, Err}
use Rattle.modify.specs.Answers.{edited_of}
use Rattle.refusal.proofs.Numbers.{number_above_0}
use Rattle.probe.proofs.EditsMade.{adds_number, adds_sum}
use Rattle.probe.proofs.typed_edits.edit_adds.Goals as goal

pub returns-in-Err : goal.returns-in-Err
returns-in-Err c =
    let z = number_above_0 c.in-Err.refusal in
    adds_number _ _ _ _ c.requires (edited_of c.args.sk (Err c.in-Err.refusal)) c.in-Err.ensures (λ e. omega arith) c.with_place.ensures

pub returns-in-Ok : goal.returns-in-Ok
returns-in-Ok c = adds_sum _ _ _ _ c.requires (edited_of c.args.sk (Ok c.in-Ok.edited)) c.in-Ok.ensures refl refl
