use Rattle.std.proofs.Common.{sym, refl, arith}
use Rattle.std.proofs.lemmas.Result.{err_from_is_err_and}
use Rattle.std.specs.Prelude.{Ok, Err}
use Rattle.refusal.proofs.Numbers.{number_above_0}
use Rattle.message.proofs.OperationNumbers.{known_operation, unknown_operation}
use Rattle.sketch_image.specs.SketchImage.{read_of}
use Rattle.sketch_image.proofs.Answers.{read_number, read_drawing}
use Rattle.extend.proofs.Places.{placeless_below}
use Rattle.modify.specs.Answers.{edited_of}
use Rattle.modify.proofs.ImageFaults.{image_fault_low}
use Rattle.probe.proofs.RefusalNumbers.{number_low, plain_number, plain_outcome}
use Rattle.probe.proofs.EditsMade.{image_refused, no_operation, wrote_number, edit_refused, edit_written, named}
use Rattle.probe.proofs.typed_edits.edit_sketch.Goals as goal

pub returns-in_err-sk : goal.returns-in_err-sk
returns-in_err-sk c =
    let p = err_from_is_err_and c.from_residual.result c.from_residual.ensures.1 in
    let r = c.in_err-sk.field-0.0 in
    let e = read_number (read_of (Err r)) c.args.bytes.now c.in_err-sk.ensures.result_is in
    let z = number_above_0 r in
    let low = number_low r in
    rw (p.1, p.2, plain_number r (placeless_below (omega (arith, e, image_fault_low c.args.bytes.now)))) (image_refused c.args.operation c.args.bytes.now c.args.curve c.args.at c.args.out.now _ (omega arith) e (λ y. omega arith))

pub returns-in_err-operation : goal.returns-in_err-operation
returns-in_err-operation c =
    let p = err_from_is_err_and c.from_residual-in_err-operation.result c.from_residual-in_err-operation.ensures.1 in
    let u = unknown_operation c.args.operation c.in_err-operation.field-0.0 c.in_err-operation.ensures in
    let i = sym (read_number (read_of (Ok c.in_ok-sk.sk)) c.args.bytes.now c.in_ok-sk.ensures.result_is) in
    rw (p.1, p.2, u.1) (no_operation c.args.operation c.args.bytes.now c.args.curve c.args.at c.args.out.now i u.0)

pub returns-in_err-edited : goal.returns-in_err-edited
returns-in_err-edited c =
    let p = err_from_is_err_and c.from_residual-in_err-edited.result c.from_residual-in_err-edited.ensures.1 in
    let r = read_of (Ok c.in_ok-sk.sk) in
    let is = c.in_ok-sk.ensures.result_is in
    let k = known_operation c.args.operation c.in_ok-operation.operation c.in_ok-operation.ensures in
    let n = c.in_err-edited.field-0.0 in
    let z = number_above_0 n in
    let low = number_low n in
    rw (p.1, p.2) (edit_refused c.args.operation c.args.bytes.now c.args.curve c.args.at c.args.out.now (sym (read_number r c.args.bytes.now is)) k.0 _ (read_drawing r c.args.bytes.now is refl) c.in_ok-sk.ensures.sound (edited_of c.in_ok-sk.sk (Err n)) (named k.1 c.in_err-edited.ensures) _ (omega arith) (λ y. omega arith) refl)

pub write_edited-requires : goal.write_edited-requires
write_edited-requires c = c.in_ok-edited.ensures.valid refl

pub returns : goal.returns
returns c =
    let r = read_of (Ok c.in_ok-sk.sk) in
    let is = c.in_ok-sk.ensures.result_is in
    let k = known_operation c.args.operation c.in_ok-operation.operation c.in_ok-operation.ensures in
    let e = edited_of c.in_ok-sk.sk (Ok c.in_ok-edited.edited) in
    let w = c.write_edited.ensures in
    rw (plain_outcome c.write_edited.result (wrote_number _ _ w)) (edit_written c.args.operation c.args.bytes.now c.args.curve c.args.at c.args.out.now (sym (read_number r c.args.bytes.now is)) k.0 _ (read_drawing r c.args.bytes.now is refl) c.in_ok-sk.ensures.sound e (named k.1 c.in_ok-edited.ensures) refl _ _ w)
