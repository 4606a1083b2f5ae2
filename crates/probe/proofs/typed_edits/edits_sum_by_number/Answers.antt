use Rattle.std.proofs.Common.{sym, refl, arith}
use Rattle.std.proofs.lemmas.Result.{err_from_is_err_and}
use Rattle.std.specs.Prelude.{Ok, Err}
use Rattle.refusal.proofs.Numbers.{number_above_0}
use Rattle.message.proofs.OperationNumbers.{known_operation, unknown_operation}
use Rattle.sketch_image.specs.SketchImage.{read_of}
use Rattle.sketch_image.proofs.Answers.{read_number, read_drawing}
use Rattle.probe.proofs.EditsMade.{adds_read}
use Rattle.probe.proofs.Sums.{image_refused, operation_refused, operation_passed}
use Rattle.probe.proofs.typed_edits.edits_sum_by_number.Goals as goal

pub returns-in_err-sk : goal.returns-in_err-sk
returns-in_err-sk c =
    let p = err_from_is_err_and c.from_residual.result c.from_residual.ensures.1 in
    let r = c.in_err-sk.field-0.0 in
    let z = number_above_0 r in
    rw (p.1, p.2) (image_refused c.args.bytes.now _ (read_number (read_of (Err r)) c.args.bytes.now c.in_err-sk.ensures.result_is) (λ e. omega arith))

pub returns-in_err-operation : goal.returns-in_err-operation
returns-in_err-operation c =
    let p = err_from_is_err_and c.from_residual-in_err-operation.result c.from_residual-in_err-operation.ensures.1 in
    let u = unknown_operation c.args.operation c.in_err-operation.field-0.0 c.in_err-operation.ensures in
    let i = sym (read_number (read_of (Ok c.in_ok-sk.sk)) c.args.bytes.now c.in_ok-sk.ensures.result_is) in
    rw (p.1, p.2, u.1) (operation_refused c.args.bytes.now c.args.operation _ i u.0)

pub edits_sum-requires : goal.edits_sum-requires
edits_sum-requires c = c.in_ok-sk.ensures.sound

pub returns : goal.returns
returns c =
    let r = read_of (Ok c.in_ok-sk.sk) in
    let is = c.in_ok-sk.ensures.result_is in
    let k = known_operation c.args.operation c.in_ok-operation.operation c.in_ok-operation.ensures in
    operation_passed c.args.bytes.now c.args.operation _ (sym (read_number r c.args.bytes.now is)) k.0 (adds_read c.args.operation c.args.bytes.now c.args.curve c.args.at c.args.times (read_drawing r c.args.bytes.now is refl) k.1 c.edits_sum.ensures)
