use Rattle.std.proofs.Common.{sym, refl, arith}
use Rattle.std.proofs.lemmas.Result.{err_from_is_err_and}
use Rattle.refusal.specs.Refusals.{number}
use Rattle.refusal.proofs.Numbers.{number_above_0}
use Rattle.message.proofs.OperationNumbers.{known_operation, unknown_operation}
use Rattle.probe.proofs.EditsMade.{adds_read}
use Rattle.probe.proofs.Sums.{image_refused, operation_refused, operation_passed}
use Rattle.probe.proofs.edits.edits_sum_by_number.Goals as goal

pub returns-in_err-test_image : goal.returns-in_err-test_image
returns-in_err-test_image c =
    let p = err_from_is_err_and c.from_residual.result c.from_residual.ensures.1 in
    let z = number_above_0 c.in_err-test_image.field-0.0 in
    rw (p.1, p.2) (image_refused c.args.bytes.now _ c.in_err-test_image.ensures (λ e. omega arith))

pub returns-in_err-operation : goal.returns-in_err-operation
returns-in_err-operation c =
    let p = err_from_is_err_and c.from_residual-in_err-operation.result c.from_residual-in_err-operation.ensures.1 in
    let u = unknown_operation c.args.operation c.in_err-operation.field-0.0 c.in_err-operation.ensures in
    rw (p.1, p.2, u.1) (operation_refused c.args.bytes.now c.args.operation _ (sym c.in_ok-test_image.ensures) u.0)

pub returns : goal.returns
returns c =
    let i = sym c.in_ok-test_image.ensures in
    let k = known_operation c.args.operation c.in_ok-operation.operation c.in_ok-operation.ensures in
    operation_passed c.args.bytes.now c.args.operation _ i k.0 (adds_read c.args.operation c.args.bytes.now c.args.curve c.args.at c.args.times refl k.1 (c.edits_sum.ensures i))
