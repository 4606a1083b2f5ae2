use Rattle.std.proofs.Common.{sym, arith}
use Rattle.std.proofs.lemmas.Result.{err_from_is_err_and}
use Rattle.refusal.proofs.Numbers.{number_above_0}
use Rattle.message.proofs.OperationNumbers.{known_operation, unknown_operation}
use Rattle.probe.proofs.ReplicaSums.{desk_read}
use Rattle.probe.proofs.Sums.{image_refused, operation_refused, operation_passed}
use Rattle.probe.proofs.replicas.desks_sum_by_number.Goals as goal

pub returns-in_err-test_image : goal.returns-in_err-test_image
returns-in_err-test_image c =
    let p = err_from_is_err_and c.from_residual.result c.from_residual.ensures.1 in
    let z = number_above_0 c.in_err-test_image.field-0.0 in
    rw (p.1, p.2) (image_refused c.args.image.now _ c.in_err-test_image.ensures (λ e. omega arith))

pub returns-in_err-operation : goal.returns-in_err-operation
returns-in_err-operation c =
    let p = err_from_is_err_and c.from_residual-in_err-operation.result c.from_residual-in_err-operation.ensures.1 in
    let u = unknown_operation c.args.operation c.in_err-operation.field-0.0 c.in_err-operation.ensures in
    rw (p.1, p.2, u.1) (operation_refused c.args.image.now c.args.operation _ (sym c.in_ok-test_image.ensures) u.0)

pub desks_sum-requires : goal.desks_sum-requires
desks_sum-requires c = sym c.in_ok-test_image.ensures

pub returns : goal.returns
returns c =
    let k = known_operation c.args.operation c.in_ok-operation.operation c.in_ok-operation.ensures in
    operation_passed c.args.image.now c.args.operation _ (sym c.in_ok-test_image.ensures) k.0 (desk_read c.args.image.now c.args.count c.args.operation c.args.curve c.args.x c.args.y c.args.times k.1 c.desks_sum.ensures)
