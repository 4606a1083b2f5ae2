use Rattle.std.proofs.Common.{◌≡◌, ℕ, ◌<◌, ◌≤◌, sym, refl, arith, rules}
use Rattle.std.proofs.lemmas.Result.{err_from_is_err_and}
use Rattle.refusal.proofs.Numbers.{number_above_0}
use Rattle.message.proofs.OperationNumbers.{known_operation, unknown_operation}
use Rattle.extend.proofs.Places.{placeless_below}
use Rattle.modify.proofs.ImageFaults.{image_fault_low}
use Rattle.probe.specs.EditContracts.{ReportEnd}
use Rattle.probe.proofs.RefusalNumbers.{number_low, plain_number}
use Rattle.probe.proofs.EditsMade.{image_refused, no_operation}
use Rattle.probe.proofs.ImageEditsMade.{edit_refused, edit_written}
use Rattle.probe.proofs.edits.edit_image.Goals as goal

-- where the image begins: behind the report, or at the end of a buffer that is too short for one
end_is : (room r : ℕ) → r ≤ room → (12 ≤ room → r ≡ 12) → (room < 12 → r ≡ room) → ReportEnd room r
end_is room r a b c = record { within = a; whole = b; short = c }

pub returns-in_err-test_image-in-Err : goal.returns-in_err-test_image-in-Err
returns-in_err-test_image-in-Err c =
    let p = err_from_is_err_and c.from_residual.result c.from_residual.ensures.1 in
    let r = c.in_err-test_image-in-Err.field-0.0 in
    let e = c.in_err-test_image-in-Err.ensures in
    let z = number_above_0 r in
    let low = number_low r in
    rw (p.1, p.2, plain_number r (placeless_below (omega (arith, e, image_fault_low c.args.bytes.now)))) (image_refused c.args.operation c.args.bytes.now c.args.curve c.args.at c.args.out.now _ (omega arith) e (λ y. omega arith))

pub returns-in-Err : goal.returns-in-Err
returns-in-Err c =
    let u = unknown_operation c.args.operation c.in-Err.unknown c.in-Err.ensures in
    rw u.1 (no_operation c.args.operation c.args.bytes.now c.args.curve c.args.at c.args.out.now (sym c.in_ok-test_image-in-Err.ensures) u.0)

pub returns-in_err-edited : goal.returns-in_err-edited
returns-in_err-edited c =
    let p = err_from_is_err_and c.from_residual-in_err-edited.result c.from_residual-in_err-edited.ensures.1 in
    let k = known_operation c.args.operation c.in-Ok.operation c.in-Ok.ensures in
    let m = c.min-start.ensures in
    let low = number_low c.in_err-edited.field-0.0 in
    rw (p.1, p.2) (edit_refused c.args.operation c.args.bytes.now c.args.curve c.args.at c.args.out.now k.0 c.min-start.result (end_is _ _ (search rules) (λ h. search rules) (λ h. search rules)) k.1 c.in_err-edited.ensures (λ i. (c.type_inv.bytes i).fits) refl (omega arith) refl)

pub returns : goal.returns
returns c =
    let k = known_operation c.args.operation c.in-Ok.operation c.in-Ok.ensures in
    edit_written c.args.operation c.args.bytes.now c.args.curve c.args.at c.args.out.now k.0 c.min-start.result (end_is _ _ (search rules) (λ h. search rules) (λ h. search rules)) k.1 c.in_ok-edited.ensures refl c.put_report.ensures
