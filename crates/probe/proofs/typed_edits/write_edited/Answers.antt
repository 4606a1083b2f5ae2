use Rattle.std.proofs.Common.{refl, arith}
use Rattle.std.proofs.lemmas.Result.{err_from_is_err_and}
use Rattle.refusal.proofs.Numbers.{number_above_0}
use Rattle.probe.proofs.EditsWritten.{report_short, image_short, image_and_report_written}
use Rattle.probe.proofs.typed_edits.write_edited.Goals as goal

pub returns-then-out-lt-REPORT : goal.returns-then-out-lt-REPORT
returns-then-out-lt-REPORT c = report_short c.args.edited.sketch c.args.edited.removed c.args.out.now c.if-out-lt-REPORT.true

pub returns-in_err-write : goal.returns-in_err-write
returns-in_err-write c =
    let p = err_from_is_err_and c.from_residual.result c.from_residual.ensures.1 in
    let z = number_above_0 c.in_err-write.field-0.0 in
    rw (p.1, p.2) (image_short c.args.edited.sketch c.args.edited.removed c.args.out.now c.requires c.if-out-lt-REPORT.false _ _ c.in_err-write.ensures (λ e. omega arith))

pub returns : goal.returns
returns c = image_and_report_written c.args.edited.sketch c.args.edited.removed c.args.out.now c.requires c.if-out-lt-REPORT.false _ _ c.in_ok-write.ensures refl _ c.put_report.ensures
