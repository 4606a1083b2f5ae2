use Rattle.std.proofs.Common.{sym}
use Rattle.std.proofs.lemmas.Result.{err_from_is_err_and}
use Rattle.message.proofs.MessageRoundTrips.{result_refused}
use Rattle.probe.proofs.Answers.{not_copied, message_copied}
use Rattle.probe.proofs.copy_message.Goals as goal

pub returns-in_err-read_message : goal.returns-in_err-read_message
returns-in_err-read_message c =
    let p = err_from_is_err_and c.from_residual.result c.from_residual.ensures.1 in
    let v = result_refused _ _ _ (sym c.in_err-read_message.ensures) in
    rw (p.1, p.2) (not_copied _ _ _ _ v.0 v.1)

pub returns : goal.returns
returns c = message_copied c.args.mark c.args.bytes.now c.args.out.now _ _ _ (λ k. (c.type_inv.bytes k).fits) (sym c.in_ok-read_message.ensures) c.write_message.ensures
