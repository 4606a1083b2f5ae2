use Rattle.std.proofs.Common.{sym, refl, ◌∙◌, arith}
use Rattle.std.proofs.lemmas.Result.{err_from_is_err_and}
use Rattle.std.specs.Prelude.{Ok, Err}
use Rattle.sketch_image.proofs.Answers.{read_number, read_drawing}
use Rattle.sketch_image.specs.SketchImage.{read_of}
use Rattle.refusal.proofs.Numbers.{number_above_0}
use Rattle.probe.proofs.read_altered.Goals as goal

pub returns-in_err-sk : goal.returns-in_err-sk
returns-in_err-sk c =
    let p = err_from_is_err_and c.from_residual.result c.from_residual.ensures.1 in
    let r = c.in_err-sk.field-0.0 in
    let e = read_number (read_of (Err r)) c.args.bytes.now c.in_err-sk.ensures.result_is in
    let z = number_above_0 r in
    rw (p.1, p.2) (λ y. omega (arith, e), e)

pub returns : goal.returns
returns c =
    let r = read_of (Ok c.in_ok-sk.sk) in
    let a = c.in_ok-sk.ensures in
    (c.in_ok-sk.sk, sym (read_number r c.args.bytes.now a.result_is), read_drawing r c.args.bytes.now a.result_is refl, refl)
