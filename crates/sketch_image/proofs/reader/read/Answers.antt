use Rattle.std.proofs.Common.{sym}
use Rattle.std.proofs.lemmas.Result.{err_from_is_err_and}
use Rattle.sketch_image.proofs.Answers.{read_refused, read_accepted}
use Rattle.sketch_image.proofs.reader.read.Goals as goal

pub returns-in_err-image_fault : goal.returns-in_err-image_fault
returns-in_err-image_fault c =
    let p = err_from_is_err_and c.from_residual.result c.from_residual.ensures.1 in
    rw (p.1, p.2) (read_refused c.args.s.now c.in_err-image_fault.field-0.0 c.in_err-image_fault.ensures.number)

pub decode_sketch-requires : goal.decode_sketch-requires
decode_sketch-requires c = sym c.in_ok-image_fault.ensures.number

pub returns : goal.returns
returns c = read_accepted c.args.s.now c.decode_sketch.result c.in_ok-image_fault.ensures.number c.decode_sketch.ensures
