use Rattle.std.proofs.Common.{arith}
use Rattle.std.specs.Prelude.{Err}
use Rattle.sketch_image.proofs.Answers.{read_number}
use Rattle.sketch_image.specs.SketchImage.{read_of}
use Rattle.refusal.proofs.Numbers.{number_above_0}
use Rattle.probe.proofs.Answers.{not_copied, image_copied}
use Rattle.probe.proofs.copy_image.Goals as goal

pub returns-in-Err : goal.returns-in-Err
returns-in-Err c =
    let r = c.in-Err.refusal in
    let z = number_above_0 r in
    not_copied _ _ _ _ (read_number (read_of (Err r)) c.args.bytes.now c.in-Err.ensures.result_is) (λ e. omega arith)

pub returns-in-Ok : goal.returns-in-Ok
returns-in-Ok c = image_copied c.args.bytes.now c.args.out.now _ _ _ (λ k. (c.type_inv.bytes k).fits) c.in-Ok.ensures c.write.ensures
