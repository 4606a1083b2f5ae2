use Rattle.std.proofs.Common.{◌∙◌}
use Rattle.std.specs.Prelude.{Ok, Err}
use Rattle.sketch_image.proofs.Answers.{read_number}
use Rattle.sketch_image.specs.SketchImage.{read_of}
use Rattle.probe.proofs.mulkefi_image_test.Goals as goal

pub returns-in-Ok : goal.returns-in-Ok
returns-in-Ok c = read_number (read_of (Ok c.in-Ok.field-0)) c.args.bytes.now c.in-Ok.ensures.result_is

pub returns-in-Err : goal.returns-in-Err
returns-in-Err c = c.from.ensures ∙ c.number.ensures ∙ read_number (read_of (Err c.in-Err.refusal)) c.args.bytes.now c.in-Err.ensures.result_is
