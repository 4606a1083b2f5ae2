use Rattle.std.proofs.Common.{refl}
use Rattle.probe.proofs.ImageEditsMade.{adds_number, adds_sum}
use Rattle.probe.proofs.edits.edit_adds.Goals as goal

pub returns-in-Err : goal.returns-in-Err
returns-in-Err c = adds_number c.args.operation c.args.bytes.now c.args.curve c.args.at c.in-Err.ensures (λ i. (c.type_inv.bytes i).fits) refl c.with_place.ensures

pub returns-in-Ok : goal.returns-in-Ok
returns-in-Ok c = adds_sum c.args.operation c.args.bytes.now c.args.curve c.args.at c.in-Ok.ensures (λ i. (c.type_inv.bytes i).fits) refl c.next_id.ensures refl
