use Rattle.std.proofs.Common.{refl, arith, length-take}
use Rattle.std.proofs.lemmas.Result.{err_from_is_err_and}
use Rattle.refusal.proofs.Numbers.{number_above_0}
use Rattle.sketch_image.proofs.Typed.{sketch_slots}
use Rattle.sketch_image.proofs.Written.{ready, ready_size, unfit, short, wrote}
use Rattle.sketch_image.proofs.writer.write.Goals as goal

pub returns-in_err-sketch_fault : goal.returns-in_err-sketch_fault
returns-in_err-sketch_fault c =
    let p = err_from_is_err_and c.from_residual.result c.from_residual.ensures.1 in
    let n = number_above_0 c.in_err-sketch_fault.field-0.0 in
    rw (p.1, p.2) (unfit c.args.sk c.args.buf.now c.in_err-sketch_fault.ensures (λ z. omega arith))

pub returns-then-buf-image_size : goal.returns-then-buf-image_size
returns-then-buf-image_size c = short c.args.sk c.args.buf.now c.in_ok-sketch_fault.ensures refl c.well_formed.0.1.1.1.1.1.1.0.1.0.1 c.well_formed.0.1.1.1.1.1.1.1.0.1.0.1 c.well_formed.0.1.1.1.1.1.1.1.1.0.1.0.1 c.image_size.ensures c.if-buf-image_size.true

pub shared_ref_as_front-points : goal.shared_ref_as_front-points
shared_ref_as_front-points c = (ready c.args.sk c.in_ok-sketch_fault.ensures refl).few_points

pub write_points-requires : goal.write_points-requires
write_points-requires c =
    let w = ready c.args.sk c.in_ok-sketch_fault.ensures refl in
    let z = c.if-buf-image_size.false in
    let y = ready_size _ w c.image_size.ensures in
    omega (arith, length-take c.args.sk.npoints c.args.sk.points)

pub shared_ref_as_front-curves : goal.shared_ref_as_front-curves
shared_ref_as_front-curves c = (ready c.args.sk c.in_ok-sketch_fault.ensures refl).few_curves

pub write_curves-requires : goal.write_curves-requires
write_curves-requires c =
    let w = ready c.args.sk c.in_ok-sketch_fault.ensures refl in
    let z = c.if-buf-image_size.false in
    let y = ready_size _ w c.image_size.ensures in
    (omega (arith, length-take c.args.sk.ncurves c.args.sk.curves), sketch_slots c.args.sk _ c.well_formed.0)

pub shared_ref_as_front-relations : goal.shared_ref_as_front-relations
shared_ref_as_front-relations c = (ready c.args.sk c.in_ok-sketch_fault.ensures refl).few_relations

pub write_relations-requires : goal.write_relations-requires
write_relations-requires c =
    let w = ready c.args.sk c.in_ok-sketch_fault.ensures refl in
    let z = c.if-buf-image_size.false in
    let y = ready_size _ w c.image_size.ensures in
    omega (arith, length-take c.args.sk.nrelations c.args.sk.relations)

pub returns : goal.returns
returns c = wrote c.args.sk c.args.buf.now c.in_ok-sketch_fault.ensures refl c.well_formed.0.1.1.1.1.1.1.0.1.0.1 c.well_formed.0.1.1.1.1.1.1.1.0.1.0.1 c.well_formed.0.1.1.1.1.1.1.1.1.0.1.0.1 c.image_size.ensures c.if-buf-image_size.false c.write_header.ensures c.write_points.ensures c.write_curves.ensures (sketch_slots c.args.sk _ c.well_formed.0) c.write_relations.ensures
