-- `sketch_image::write_and_read` meets its contract: the sketch is of the code's own type, so that its image gives it again.
use Rattle.std.proofs.Common.{refl, length-take, arith}
use Rattle.std.proofs.lemmas.Result.{err_from_is_err_and}
use Rattle.sketch_image.proofs.Typed.{sketch_stored, sketch_size}
use Rattle.sketch_image.proofs.ReadBack.{back_refused, valid, front_long, back_same}
use Rattle.sketch_image.specs.SketchImage.{read_of}
use Rattle.sketch_image.proofs.round_trip.write_and_read.Goals as goal

pub returns-in_err-write : goal.returns-in_err-write
returns-in_err-write c =
    let p = err_from_is_err_and c.from_residual.result c.from_residual.ensures.1 in
    rw (p.1, p.2) (back_refused c.args.sk c.args.buf.now _ c.in_err-write.ensures c.in_err-write.field-0.0 refl)

pub slice_bounds-read-end : goal.slice_bounds-read-end
slice_bounds-read-end c =
    let s = c.args.sk in
    let w = c.in_ok-write.ensures in
    let ok = valid s _ c.write.new.buf w refl in
    let size = sketch_size s _ c.well_formed.0 ok c.image_size-size.ensures in
    let long = front_long s _ c.write.new.buf w refl (sketch_stored s _ c.well_formed.0 ok) _ size in
    omega (arith, long, length-take c.image_size-size.result c.write.new.buf)

pub slice_bounds-read-end-2 : goal.slice_bounds-read-end-2
slice_bounds-read-end-2 c =
    let s = c.args.sk in
    let w = c.in_ok-write.ensures in
    let ok = valid s _ c.write.new.buf w refl in
    front_long s _ c.write.new.buf w refl (sketch_stored s _ c.well_formed.0 ok) _ (sketch_size s _ c.well_formed.0 ok c.image_size-size.ensures)

pub returns : goal.returns
returns c =
    let s = c.args.sk in
    let w = c.in_ok-write.ensures in
    let ok = valid s _ c.write.new.buf w refl in
    back_same s _ c.write.new.buf w refl (sketch_stored s _ c.well_formed.0 ok) _ (sketch_size s _ c.well_formed.0 ok c.image_size-size.ensures) (read_of c.read.result) c.read.ensures
