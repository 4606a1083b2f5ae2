-- The sketch is of the code's own type, so that its image gives it again.
use Rattle.std.proofs.Common.{◌≡◌, refl, sym, ap, ◌∙◌, subst, ℕ, ◌≤◌, List, length, take, length-take, length-take-le, arith, rules}
use Rattle.std.proofs.lemmas.Result.{err_from_is_err_and}
use mir.Val.{Val}
use denote.Shadow.{shadow}
use Rattle.refusal.specs.Refusals.{refusal_number}
use Rattle.refusal.proofs.Numbers.{number_above_0}
use Rattle.sketch.specs.declared.Sketch.{Sketch}
use Rattle.sketch.specs.contracts.Sketch as S
use Rattle.sketch.specs.Drawing.{view}
use Rattle.sketch.specs.Valid.{sketch_fault}
use Rattle.image.specs.Image.{image_fault, drawing_of}
use Rattle.sketch_image.specs.SketchImage.{ImageWritten, ReadAnswer, read_of}
use Rattle.sketch_image.proofs.Written.{SizeIs}
use Rattle.sketch_image.proofs.Typed.{sketch_stored, sketch_size}
use Rattle.sketch_image.proofs.ReadBack.{valid, front_long, front_read}
use Rattle.extend.specs.Answers.{answer_of}
use Rattle.modify.specs.ImageEdits.{EditWritten}
use Rattle.modify.proofs.Answers.{unwritten, answer_fits, image_refused, image_read, image_accepted}
use Rattle.modify.proofs.edits.edit.Goals as goal

-- ---- once its image is written

-- the image at the buffer's front gives the sketch again
record Held (s : Sketch) (now : List ℕ) (size : ℕ) : Type 0 where
  ok : sketch_fault s ≡ 0
  long : size ≡ length (take size now)
  again : (image_fault (take size now) ≡ 0) × (drawing_of (take size now) ≡ view s)

held : (s : Sketch) (u : List Val) → shadow ((S.the_field).row.own_val ((S.the_type).to s) u) → {before now : List ℕ} {n : ℕ} → ImageWritten s before now n → n ≡ 0 → (size : ℕ) → SizeIs s size → Held s now size
held s u t w z size is =
    let ok = valid s _ _ w z in
    let stored = sketch_stored s u t ok in
    let size_is = sketch_size s u t ok is in
    record { ok = ok; long = front_long s _ _ w z stored size size_is; again = front_read s _ _ w z stored size_is }

pub returns-in_err-write : goal.returns-in_err-write
returns-in_err-write c =
    let p = err_from_is_err_and c.from_residual.result c.from_residual.ensures.1 in
    rw (p.1, p.2) (unwritten _ _ _ _ _ (sym (ap refusal_number c.in_err-write.was) ∙ c.write.ensures.number) (search rules))

pub slice_bounds-image-end : goal.slice_bounds-image-end
slice_bounds-image-end c =
    let h = held c.args.sk _ c.well_formed.1.0 c.write.ensures (ap refusal_number c.in_ok-write.was) c.image_size-size.result c.image_size-size.ensures in
    omega (arith, h.long, length-take c.image_size-size.result c.write.new.buf)

pub slice_bounds-edit_image-end : goal.slice_bounds-edit_image-end
slice_bounds-edit_image-end c =
    let h = held c.args.sk _ c.well_formed.1.0 c.write.ensures (ap refusal_number c.in_ok-write.was) c.image_size-size.result c.image_size-size.ensures in
    h.long

pub returns-in_err-edited : goal.returns-in_err-edited
returns-in_err-edited c =
    let h = held c.args.sk _ c.well_formed.1.0 c.write.ensures (ap refusal_number c.in_ok-write.was) c.image_size-size.result c.image_size-size.ensures in
    let p = err_from_is_err_and c.from_residual-in_err-edited.result c.from_residual-in_err-edited.ensures.1 in
    rw (p.1, p.2) (image_refused _ _ _ _ h.ok _ h.again c.edit_image.ensures (search rules) _ (ap answer_of c.in_err-edited.was))

-- ---- once that is edited

pub slice_bounds-out-end : goal.slice_bounds-out-end
slice_bounds-out-end c =
    let h = held c.args.sk _ c.well_formed.1.0 c.write.ensures (ap refusal_number c.in_ok-write.was) c.image_size-size.result c.image_size-size.ensures in
    let w = subst (EditWritten c.args.operation _ c.args.curve c.args.at _ _) (ap answer_of c.in_ok-edited.was) c.edit_image.ensures in
    let u = answer_fits _ c.args.sk _ _ h.ok _ h.again w (search rules) in
    search rules

pub slice_bounds-read-end : goal.slice_bounds-read-end
slice_bounds-read-end c =
    let h = held c.args.sk _ c.well_formed.1.0 c.write.ensures (ap refusal_number c.in_ok-write.was) c.image_size-size.result c.image_size-size.ensures in
    let w = subst (EditWritten c.args.operation _ c.args.curve c.args.at _ _) (ap answer_of c.in_ok-edited.was) c.edit_image.ensures in
    let u = answer_fits _ c.args.sk _ _ h.ok _ h.again w (search rules) in
    let fits : c.in_ok-edited.edited.size ≤ length c.edit_image.new.out = search rules in
    sym (length-take-le _ _ fits)

pub returns-in_err-sketch : goal.returns-in_err-sketch
returns-in_err-sketch c =
    let h = held c.args.sk _ c.well_formed.1.0 c.write.ensures (ap refusal_number c.in_ok-write.was) c.image_size-size.result c.image_size-size.ensures in
    let w = subst (EditWritten c.args.operation _ c.args.curve c.args.at _ _) (ap answer_of c.in_ok-edited.was) c.edit_image.ensures in
    let got = subst (ReadAnswer _) (ap read_of c.in_err-sketch.was) c.read.ensures in
    absurd (omega (arith, number_above_0 c.in_err-sketch.field-0.0, image_read _ c.args.sk _ _ h.ok _ h.again w (search rules) refl got))

pub returns : goal.returns
returns c =
    let h = held c.args.sk _ c.well_formed.1.0 c.write.ensures (ap refusal_number c.in_ok-write.was) c.image_size-size.result c.image_size-size.ensures in
    let w = subst (EditWritten c.args.operation _ c.args.curve c.args.at _ _) (ap answer_of c.in_ok-edited.was) c.edit_image.ensures in
    let got = subst (ReadAnswer _) (ap read_of c.in_ok-sketch.was) c.read.ensures in
    image_accepted _ _ _ _ h.ok _ h.again w (search rules) refl got refl refl refl refl
