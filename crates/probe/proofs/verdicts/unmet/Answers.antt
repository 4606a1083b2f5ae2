-- `probe::unmet` meets its contract: the sketch is of the code's own type, so that its image gives it again.
use Rattle.std.proofs.Common.{◌≡◌, ℕ, List, length, take, refl, arith, length-take, rules}
use Rattle.std.proofs.lemmas.Result.{err_from_is_err_and}
use mir.Val.{Val}
use denote.Shadow.{shadow}
use Rattle.sketch.specs.declared.Sketch.{Sketch}
use Rattle.sketch.specs.contracts.Sketch as S
use Rattle.sketch.specs.Drawing.{view}
use Rattle.sketch.specs.Valid.{sketch_fault}
use Rattle.image.specs.Image.{image_fault, drawing_of}
use Rattle.sketch_image.specs.SketchImage.{ImageWritten}
use Rattle.sketch_image.proofs.Written.{SizeIs}
use Rattle.sketch_image.proofs.Typed.{sketch_stored, sketch_size}
use Rattle.sketch_image.proofs.ReadBack.{valid, front_long, front_read}
use Rattle.refusal.proofs.Numbers.{number_above_0}
use Rattle.probe.proofs.UnmetAnswers.{answered_refused, answered_image}
use Rattle.probe.proofs.verdicts.unmet.Goals as goal

-- the image at the buffer's front gives the sketch again
record Held (s : Sketch) (now : List ℕ) (size : ℕ) : Type 0 where
  ok : sketch_fault s ≡ 0
  long : size ≡ length (take size now)
  again : (image_fault (take size now) ≡ 0) × (drawing_of (take size now) ≡ view s)

held : (s : Sketch) (u : List Val) → shadow ((S.the_row).own_val s u) → {before now : List ℕ} {n : ℕ} → ImageWritten s before now n → n ≡ 0 → (size : ℕ) → SizeIs s size → Held s now size
held s u t w z size is =
    let ok = valid s _ _ w z in
    let stored = sketch_stored s u t ok in
    let size_is = sketch_size s u t ok is in
    record { ok = ok; long = front_long s _ _ w z stored size size_is; again = front_read s _ _ w z stored size_is }

pub returns-in_err-write : goal.returns-in_err-write
returns-in_err-write c =
    let p = err_from_is_err_and c.from_residual.result c.from_residual.ensures.1 in
    let z = number_above_0 c.in_err-write.field-0.0 in
    rw (p.1, p.2) (answered_refused _ c.in_err-write.ensures (search rules) (λ e. omega arith))

pub slice_bounds-new-end : goal.slice_bounds-new-end
slice_bounds-new-end c =
    let h = held c.args.sk _ c.well_formed.0 c.in_ok-write.ensures refl c.image_size-size.result c.image_size-size.ensures in
    omega (arith, h.long, length-take c.image_size-size.result c.write.new.buf)

pub returns : goal.returns
returns c =
    let h = held c.args.sk _ c.well_formed.0 c.in_ok-write.ensures refl c.image_size-size.result c.image_size-size.ensures in
    answered_image c.args.sk h.ok c.new.result.image.now (take c.image_size-size.result c.write.new.buf) c.new.ensures.image_is h.again _ c.first_unmet.ensures
