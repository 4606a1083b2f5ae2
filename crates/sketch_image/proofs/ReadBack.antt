-- A sketch written and read again: the two ways out. Assumes that the sketch is of the code's own type.
use mathlib.Core.Path.{◌≡◌, refl, sym, ap, ◌∙◌, subst}
use mathlib.Core.Bool.{Bool, true, false}
use mathlib.Core.List.{List}
use Prim.Native.Nat.{ℕ}
use lib.ListN.{length, take}
use lib.Dec.{leb, eqb}
use lib.Seq.{take_at}
use borrow.Author.Tests.{eqb-true}
use Rattle.big_endian.specs.Fields.{over}
use Rattle.sketch.specs.Lists.{guard_number}
use Rattle.sketch.specs.Drawing.{view, limits}
use Rattle.sketch.specs.Valid.{sketch_fault}
use Rattle.sketch.specs.declared.Sketch.{Sketch}
use Rattle.sketch.proofs.Facts.{valid_fault}
use Rattle.sketch.proofs.Sketches.{sketch_valid}
use Rattle.image.specs.Image.{refused, accepted, image_fault, drawing_of, result_of, parse}
use Rattle.image.specs.Encode.{drawing_size, encode}
use Rattle.image.specs.Stored.{Stored}
use native.Mathlib.Omega.{arith}
use Rattle.std.specs.Prelude.{Err}
use Rattle.refusal.specs.declared.Refusal.{Refusal}
use Rattle.refusal.specs.Refusals.{number}
use Rattle.refusal.proofs.Numbers.{number_above_0}
use Rattle.sketch_image.specs.SketchImage.{ImageRead, read_of, outcome, drawing_in, ReadAnswer, write_fault, ImageWritten}
use Rattle.sketch_image.specs.RoundTrip.{ReadBack}
use Rattle.image.proofs.RoundTrips.{length_encode, parse_encode, result_refused, result_accepted}

-- a valid sketch is read again from the bytes that it is written as
pub parse_again : (s : Sketch) → sketch_fault s ≡ 0 → Stored (view s) → parse (encode (view s)) ≡ accepted (view s)
unfolding result_of
parse_again s e w = parse_encode (view s) w ∙ ap (λ (n : ℕ). result_of n (view s)) (valid_fault limits (view s) (sketch_valid s e).1)

-- a write that is accepted: what it tested
written_fault : (a : ℕ) (r : Bool) → guard_number (eqb a 0) a (guard_number r 25 0) ≡ 0 → a ≡ 0
unfolding guard_number
written_fault a r h = go (eqb a 0) refl h
  where
    go : (b : Bool) → eqb a 0 ≡ b → guard_number b a (guard_number r 25 0) ≡ 0 → a ≡ 0
    go true e h = eqb-true a 0 e
    go false e h = h

module _ (s : Sketch) (before now : List ℕ) {n : ℕ} (w : ImageWritten s before now n) where
  pub back_refused : (r : Refusal) → n ≡ number r → ReadBack s before now (read_of (Err r))
  unfolding result_of
  back_refused r e =
      let above = number_above_0 r in
      let o : result_of (write_fault s (length before)) (view s) ≡ refused (number r) = ap (λ (k : ℕ). result_of k (view s)) (sym w.number ∙ e) ∙ result_refused (number r) (view s) (λ z. omega arith) in
      record {
        same = result_refused (number r) (view (read_of (Err r)).sketch) (λ z. omega arith) ∙ sym o;
        drawing_is = sym (ap drawing_in o);
        written = subst (ImageWritten s before now) e w;
      }

  module _ (z : n ≡ 0) where
    none : write_fault s (length before) ≡ 0
    none = sym w.number ∙ z

    pub valid : sketch_fault s ≡ 0
    valid = written_fault (sketch_fault s) (leb (drawing_size (view s)) (length before)) none

    module _ (h : Stored (view s)) where
      front : take (drawing_size (view s)) now ≡ encode (view s)
      unfolding over
      front =
          let is : now ≡ over before 0 (encode (view s)) = w.buffer ∙ rw none in
          ap (take (drawing_size (view s))) is ∙ take_at (encode (view s)) _ (drawing_size (view s)) (length_encode (view s) h)

      pub front_long : (size : ℕ) → size ≡ drawing_size (view s) → size ≡ length (take size now)
      front_long size e = e ∙ sym (ap (λ (k : ℕ). length (take k now)) e ∙ ap length front ∙ length_encode (view s) h)

      -- it is a good image, of the sketch's own drawing
      pub front_read : {size : ℕ} → size ≡ drawing_size (view s) → (image_fault (take size now) ≡ 0) × (drawing_of (take size now) ≡ view s)
      front_read {size} e = result_accepted (image_fault (take size now)) (drawing_of (take size now)) (view s) (ap (λ (k : ℕ). parse (take k now)) e ∙ ap parse front ∙ parse_again s valid h)

      pub back_same : (size : ℕ) → size ≡ drawing_size (view s) → (r : ImageRead) → ReadAnswer (take size now) r → ReadBack s before now r
      unfolding result_of
      back_same size e r a =
          let o : outcome r ≡ accepted (view s) = a.result_is ∙ ap parse (ap (λ (k : ℕ). take k now) e ∙ front) ∙ parse_again s valid h in
          let t = result_accepted r.refusal (view r.sketch) (view s) o in
          record {
            same = o ∙ ap (λ (k : ℕ). result_of k (view s)) (sym none);
            drawing_is = t.1 ∙ sym (ap (λ (k : ℕ). drawing_in (result_of k (view s))) none);
            written = subst (ImageWritten s before now) (z ∙ sym t.0) w;
          }
