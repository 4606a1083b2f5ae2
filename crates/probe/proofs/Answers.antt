-- The entry points' answers, one law for each way out.
use Rattle.std.proofs.Common.{◌≡◌, ℕ, ◌≤◌, false, eqb, List, length, sym, refl, ap, ◌∙◌, ne_eqb, le-leb}
use Rattle.big_endian.specs.Laws.{Bytes}
use Rattle.sketch.specs.Lists.{guard_number}
use Rattle.sketch.specs.Drawing.{view}
use Rattle.sketch.specs.Valid.{sketch_fault}
use Rattle.sketch.specs.declared.Sketch.{Sketch}
use Rattle.image.specs.Image.{image_fault, drawing_of}
use Rattle.sketch_image.specs.SketchImage.{ImageRead, ReadAnswer}
use Rattle.image.specs.Encode.{encode, drawing_size}
use Rattle.sketch_image.specs.SketchImage.{ImageWritten}
use Rattle.image.proofs.RoundTrips.{image_kept, encode_back, size_back}
use Rattle.sketch_image.proofs.Answers.{read_number, read_drawing}
use Rattle.message.specs.declared.Message.{Message}
use Rattle.refusal.specs.Refusals.{Accepted}
use Rattle.message.specs.Message as M
use Rattle.message.specs.Message.{message_fault, message_of}
use Rattle.message.proofs.MessageRoundTrips as T
use Rattle.message.proofs.MessageRoundTrips.{result_accepted, message_kept}
use Rattle.probe.specs.Probe.{Copied}

-- bytes that are refused are not copied
pub not_copied : (fault : ℕ) (bytes before : List ℕ) (r : ℕ) → r ≡ fault → (r ≡ 0 → ⊥) → Copied fault bytes before before r
unfolding guard_number
not_copied fault bytes before r e n =
    let t : eqb fault 0 ≡ false = ne_eqb fault 0 (λ z. n (e ∙ z)) in
    record { number = rw t e; buffer = rw (t, t) }

-- what was read and written again is the same bytes
pub image_copied : (s before later : List ℕ) (sk : Sketch) (n : ℕ) → Bytes s → ReadAnswer s (record { sketch = sk; refusal = 0 }) → ImageWritten sk before later n → Copied (image_fault s) s before later n
unfolding guard_number
image_copied s before later sk n b a w =
    let r : ImageRead = record { sketch = sk; refusal = 0 } in
    let i : image_fault s ≡ 0 = sym (read_number r s a.result_is) in
    let v : view sk ≡ drawing_of s = read_drawing r s a.result_is refl in
    let f : sketch_fault sk ≡ 0 = a.sound in
    let k = image_kept s i in
    let l : drawing_size (view sk) ≡ length s = ap drawing_size v ∙ size_back s k in
    let c : encode (view sk) ≡ s = ap encode v ∙ encode_back s b k in
    record { number = w.number ∙ rw (f, i, l); buffer = w.buffer ∙ rw (f, i, l, c) }

pub message_copied : (mark : ℕ) (s before later : List ℕ) (m : Message) (n : ℕ) → Bytes s → M.parse mark s ≡ Accepted m → M.MessageWritten mark m before later n → Copied (message_fault mark s) s before later n
unfolding guard_number
message_copied mark s before later m n b e w =
    let v = result_accepted (message_fault mark s) (message_of s) m e in
    let k = message_kept mark s v.0 in
    let g : 1 ≤ m.number = rw (← v.1) k.numbered in
    let c : M.encode mark m ≡ s = rw (← v.1) (T.encode_back mark s b k) in
    record { number = w.number ∙ rw (le-leb 1 m.number g, v.0, k.long); buffer = w.buffer ∙ rw (le-leb 1 m.number g, v.0, k.long, c) }
