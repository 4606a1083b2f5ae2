-- An edit from image to image: one law for each way out, and what it adds to a sum.
use Rattle.std.proofs.Common.{◌≡◌, ℕ, zero, suc, ◌+◌, ◌-◌, ◌*◌, ◌/◌, ◌%◌, ◌^◌, ◌<◌, ◌≤◌, true, List, ◌++◌, length, take, drop, sym, refl, ap, ◌∙◌, ap₂, arith}
use lib.ListN.{get_or-append}
use Rattle.big_endian.specs.Fields.{field, over}
use Rattle.big_endian.specs.Laws.{Bytes}
use Rattle.geom.specs.declared.Vec2.{Vec2}
use Rattle.sketch.specs.Drawing.{Drawing, limits}
use Rattle.image.specs.Image as I
use Rattle.image.specs.Image.{image_fault, drawing_of, next_at, max_image_size}
use Rattle.image.specs.Encode.{encode}
use Rattle.message.specs.Message.{operation_of, is_operation}
use Rattle.message.specs.declared.Operation.{Operation}
use Rattle.edit_plan.specs.declared.Removed.{Removed}
use Rattle.edit_plan.specs.Outcome.{Outcome, refused, accepted, guard}
use Rattle.extend.specs.Answers.{ImageAnswer}
use Rattle.extend.specs.ImageExtend.{OutcomeWritten}
use Rattle.extend.proofs.Places.{placeless_below, place_none}
use Rattle.extend.proofs.ImageMoves.{image_valid}
use Rattle.modify.specs.Edits.{edit_of, edit_place}
use Rattle.modify.specs.ImageEdits as M
use Rattle.modify.specs.ImageEdits.{EditWritten}
use Rattle.modify.proofs.ImageFaults.{image_fault_low}
use Rattle.modify.proofs.Numbered.{image_edit_numbered}
use Rattle.modify.proofs.WholeOutcomes.{good_edit, whole_outcome}
use Rattle.modify.proofs.Places.{image_place_within}
use Rattle.probe.specs.Edits.{image_edit_by, number_of, left_in, fitting, Wrote, EditMade, with_place, outcome_adds, edit_adds}
use Rattle.probe.specs.EditContracts.{ReportEnd, ReportPut}
use Rattle.probe.proofs.EditsMade.{place_is}
use Rattle.probe.proofs.ReportedImages.{size_made, nothing_written, image_and_report}

pub fault_low : (s : List ℕ) {r : ℕ} → r ≡ image_fault s → r < 256
fault_low s e = omega (arith, image_fault_low s)

-- ---- one edit

module _ (op : ℕ) (s : List ℕ) (t : ℕ) (p : Vec2) (xs : List ℕ) (o : is_operation op ≡ true) (start : ℕ) (end : ReportEnd (length xs) start) {op' : Operation} (named : op' ≡ operation_of op)
    {ys : List ℕ} {r : ImageAnswer} (a : EditWritten op' s t p (take (length xs - start) (drop start xs)) ys r)
  where
    outcome_is : M.edit_image op' s t p ≡ image_edit_by op s t p
    unfolding guard
    outcome_is = ap (λ (x : Operation). M.edit_image x s t p) named ∙ rw o

    made_number : {later : List ℕ} {n : ℕ} → Wrote (M.edit_image op' s t p) xs later n → n ≡ number_of (fitting (length xs) (image_edit_by op s t p))
    made_number {n = n} w = w.number ∙ ap (λ (x : Outcome Drawing Removed). number_of (fitting (length xs) x)) outcome_is

    made_buffer : {later : List ℕ} {n : ℕ} → Wrote (M.edit_image op' s t p) xs later n → later ≡ left_in (fitting (length xs) (image_edit_by op s t p)) xs
    made_buffer w = w.buffer ∙ ap (λ (x : Outcome Drawing Removed). left_in (fitting (length xs) x) xs) outcome_is

    pub edit_refused : Bytes s → r.size ≡ 0 → r.refusal < 256 → {n : ℕ} → n ≡ r.refusal + r.place % 65536 * 65536 → EditMade op s t p xs (take start xs ++ (ys ++ drop (length xs - start) (drop start xs))) n
    edit_refused b z low {n} is =
        let w = nothing_written xs start end ys r (M.edit_image op' s t p) (λ d gone q. (a.sound d gone q).0) a.written z in
        let number_is : n % 65536 ≡ r.refusal = omega arith in
        let place_above : n / 65536 ≡ r.place % 65536 = omega arith in
        record {
          number = number_is ∙ made_number w;
          buffer = made_buffer w;
          place = place_above ∙ place_is r.place (omega (arith, image_place_within op' s t p a b)) ∙ a.place ∙ ap₂ (λ (x : Operation) (k : ℕ). edit_place x (drawing_of s) t p k) named (sym number_is);
        }

    pub edit_written : r.refusal ≡ 0 → {k : List ℕ} → ReportPut r.removed (take start xs ++ (ys ++ drop (length xs - start) (drop start xs))) k → EditMade op s t p xs k 0
    edit_written f {k} put =
        let z = size_made (M.edit_image op' s t p) (image_edit_numbered op' s t p) (λ d gone q. (a.sound d gone q).0) _ r a.written f in
        let w = image_and_report xs start end ys r k put (M.edit_image op' s t p) (λ d gone q. (a.sound d gone q).0) a.written z in
        record {
          number = made_number w;
          buffer = made_buffer w;
          place = place_none (drawing_of s) _ (placeless_below (omega arith));
        }

-- ---- what an edit adds to a sum

-- a number does not hang on what stands behind its bytes
field_front : (l post : List ℕ) (at n : ℕ) → at + n ≤ length l → field (l ++ post) at n ≡ field l at n
unfolding field
field_front l post at zero h = refl
field_front l post at (suc n) h =
    let k : at + n < length l = omega arith in
    rw (field_front l post at n (omega arith), get_or-append l post 0 (at + n) k)

drawing_back : (s : List ℕ) (d : Drawing) → I.parse s ≡ I.accepted d → drawing_of s ≡ d
unfolding I.result_of
drawing_back s d e = go (image_fault s) e
  where
    go : (n : ℕ) → I.result_of n (drawing_of s) ≡ I.accepted d → drawing_of s ≡ d
    go zero h = cc
    go (suc n) h = let z : ◌≡◌ {A = ℕ} 0 1 = cc in absurd (omega arith)

module _ (op : Operation) (s : List ℕ) (t : ℕ) (p : Vec2) {before after : List ℕ} {r : ImageAnswer} (a : EditWritten op s t p before after r) (b : Bytes s) where
  abbrev outcome : Outcome Drawing Removed
  outcome = edit_of op limits (drawing_of s) t p

  module _ (i : image_fault s ≡ 0) (room : max_image_size ≤ length before) where
    made : M.edit_image op s t p ≡ outcome
    made = good_edit op s t p a i (image_valid s i b)

    written : OutcomeWritten outcome before after r
    written = whole_outcome op s t p a i (image_valid s i b) room

  pub adds_number : r.size ≡ 0 → {k : ℕ} → k ≡ r.refusal + r.place % 65536 * 65536 → image_fault s ≡ 0 → max_image_size ≤ length before → k ≡ edit_adds op (drawing_of s) t p
  unfolding outcome_adds
  adds_number z {k} is i room = go outcome refl (written i room)
    where
      placed : r.place % 65536 ≡ edit_place op (drawing_of s) t p r.refusal
      placed = place_is r.place (omega (arith, image_place_within op s t p a b)) ∙ a.place

      go : (o : Outcome Drawing Removed) → outcome ≡ o → OutcomeWritten o before after r → k ≡ outcome_adds (edit_place op (drawing_of s) t p) o
      go (refused n) e w = is ∙ ap (λ (j : ℕ). r.refusal + j * 65536) placed ∙ ap (λ (j : ℕ). with_place j (edit_place op (drawing_of s) t p j)) w.refusal
      go (accepted d gone) e w = absurd (omega (arith, w.size, (a.sound d gone (made i room ∙ e)).0))

  pub adds_sum : r.refusal ≡ 0 → {next n : ℕ} → next ≡ next_at after → n ≡ (next + r.removed.curve) % 2 ^ 32 → image_fault s ≡ 0 → max_image_size ≤ length before → n ≡ edit_adds op (drawing_of s) t p
  unfolding outcome_adds over
  adds_sum y {next} {n} f g i room = go outcome refl (written i room)
    where
      z : r.size ≡ 0 → ⊥
      z = size_made (M.edit_image op s t p) (image_edit_numbered op s t p) (λ d gone q. (a.sound d gone q).0) _ r a.written y

      go : (o : Outcome Drawing Removed) → outcome ≡ o → OutcomeWritten o before after r → n ≡ outcome_adds (edit_place op (drawing_of s) t p) o
      go (refused m) e w = absurd (z w.size)
      go (accepted d gone) e w =
          let (l, q2) = a.sound d gone (made i room ∙ e) in
          let back : next_at (encode d) ≡ d.next = ap (λ (x : Drawing). x.next) (drawing_back (encode d) d q2) in
          let front : next_at after ≡ next_at (encode d) = ap next_at w.bytes ∙ field_front (encode d) (drop (0 + length (encode d)) before) 5 4 (omega arith) in
          g ∙ rw (f, front, back, w.removed)
