-- An edit of an image: one law for each way out.
use Rattle.std.proofs.Common.{◌≡◌, ℕ, ◌+◌, ◌*◌, ◌/◌, ◌%◌, ◌^◌, ◌<◌, Bool, true, false, eqb, leb, ◌⊎◌, List, length, sym, ap, ◌∙◌, subst, ap₂, inl, inr, arith, eq-eqb, ne_eqb}
use Rattle.geom.specs.declared.Vec2.{Vec2}
use Rattle.sketch.specs.declared.Sketch.{Sketch}
use Rattle.sketch.specs.Drawing.{Drawing, view, limits}
use Rattle.sketch.specs.Valid.{sketch_fault}
use Rattle.sketch.proofs.Sketches.{sketch_valid}
use Rattle.image.specs.Image.{image_fault, drawing_of}
use Rattle.image.specs.Encode.{drawing_size}
use Rattle.message.specs.Message.{operation_of, is_operation}
use Rattle.message.specs.declared.Operation.{Operation}
use Rattle.edit_plan.specs.declared.Removed.{Removed}
use Rattle.edit_plan.specs.Edited.{Edited}
use Rattle.edit_plan.specs.Outcome.{Outcome, refused, accepted, guard}
use Rattle.edit_plan.specs.Suited.{outcome_of}
use Rattle.extend.proofs.Places.{Placeless, placeless_below, placeless_above, place_none}
use Rattle.modify.specs.Edits.{edit_of, edit_place, EditAnswer}
use Rattle.modify.proofs.ImageFaults.{image_fault_low}
use Rattle.modify.proofs.Places.{place_within}
use Rattle.probe.specs.Edits.{image_edit_by, number_of, left_in, Wrote, EditMade, outcome_adds, edit_adds, repeated}

-- a place below 65536 fits above the number
pub place_is : (p : ℕ) → p < 65536 → p % 65536 ≡ p
place_is p l = omega arith

-- so does that of a typed edit
place_whole :
    (op : Operation) (sk : Sketch) (t : ℕ) (p : Vec2) → sketch_fault sk ≡ 0 → (r : Edited) → EditAnswer op sk t p r → r.place % 65536 ≡ edit_place op (view sk) t p r.refusal
place_whole op sk t p f r a =
    let h = place_within op (view sk) t p (sketch_valid sk f).1 r.refusal in
    place_is r.place (omega (arith, a.place)) ∙ a.place

-- what is accepted is refused by a buffer that is too short alone
pub wrote_number : (d : Drawing) (gone : Removed) {before later : List ℕ} {n : ℕ} → Wrote (accepted d gone) before later n → (n ≡ 0) ⊎ (n ≡ 25)
unfolding guard number_of
wrote_number d gone {before} {later} {n} w = number_of_lem (leb (12 + drawing_size d) (length before)) w.number
  where
    number_of_lem : (b : Bool) → n ≡ number_of (guard b 25 (accepted d gone)) → (n ≡ 0) ⊎ (n ≡ 25)
    number_of_lem true e = inl e
    number_of_lem false e = inr e

-- ---- no edit

module _ (op : ℕ) (s : List ℕ) (t : ℕ) (p : Vec2) (before : List ℕ) where
  pub image_refused : (r : ℕ) → r < 256 → r ≡ image_fault s → (r ≡ 0 → ⊥) → EditMade op s t p before before r
  unfolding guard number_of left_in
  image_refused r low e n =
      let f : eqb (image_fault s) 0 ≡ false = ne_eqb (image_fault s) 0 (λ z. n (e ∙ z)) in
      let m : r % 65536 ≡ r = omega arith in
      record {
        number = rw f (m ∙ e);
        buffer = rw f;
        place = let h = image_fault_low s in let above : r / 65536 ≡ 0 = omega arith in above ∙ place_none (drawing_of s) _ (placeless_below (omega (arith, h)));
      }

  module _ (i : image_fault s ≡ 0) where
    pub no_operation : is_operation op ≡ false → EditMade op s t p before before 6
    unfolding guard number_of left_in
    no_operation o =
        let f : eqb (image_fault s) 0 ≡ true = eq-eqb (image_fault s) 0 i in
        record {
          number = rw (f, o);
          buffer = rw (f, o);
          place = place_none (drawing_of s) _ (placeless_below (omega arith));
        }

    -- ---- an edit

    module _ (o : is_operation op ≡ true) (sk : Sketch) (v : view sk ≡ drawing_of s) (f : sketch_fault sk ≡ 0) (r : Edited) (a : EditAnswer (operation_of op) sk t p r) where
      outcome_is : image_edit_by op s t p ≡ outcome_of r
      unfolding guard
      outcome_is =
          let g : eqb (image_fault s) 0 ≡ true = eq-eqb (image_fault s) 0 i in
          let h : outcome_of r ≡ edit_of (operation_of op) limits (view sk) t p = a.outcome ∙ rw (eq-eqb (sketch_fault sk) 0 f) in
          rw (g, o) (sym (h ∙ ap (λ d. edit_of (operation_of op) limits d t p) v))

      pub edit_refused : (n : ℕ) → r.refusal < 256 → (r.refusal ≡ 0 → ⊥) → n ≡ r.refusal + r.place % 65536 * 65536 → EditMade op s t p before before n
      unfolding number_of left_in
      edit_refused n low z is =
          let k = r.refusal in
          let number_is : n % 65536 ≡ k = omega arith in
          let place_above : n / 65536 ≡ r.place % 65536 = omega arith in
          let q : image_edit_by op s t p ≡ refused k = outcome_is ∙ rw (ne_eqb k 0 z) in
          record {
            number = rw q number_is;
            buffer = rw q;
            place = place_above ∙ place_whole (operation_of op) sk t p f r a ∙ ap₂ (λ (d : Drawing) (j : ℕ). edit_place (operation_of op) d t p j) v (sym number_is);
          }

      pub edit_written : r.refusal ≡ 0 → (later : List ℕ) (n : ℕ) → Wrote (accepted (view r.sketch) r.removed) before later n → EditMade op s t p before later n
      unfolding guard number_of
      edit_written z later n w =
          let q : image_edit_by op s t p ≡ accepted (view r.sketch) r.removed = outcome_is ∙ rw (eq-eqb r.refusal 0 z) in
          let c = wrote_number (view r.sketch) r.removed w in
          record {
            number = rw q (low c ∙ w.number);
            buffer = rw q w.buffer;
            place = above c ∙ place_none (drawing_of s) _ (placeless c);
          }
        where
          low : (n ≡ 0) ⊎ (n ≡ 25) → n % 65536 ≡ n
          low (inl e) = omega arith
          low (inr e) = omega arith

          above : (n ≡ 0) ⊎ (n ≡ 25) → n / 65536 ≡ 0
          above (inl e) = omega arith
          above (inr e) = omega arith

          placeless : (n ≡ 0) ⊎ (n ≡ 25) → Placeless (n % 65536)
          placeless (inl e) = placeless_below (omega arith)
          placeless (inr e) = placeless_above (omega arith)

-- an operation by another name
pub named : {o o' : Operation} {sk : Sketch} {t : ℕ} {p : Vec2} {r : Edited} → o ≡ o' → EditAnswer o sk t p r → EditAnswer o' sk t p r
named {o} {o'} {sk} {t} {p} {r} e a = subst (λ x. EditAnswer x sk t p r) e a

-- ---- what an edit adds to a sum

module _ (op : Operation) (sk : Sketch) (t : ℕ) (p : Vec2) (f : sketch_fault sk ≡ 0) (r : Edited) (a : EditAnswer op sk t p r) where
  made : outcome_of r ≡ edit_of op limits (view sk) t p
  unfolding guard
  made = a.outcome ∙ rw (eq-eqb (sketch_fault sk) 0 f)

  abbrev adds : Outcome Drawing Removed → ℕ
  adds o = outcome_adds (edit_place op (view sk) t p) o

  pub adds_number : (r.refusal ≡ 0 → ⊥) → {k : ℕ} → k ≡ r.refusal + r.place % 65536 * 65536 → k ≡ edit_adds op (view sk) t p
  unfolding outcome_adds
  adds_number z is =
      let q : outcome_of r ≡ refused r.refusal = rw (ne_eqb r.refusal 0 z) in
      is ∙ ap (λ (j : ℕ). r.refusal + j * 65536) (place_whole op sk t p f r a) ∙ sym (ap adds (sym made ∙ q))

  pub adds_sum : r.refusal ≡ 0 → {n : ℕ} → n ≡ (r.sketch.next + r.removed.curve) % 2 ^ 32 → n ≡ edit_adds op (view sk) t p
  unfolding outcome_adds
  adds_sum z e = let q : outcome_of r ≡ accepted (view r.sketch) r.removed = rw (eq-eqb r.refusal 0 z) in e ∙ sym (ap adds (sym made ∙ q))

-- so many edits of an image's drawing are so many of the drawing that its bytes give
pub adds_read :
    (op : ℕ) (s : List ℕ) (t : ℕ) (p : Vec2) (times : ℕ) {d : Drawing} {o : Operation} {n : ℕ} → d ≡ drawing_of s → o ≡ operation_of op
    → n ≡ repeated times (edit_adds o d t p) → n ≡ repeated times (edit_adds (operation_of op) (drawing_of s) t p)
adds_read op s t p times {d} {o} v e q =
    q ∙ ap (λ x. repeated times (edit_adds x d t p)) e ∙ ap (λ x. repeated times (edit_adds (operation_of op) x t p)) v
