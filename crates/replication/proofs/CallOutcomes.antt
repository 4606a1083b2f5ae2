-- The outcome of a call on an image, refused before the edit or by it or with a new image, for desk and wall alike. Assumes nothing.
use mathlib.Core.Path.{◌≡◌, refl, sym, ap, ◌∙◌, subst}
use mathlib.Core.Bool.{Bool, true, false}
use mathlib.Core.List.{List}
use Prim.Native.Nat.{ℕ, zero, suc, ◌≤◌}
use native.Mathlib.Omega.{arith}
use lib.ListN.{length}
use lib.Dec.{leb, eqb}
use borrow.Author.Tests.{eq-eqb, ne_eqb}
use Rattle.refusal.specs.declared.Refusal.{Refusal}
use Rattle.refusal.specs.declared.Refusal.TheVariants.{RelationsUnmet, RelationsBroken}
use Rattle.refusal.specs.Refusals as R
use Rattle.refusal.proofs.Numbers.{number_above_0}
use Rattle.big_endian.specs.Fields.{over}
use Rattle.sketch.specs.Lists.{ite, guard_number}
use Rattle.sketch.specs.Drawing.{Drawing, limits}
use Rattle.image.specs.Image as I
use Rattle.image.specs.Encode.{encode, drawing_size}
use Rattle.edit_plan.specs.declared.Removed.{Removed}
use Rattle.edit_plan.specs.Outcome as O
use Rattle.edit_plan.specs.Outcome.{guard}
use Rattle.extend.specs.Answers.{ImageAnswer}
use Rattle.extend.specs.ImageExtend.{if_fits, OutcomeWritten}
use Rattle.extend.proofs.Places.{Placeless, placeless_below, placeless_above, place_none}
use Rattle.modify.specs.Edits.{edit_of}
use Rattle.modify.specs.ImageEdits.{edit_image, EditWritten}
use Rattle.modify.proofs.ImageFaults.{image_fault_low}
use Rattle.modify.proofs.Numbered.{image_edit_numbered}
use Rattle.agreement.specs.Machines.{State}
use Rattle.replication.specs.Protocol.{Edit, place}
use Rattle.replication.specs.Outcomes.{CallOutcome, refused, updated, if_image_fits, on_image}
use Rattle.replication.specs.Transitions.{first_fault}

-- ---- refusals and their numbers

pub nonzero : (x : Refusal) → R.number x ≡ 0 → ⊥
nonzero x z = omega (arith, number_above_0 x)

-- all but two come with no place
pub placeless : (x : Refusal) → Placeless (R.number x) → R.place x ≡ 0
placeless (RelationsUnmet k) h = absurd (h.not_13 refl)
placeless (RelationsBroken k) h = absurd (h.not_19 refl)
placeless r h = refl

-- ---- the image's own number first

module _ (s : List ℕ) {n : ℕ} (k : ℕ) where
  pub first_own : n ≡ I.image_fault s → (n ≡ 0 → ⊥) → n ≡ first_fault s k
  unfolding guard_number
  first_own e h = e ∙ sym (rw (ne_eqb (I.image_fault s) 0 (λ z. h (e ∙ z))))

  pub first_given : n ≡ I.image_fault s → n ≡ 0 → k ≡ first_fault s k
  unfolding guard_number
  first_given e h = sym (rw (eq-eqb (I.image_fault s) 0 (sym e ∙ h)))

-- of an image that is read elsewhere
pub first_of : (s : List ℕ) {image : List ℕ} (k : ℕ) {n : ℕ} → image ≡ s → n ≡ first_fault image k → n ≡ first_fault s k
first_of s k e f = f ∙ ap (λ (t : List ℕ). first_fault t k) e

-- with nothing given it is the image's
pub first_fault_own : (s : List ℕ) {n : ℕ} → n ≡ first_fault s 0 → n ≡ I.image_fault s
unfolding guard_number
first_fault_own s e = e ∙ go (I.image_fault s)
  where
    go : (k : ℕ) → guard_number (eqb k 0) k 0 ≡ k
    go zero = refl
    go (suc k) = rw (ne_eqb (suc k) 0 (λ z. omega arith))

-- an image's own number comes with no place
pub placeless_own : (s : List ℕ) {n : ℕ} → n ≡ I.image_fault s → Placeless n
placeless_own s e = placeless_below (omega (arith, e, image_fault_low s))

pub placeless_first : (s : List ℕ) (k : ℕ) → Placeless k → (x : Refusal) → R.number x ≡ first_fault s k → R.place x ≡ 0
unfolding guard_number
placeless_first s k p x e = placeless x (go (I.image_fault s) (image_fault_low s) e)
  where
    go : (n : ℕ) → n ≤ 5 → {r : ℕ} → r ≡ guard_number (eqb n 0) n k → Placeless r
    go zero h e = subst Placeless (sym e) p
    go (suc n) h {r} e = let q : r ≡ suc n = e ∙ rw (ne_eqb (suc n) 0 (λ z. omega arith)) in placeless_below (omega arith)

-- ---- refusals before the edit's own

above : (n : ℕ) → eqb (suc n) 0 ≡ false
above n = ne_eqb (suc n) 0 (λ z. omega arith)

module _ (s : List ℕ) where
  pub first_some : (k r : ℕ) → (k ≡ 0 → ⊥) → r ≡ first_fault s k → r ≡ 0 → ⊥
  unfolding guard_number
  first_some k r h e = go (I.image_fault s) e
    where
      go : (n : ℕ) → r ≡ guard_number (eqb n 0) n k → r ≡ 0 → ⊥
      go zero e z = h (sym e ∙ z)
      go (suc n) e z = let q : r ≡ suc n = e ∙ rw (above n) in omega arith

  -- an image's refusal comes before all else
  pub on_fault : (count : ℕ) (f : State Drawing → CallOutcome) (r : ℕ) → r ≡ I.image_fault s → (r ≡ 0 → ⊥) → on_image (I.parse s) count f ≡ refused r 0
  unfolding I.result_of
  on_fault count f r e z = go (I.image_fault s) e
    where
      go : (n : ℕ) → r ≡ n → on_image (I.result_of n (I.drawing_of s)) count f ≡ refused r 0
      go zero e = absurd (z e)
      go (suc n) e = ap (λ (k : ℕ). refused k 0) (sym e)

  pub on_first : (count : ℕ) (f : State Drawing → CallOutcome) (k r : ℕ) → r ≡ first_fault s k → f (record { drawing = I.drawing_of s; count = count }) ≡ refused k 0 → on_image (I.parse s) count f ≡ refused r 0
  unfolding I.result_of guard_number
  on_first count f k r e g = go (I.image_fault s) e
    where
      go : (n : ℕ) → r ≡ guard_number (eqb n 0) n k → on_image (I.result_of n (I.drawing_of s)) count f ≡ refused r 0
      go zero e = g ∙ ap (λ (k : ℕ). refused k 0) (sym e)
      go (suc n) e = let q : r ≡ suc n = e ∙ rw (above n) in ap (λ (k : ℕ). refused k 0) (sym q)

-- ---- an edit of the image at a buffer's front

abbrev pub applied : ℕ → ℕ → (ℕ → ℕ) → O.Outcome Drawing Removed → CallOutcome
applied room n place (O.refused k) = refused k (place k)
applied room n place (O.accepted d q) = if_image_fits room (record { drawing = d; count = n }) q

pub on_image_lem :
    (s : List ℕ) (count : ℕ) (f : State Drawing → CallOutcome) (room n : ℕ) (e : Edit)
    → f (record { drawing = I.drawing_of s; count = count }) ≡ applied room n (place (I.drawing_of s) e) (edit_of e.operation limits (I.drawing_of s) e.curve e.at)
    → on_image (I.parse s) count f ≡ applied room n (place (I.drawing_of s) e) (edit_image e.operation s e.curve e.at)
unfolding I.result_of guard
on_image_lem s count f room n e g = go (I.image_fault s) (image_fault_low s)
  where
    go : (k : ℕ) → k ≤ 5 → on_image (I.result_of k (I.drawing_of s)) count f ≡ applied room n (place (I.drawing_of s) e) (guard (eqb k 0) k (edit_of e.operation limits (I.drawing_of s) e.curve e.at))
    go zero h = g
    go (suc k) h = rw (above k) (ap (refused (suc k)) (place_none (I.drawing_of s) _ (placeless_below (omega arith))))

module _ (s : List ℕ) (e : Edit) (b b' : List ℕ) (x : ImageAnswer) (w : EditWritten e.operation s e.curve e.at b b' x) (n : ℕ) (v : CallOutcome) where
  abbrev made : O.Outcome Drawing Removed
  made = edit_image e.operation s e.curve e.at

  -- a new image, with the number n
  pub record Updated : Type 0 where
    pub drawing : Drawing
    pub outcome : v ≡ updated (record { drawing = drawing; count = n }) x.removed
    pub made_is : made ≡ O.accepted drawing x.removed
    pub buffer_is : b' ≡ over b 0 (encode drawing)
    pub size_is : x.size ≡ drawing_size drawing
    pub sound : (length (encode drawing) ≡ drawing_size drawing) × (I.parse (encode drawing) ≡ I.accepted drawing)

  pub record EditOutcome : Type 0 where
    pub when_refused : (x.refusal ≡ 0 → ⊥) → (v ≡ refused x.refusal x.place) × (b' ≡ b)
    pub when_done : x.refusal ≡ 0 → Updated

  -- the place of the answer is that of its number
  placed : (k : ℕ) → x.refusal ≡ k → refused k (place (I.drawing_of s) e k) ≡ refused x.refusal x.place
  placed k h = ap (λ (k : ℕ). refused k (place (I.drawing_of s) e k)) (sym h) ∙ ap (refused x.refusal) (sym w.place)

  by_refusal : (k : ℕ) → made ≡ O.refused k → v ≡ refused k (place (I.drawing_of s) e k) → OutcomeWritten (O.refused k) b b' x → EditOutcome
  by_refusal k f g u =
      record {
        when_refused = λ z. (g ∙ placed k u.refusal, u.bytes);
        when_done = λ z. absurd (image_edit_numbered e.operation s e.curve e.at (f ∙ ap O.refused (sym u.refusal ∙ z)));
      }

  by_room :
      (d : Drawing) (q : Removed) → made ≡ O.accepted d q → (fits : Bool) → v ≡ ite fits (updated (record { drawing = d; count = n }) q) (refused 25 0)
      → OutcomeWritten (guard fits 25 (O.accepted d q)) b b' x → EditOutcome
  unfolding guard
  by_room d q f true g u =
      let sound = w.sound d q f in
      record {
        when_refused = λ z. absurd (z u.refusal);
        when_done = λ z. record {
          drawing = d;
          outcome = g ∙ ap (updated (record { drawing = d; count = n })) (sym u.removed);
          made_is = f ∙ ap (O.accepted d) (sym u.removed);
          buffer_is = u.bytes;
          size_is = u.size ∙ sound.0;
          sound = sound;
        };
      }
  by_room d q f false g u =
      record {
        when_refused = λ z. (g ∙ ap (refused 25) (place_none (I.drawing_of s) _ (placeless_above (omega arith))) ∙ placed 25 u.refusal, u.bytes);
        when_done = λ z. let y = u.refusal in absurd (omega arith);
      }

  pub edit_outcome : v ≡ applied (length b) n (place (I.drawing_of s) e) made → EditOutcome
  edit_outcome g = go made refl g w.written
    where
      go : (o : O.Outcome Drawing Removed) → made ≡ o → v ≡ applied (length b) n (place (I.drawing_of s) e) o → OutcomeWritten (if_fits (length b) o) b b' x → EditOutcome
      go (O.refused k) f g u = by_refusal k f g u
      go (O.accepted d q) f g u =
          by_room d q f (leb (length (encode d)) (length b))
          (g ∙ ap (λ (k : ℕ). ite (leb k (length b)) (updated (record { drawing = d; count = n }) q) (refused 25 0)) (sym (w.sound d q f).0)) u
