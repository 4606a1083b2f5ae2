-- The ways out of a start, and what a memory is ready for at its start. Assumes nothing.
use mathlib.Core.Path.{◌≡◌, refl, sym, ap, ap₂, ◌∙◌, subst}
use mathlib.Core.Bool.{Bool, true, false}
use mathlib.Core.List.{List}
use Prim.Native.Nat.{ℕ, zero, suc, ◌+◌, ◌≤◌, ◌<◌}
use native.Mathlib.Omega.{arith}
use lib.ListN.{length, take}
use lib.Dec.{eqb, leb}
use lib.Seq.{take_at}
use borrow.Author.Tests.{le-leb, lt-leb, leb-true, ne_eqb}
use Rattle.std.specs.Prelude.{Ok, Err}
use Rattle.refusal.specs.declared.Refusal.{Refusal}
use Rattle.refusal.specs.declared.Refusal.TheVariants.{ShortBuffer}
use Rattle.refusal.specs.Refusals as R
use Rattle.big_endian.specs.Fields.{over, over_if_fits}
use Rattle.big_endian.specs.Laws.{Bytes, over_fits, length_over}
use Rattle.sketch.specs.Lists.{guard_number}
use Rattle.sketch.specs.Drawing.{Drawing, limits}
use Rattle.sketch.specs.Facts.{Valid}
use Rattle.sketch.proofs.Facts.{fault_valid}
use Rattle.image.specs.Image as I
use Rattle.image.proofs.RoundTrips.{image_kept, valid}
use Rattle.sketch_image.specs.SketchImage.{drawing_in}
use Rattle.replication.specs.declared.Replica.{Replica}
use Rattle.replication.specs.Transitions.{Memory, memory, image_in, StartsWith, Started, started_of, first_nonzero, start_fault, Starts}
use Rattle.replication.proofs.CallOutcomes.{nonzero}
use Rattle.replication.proofs.Steps.{Holding, ready_by}

-- a good image is no larger than the largest
pub good_size : (s : List ℕ) → I.image_fault s ≡ 0 → length s ≤ I.max_image_size
good_size s z = let h = (image_kept s z).head in omega (arith, h.size, h.few_points, h.few_curves, h.few_relations)

-- the image's own number, or else another
pub nonzero_first : (n m : ℕ) → first_nonzero n m ≡ guard_number (eqb n 0) n m
unfolding guard_number
nonzero_first zero m = refl
nonzero_first (suc n) m = sym (rw (ne_eqb (suc n) 0 (λ z. omega arith)))

pub nonzero_second : (n m : ℕ) → n ≡ 0 → first_nonzero n m ≡ m
nonzero_second zero m h = refl
nonzero_second (suc n) m h = absurd (omega arith)

pub above_first : (n m : ℕ) → (m ≡ 0 → ⊥) → first_nonzero n m ≡ 0 → ⊥
above_first zero m h e = h e
above_first (suc n) m h e = omega arith

pub nonzero_own : (n m : ℕ) → (n ≡ 0 → ⊥) → n ≡ first_nonzero n m
nonzero_own zero m h = absurd (h refl)
nonzero_own (suc n) m h = refl

module _ (image : List ℕ) (mark count : ℕ) (b : List ℕ) where
  refusing : (x : Refusal) → R.number x ≡ start_fault image (length b) → Starts image mark count b b (started_of (Err x))
  refusing x e = record { number = e; when_refused = λ y. (refl, refl); when_started = λ y. absurd (nonzero x y) }

  pub start_refused : (x : Refusal) → R.number x ≡ I.image_fault image → Starts image mark count b b (started_of (Err x))
  start_refused x e = refusing x (e ∙ nonzero_own (I.image_fault image) _ (λ z. nonzero x (e ∙ z)))

  module _ (good : 0 ≡ I.image_fault image) where
    pub start_short : length b < I.max_image_size → Starts image mark count b b (started_of (Err ShortBuffer))
    unfolding guard_number
    start_short h = refusing ShortBuffer (sym (nonzero_second (I.image_fault image) _ (sym good) ∙ rw (lt-leb I.max_image_size (length b) h)))

    pub start_done : I.max_image_size ≤ length b → {b' : List ℕ} → b' ≡ over_if_fits b 0 image → Starts image mark count b b' (started_of (Ok (record { size = length image; mark = mark; count = count })))
    unfolding guard_number
    start_done room p =
        let l = good_size image (sym good) in
        record {
          number = sym (nonzero_second (I.image_fault image) _ (sym good) ∙ rw (le-leb I.max_image_size (length b) room));
          when_refused = λ y. absurd (y refl);
          when_started = λ y. (p ∙ over_fits b 0 image (omega arith), refl);
        }

-- ---- a start that is not refused

module _ (image : List ℕ) (mark count : ℕ) (b b' : List ℕ) (r : Started) (w : Starts image mark count b b' r) (z : r.refusal ≡ 0) where
  pub start_image : I.image_fault image ≡ 0
  start_image = go (I.image_fault image) (guard_number (leb I.max_image_size (length b)) 25 0) (sym w.number ∙ z)
    where
      go : (n m : ℕ) → first_nonzero n m ≡ 0 → n ≡ 0
      go zero m e = refl
      go (suc n) m e = e

  start_room : I.max_image_size ≤ length b
  unfolding guard_number
  start_room = go (leb I.max_image_size (length b)) refl (sym (nonzero_second (I.image_fault image) _ start_image) ∙ sym w.number ∙ z)
    where
      go : (t : Bool) → leb I.max_image_size (length b) ≡ t → guard_number t 25 0 ≡ 0 → I.max_image_size ≤ length b
      go true h e = leb-true I.max_image_size (length b) h
      go false h e = absurd (omega arith)

  pub starts_with : StartsWith image mark count (memory r.replica b')
  unfolding over
  starts_with =
      let (put, is) = w.when_started z in
      let l = good_size image start_image in
      let fits : 0 + length image ≤ length b = omega (arith, start_room) in
      record {
        image_is = ap₂ (λ (n : ℕ) (t : List ℕ). take n t) (ap (λ (s : Replica). s.size) is) put ∙ take_at image _ (length image) refl;
        room = subst (λ (n : ℕ). I.max_image_size ≤ n) (sym (ap length put ∙ length_over b 0 image fits)) start_room;
        mark_is = ap (λ (s : Replica). s.mark) is;
        count_is = ap (λ (s : Replica). s.count) is;
      }

-- of a valid drawing's image
pub held_valid : (image : List ℕ) (mark count : ℕ) (d : Drawing) → Valid limits d → I.parse image ≡ I.accepted d → (m : Memory) → StartsWith image mark count m → Holding mark m (record { drawing = d; count = count })
held_valid image mark count d v e m h =
    let is : I.parse (image_in m) ≡ I.accepted d = ap I.parse h.image_is ∙ e in
    record { ready = ready_by m d is v h.room; mark_is = h.mark_is; state = λ i. record { drawing = ap drawing_in is i; count = h.count_is i } }

pub held_at_start :
    (image : List ℕ) → Bytes image → (mark count : ℕ) (start : Drawing) → I.parse image ≡ I.accepted start → (m : Memory) → StartsWith image mark count m
    → Holding mark m (record { drawing = start; count = count })
held_at_start image b mark count start e = held_valid image mark count start (fault_valid limits start (valid image start b e)) e
