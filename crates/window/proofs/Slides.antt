-- A window slides: the message's slot gets its bytes, every other slot stays.
use mathlib.Core.Path.{◌≡◌, refl, sym, ap, ◌∙◌}
use mathlib.Core.List.{List, ◌++◌, append_assoc}
use Prim.Native.Nat.{ℕ, ◌+◌, ◌-◌, ◌%◌, ◌≤◌}
use native.Mathlib.Omega.{arith}
use lib.ListN.{length, take, drop, length-append, length-take, length-drop, take-append-drop}
use lib.Seq.{length-take-le, take_at, drop_at, take-append-le, drop-append-le, drop-append-add, drop-drop}
use Rattle.big_endian.specs.Fields.{part, over, over_if_fits}
use Rattle.big_endian.specs.Laws.{over_fits, length_over}
use Rattle.sketch.proofs.Bools.{at_most_or_above}
use Rattle.message.specs.Message.{message_size}
use Rattle.window.specs.Window.{window_messages, window_size, slot_at, slot, slid}

-- ---- a part of what was written over a list: the run itself, or what lies before or behind it

part_front : (p x : List ℕ) (from n : ℕ) → from + n ≤ length p → part (p ++ x) from n ≡ part p from n
part_front p x from n h =
    let q : from ≤ length p = omega arith in
    rw (drop-append-le from p x q) (take-append-le n (drop from p) x (rw length-drop (omega arith)))

module _ (l : List ℕ) (at : ℕ) (b : List ℕ) (fits : at + length b ≤ length l) where
  front : length (take at l) ≡ at
  front = length-take-le at l (omega arith)

  part_over : part (over l at b) at (length b) ≡ b
  unfolding over
  part_over = rw (drop_at (take at l) (b ++ drop (at + length b) l) at front) (take_at b (drop (at + length b) l) (length b) refl)

  part_before : (from n : ℕ) → from + n ≤ at → part (over l at b) from n ≡ part l from n
  unfolding over
  part_before from n h =
      let f = front in
      part_front (take at l) (b ++ drop (at + length b) l) from n (omega arith)
      ∙ sym (part_front (take at l) (drop at l) from n (omega arith))
      ∙ ap (λ (x : List ℕ). part x from n) (take-append-drop at l)

  part_behind : (from n : ℕ) → at + length b ≤ from → part (over l at b) from n ≡ part l from n
  unfolding over
  part_behind from n h =
      let d = from - (at + length b) in
      let p = take at l ++ b in
      let e : from ≡ length p + d = omega (arith, length-append (take at l) b, front) in
      let f : at + length b + d ≡ from = omega arith in
      let behind = drop (at + length b) l in
      ap (λ (x : List ℕ). part x from n) (sym (append_assoc (take at l) b behind))
      ∙ ap (take n) (ap (λ (k : ℕ). drop k (p ++ behind)) e ∙ drop-append-add p behind d ∙ drop-drop d (at + length b) l ∙ ap (λ (k : ℕ). drop k l) f)

-- ---- slots

-- a slot ends within the window
pub slot_within : (n : ℕ) → slot_at n + message_size ≤ window_size
slot_within n = omega arith

pub length_slot : (w : List ℕ) (n : ℕ) → length (slot w n) ≤ message_size
length_slot w n = rw length-take (omega arith)

-- the bytes that code takes for a slot
pub slot_taken : (w : List ℕ) (n : ℕ) {at : ℕ} {behind s : List ℕ} → at ≡ slot_at n → behind ≡ drop at w → s ≡ take message_size behind → s ≡ slot w n
slot_taken w n e f g = g ∙ rw (f, e)

module _ (w : List ℕ) (n : ℕ) (m : List ℕ) (long : length w ≡ window_size) where
  -- a message, or what there is of one, fits its slot
  fits_slot : slot_at n + length (take message_size m) ≤ length w
  fits_slot = rw length-take (omega (arith, slot_within n))

  pub slid_fits : {at : ℕ} {run : List ℕ} → at ≡ slot_at n → run ≡ take message_size m → over_if_fits w at run ≡ slid w n m
  slid_fits e f = rw (e, f) (over_fits w (slot_at n) (take message_size m) fits_slot)

  pub length_slid : length (slid w n m) ≡ window_size
  length_slid = length_over w (slot_at n) (take message_size m) fits_slot ∙ long

  pub slot_slid : length (take message_size m) ≡ message_size → slot (slid w n m) n ≡ take message_size m
  slot_slid e = ap (part (slid w n m) (slot_at n)) (sym e) ∙ part_over w (slot_at n) (take message_size m) fits_slot

  pub slot_slid_other : (j : ℕ) → (j % window_messages ≡ n % window_messages → ⊥) → slot (slid w n m) j ≡ slot w j
  slot_slid_other j ne =
      let h : length (take message_size m) ≤ message_size = rw length-take (omega arith) in
      at_most_or_above (slot_at j + message_size) (slot_at n)
      (λ q. part_before w (slot_at n) (take message_size m) fits_slot (slot_at j) message_size q)
      (λ q. part_behind w (slot_at n) (take message_size m) fits_slot (slot_at j) message_size (omega arith))
