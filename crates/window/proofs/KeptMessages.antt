-- A window that every message of a desk slid into holds the last of them, and a catch-up of it writes those due.
use mathlib.Core.Path.{◌≡◌, refl, sym, ap, ◌∙◌}
use mathlib.Core.Bool.{Bool, true, false, ◌&&◌}
use mathlib.Core.List.{List, [], ◌∷◌, ◌++◌, append_assoc, append-nil}
use Prim.Native.Nat.{ℕ, zero, suc, ◌+◌, ◌-◌, ◌*◌, ◌≤◌, ◌<◌}
use native.Mathlib.Omega.{arith}
use lib.ListN.{length, take, drop, get_or, length-append, length-drop, length-replicate, get_or-append}
use lib.Seq.{take-suc, take_all, take_at, get_or-drop, get_or-append_seam, drop-append-add}
use lib.Dec.{leb}
use borrow.Author.Tests.{leb-true, lt-leb, eq-eqb}
use Rattle.big_endian.specs.Fields.{field, part, over}
use Rattle.sketch.specs.Lists.{guard_number}
use Rattle.sketch.proofs.Bools.{at_most_or_above}
use Rattle.message.specs.Message.{message_size, edit_number_at, edit_number_size, message_fault}
use Rattle.message.proofs.MessageRoundTrips.{message_kept}
use Rattle.window.specs.Window.{window_messages, window_size, empty_window, slot, slid, all_held, due_bytes, catch_up_fault}
use Rattle.window.specs.KeptMessages.{concat, Numbered, KeepsLast, due_fault, CatchUpOf}
use Rattle.window.proofs.Slides.{length_slid, slot_slid, slot_slid_other}

-- what holds of every message by its place, and of one more, holds of all
more_at :
    (P : ℕ → List ℕ → Type 0) (ms : List (List ℕ)) (m : List ℕ) → ((j : ℕ) → j < length ms → P j (get_or ms j [])) → P (length ms) m
    → (j : ℕ) → j < length (ms ++ (m ∷ [])) → P j (get_or (ms ++ (m ∷ [])) j [])
more_at P ms m h k j q =
    at_most_or_above (suc j) (length ms) (λ p. rw (get_or-append ms (m ∷ []) [] j p) (h j p))
    (λ p. let e : j ≡ length ms = omega (arith, length-append ms (m ∷ [])) in rw (e, get_or-append_seam ms m [] []) k)

-- ---- messages with the numbers of their places

pub numbered_none : (mark : ℕ) → Numbered mark []
numbered_none mark = record { read = λ j q. absurd (omega arith); number = λ j q. absurd (omega arith) }

pub numbered_more :
    (mark : ℕ) (ms : List (List ℕ)) (m : List ℕ) → Numbered mark ms → message_fault mark m ≡ 0 → field m edit_number_at edit_number_size ≡ suc (length ms)
    → Numbered mark (ms ++ (m ∷ []))
numbered_more mark ms m a e f =
    record {
      read = more_at (λ j x. message_fault mark x ≡ 0) ms m a.read e;
      number = more_at (λ j x. field x edit_number_at edit_number_size ≡ suc j) ms m a.number f;
    }

pub numbered_sized : (mark : ℕ) (ms : List (List ℕ)) → Numbered mark ms → (j : ℕ) → j < length ms → length (get_or ms j []) ≡ message_size
numbered_sized mark ms a j q = (message_kept mark (get_or ms j []) (a.read j q)).long

-- ---- the window keeps the last of them

pub keeps_none : KeepsLast empty_window []
keeps_none = record { size = length-replicate {A = ℕ} window_size 0; last = λ j q. absurd (omega arith) }

-- where each message slides into it; of longer bytes that are handed in, their front is the message
pub keeps_slid :
    (w : List ℕ) (ms : List (List ℕ)) (b : List ℕ) → KeepsLast w ms → length (take message_size b) ≡ message_size
    → KeepsLast (slid w (suc (length ms)) b) (ms ++ (take message_size b ∷ []))
keeps_slid w ms b a e =
    let n = suc (length ms) in
    let m = take message_size b in
    let same = more_at (λ j x. n ≤ j + window_messages → slot (slid w n b) (suc j) ≡ x) ms m
    (λ j q r. slot_slid_other w n b a.size (suc j) (λ z. omega arith) ∙ a.last j q (omega arith)) (λ r. slot_slid w n b a.size e) in
    record { size = length_slid w n b a.size; last = λ j q r. same j q (omega (arith, length-append ms (m ∷ []))) }

-- ---- a catch-up of it

concat_more : (ms : List (List ℕ)) (m : List ℕ) → concat (ms ++ (m ∷ [])) ≡ concat ms ++ m
concat_more [] m = append-nil m
concat_more (x ∷ ms) m = ap (λ (l : List ℕ). x ++ l) (concat_more ms m) ∙ sym (append_assoc x (concat ms) m)

module _ (mark : ℕ) (w : List ℕ) (ms : List (List ℕ)) (a : Numbered mark ms) (b : KeepsLast w ms) (k : ℕ) (few : length ms ≤ k + window_messages) where
  slot_due : (i : ℕ) → k + i < length ms → slot w (k + suc i) ≡ get_or ms (k + i) []
  slot_due i q = let e : k + suc i ≡ suc (k + i) = omega arith in rw e (b.last (k + i) q (omega arith))

  all_held_due : (i : ℕ) → k + i ≤ length ms → all_held mark w k i ≡ true
  unfolding all_held
  all_held_due zero q = refl
  all_held_due (suc i) q =
      let h = all_held_due i (omega arith) in
      let e = slot_due i (omega arith) in
      let n : suc (k + i) ≡ k + suc i = omega arith in
      rw (h, e, eq-eqb _ 0 (a.read (k + i) (omega arith)), eq-eqb _ (k + suc i) (a.number (k + i) (omega arith) ∙ n))

  due_bytes_lem : (i : ℕ) → k + i ≤ length ms → due_bytes w k i ≡ concat (take i (drop k ms))
  unfolding due_bytes
  due_bytes_lem zero q = refl
  due_bytes_lem (suc i) q =
      let h : i < length (drop k ms) = rw length-drop (omega arith) in
      let t : take (suc i) (drop k ms) ≡ take i (drop k ms) ++ (get_or ms (k + i) [] ∷ []) = take-suc (drop k ms) i [] h ∙ rw get_or-drop in
      rw (due_bytes_lem i (omega arith), slot_due i (omega arith), t, concat_more (take i (drop k ms)) (get_or ms (k + i) []))

pub catch_up_of : (mark : ℕ) (w : List ℕ) (ms : List (List ℕ)) → Numbered mark ms → KeepsLast w ms → CatchUpOf mark w ms
unfolding guard_number
catch_up_of mark w ms a b = record { fault = fault_is; due = due_is }
  where
    held : (k : ℕ) → k ≤ length ms → (leb (length ms - k) window_messages && all_held mark w k (length ms - k)) ≡ leb (length ms - k) window_messages
    held k q = go (leb (length ms - k) window_messages) refl
      where
        go : (c : Bool) → leb (length ms - k) window_messages ≡ c → (c && all_held mark w k (length ms - k)) ≡ c
        go true e = let h = leb-true (length ms - k) window_messages e in all_held_due mark w ms a b k (omega arith) (length ms - k) (omega arith)
        go false e = refl

    fault_is : (k room : ℕ) → catch_up_fault mark w (length ms) k room ≡ due_fault ms k room
    fault_is k room = at_most_or_above k (length ms) (λ h. rw (held k h)) (λ h. rw (lt-leb k (length ms) h))

    due_is : (k : ℕ) → k ≤ length ms → length ms - k ≤ window_messages → due_bytes w k (length ms - k) ≡ concat (drop k ms)
    due_is k q h =
        due_bytes_lem mark w ms a b k (omega arith) (length ms - k) (omega arith)
        ∙ ap concat (take_all (length ms - k) (drop k ms) (rw length-drop (omega arith)))

-- ---- what it wrote, message by message

concat_part :
    (ms : List (List ℕ)) (behind : List ℕ) (i : ℕ) → ((j : ℕ) → j < length ms → length (get_or ms j []) ≡ message_size) → i < length ms
    → part (concat ms ++ behind) (message_size * i) message_size ≡ get_or ms i []
concat_part [] behind i s q = absurd (omega arith)
concat_part (m ∷ ms) behind zero s q = rw append_assoc (take_at m (concat ms ++ behind) message_size (s 0 (omega arith)))
concat_part (m ∷ ms) behind (suc i) s q =
    let l : length m ≡ message_size = s 0 (omega arith) in
    let e : message_size * suc i ≡ length m + message_size * i = omega arith in
    rw (append_assoc m (concat ms) behind, e, drop-append-add m (concat ms ++ behind) (message_size * i))
    (concat_part ms behind i (λ j h. s (suc j) (omega arith)) (omega arith))

pub due_part :
    (mark : ℕ) (ms : List (List ℕ)) → Numbered mark ms → (b : List ℕ) (k i : ℕ) → i < length ms - k
    → part (over b 0 (concat (drop k ms))) (message_size * i) message_size ≡ get_or ms (k + i) []
unfolding over
due_part mark ms a b k i q =
    let l = length-drop k ms in
    concat_part (drop k ms) _ i (λ j h. rw get_or-drop (numbered_sized mark ms a (k + j) (omega arith))) (omega arith) ∙ get_or-drop k ms i []
