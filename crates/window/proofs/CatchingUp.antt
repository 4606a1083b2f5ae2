-- What is due to a wall: messages that are all held have as many bytes as their sizes, and each way out of a catch-up tells its number.
use mathlib.Core.Path.{◌≡◌, refl, sym, ap, ap₂, ◌∙◌}
use mathlib.Core.Bool.{Bool, true, ◌&&◌, and-true, false, and-false}
use mathlib.Core.List.{List, [], ◌∷◌, ◌++◌}
use Prim.Native.Nat.{ℕ, zero, suc, ◌+◌, ◌*◌, ◌≤◌, ◌<◌, ◌-◌}
use native.Mathlib.Numerals.{add-one}
use native.Mathlib.Omega.{arith}
use lib.ListN.{length, length-append}
use Rattle.std.specs.List.{list_all, range_with_len}
use Rattle.std.proofs.lemmas.List.Folds.{list_all-append}
use Rattle.big_endian.specs.Fields.{over, over_if_fits}
use Rattle.big_endian.specs.Laws.{Run, over_nil, over_fits, length_over, run_over}
use Rattle.sketch.proofs.Bools.{and_left, and_right, at_most_or_above, both}
use Rattle.message.specs.Message.{message_size}
use Rattle.window.specs.Window.{slot, is_held, all_held, due_bytes, window_messages, catch_up_fault, CatchesUp}
use Rattle.window.proofs.Slides.{length_slot}
use Rattle.window.proofs.IsHeld.{length_held}
use Rattle.sketch.specs.Lists.{guard_number}
use borrow.Author.Tests.{le-leb, lt-leb, ne_eqb}

last_of_range : (a n : ℕ) → range_with_len a (suc n) ≡ range_with_len a n ++ ((a + n) ∷ [])
last_of_range a zero = let e : a + 0 ≡ a = omega arith in rw e
last_of_range a (suc n) = let e : a + 1 + n ≡ a + suc n = omega arith in ap (λ (l : List ℕ). a ∷ l) (last_of_range (a + 1) n ∙ rw e)

module _ (mark : ℕ) (w : List ℕ) (k : ℕ) where
  -- ---- all that are due are held

  pub all_held_none : all_held mark w k 0 ≡ true
  unfolding all_held
  all_held_none = refl

  pub all_held_more : (i : ℕ) → all_held mark w k i ≡ true → is_held mark w (k + (i + 1)) ≡ true → all_held mark w k (i + 1) ≡ true
  unfolding all_held
  all_held_more i h e = rw add-one (both (all_held mark w k i) (is_held mark w (k + suc i)) h (rw add-one at e))

  pub all_held_missing : (i n : ℕ) → i < n → is_held mark w (k + (i + 1)) ≡ false → all_held mark w k n ≡ false
  unfolding all_held
  all_held_missing i zero q e = absurd (omega arith)
  all_held_missing i (suc n) q e =
      at_most_or_above (suc i) n (λ p. rw (all_held_missing i n (omega arith) e))
      (λ p. let z : k + suc n ≡ k + (i + 1) = omega arith in rw (z, e) (and-false (all_held mark w k n)))

  -- as a chain of iterators asks for each
  pub each_held : (n : ℕ) → list_all (λ i. is_held mark w (k + (i + 1))) (range_with_len 0 n) ≡ all_held mark w k n
  unfolding all_held
  each_held zero = refl
  each_held (suc n) =
      let f : ℕ → Bool = λ i. is_held mark w (k + (i + 1)) in
      let e : k + (0 + n + 1) ≡ k + suc n = omega arith in
      ap (list_all f) (last_of_range 0 n) ∙ list_all-append f (range_with_len 0 n) ((0 + n) ∷ [])
      ∙ ap₂ ◌&&◌ (each_held n) (and-true (f (0 + n)) ∙ ap (is_held mark w) e)

  -- messages that are held are whole
  pub length_due : (n : ℕ) → all_held mark w k n ≡ true → length (due_bytes w k n) ≡ message_size * n
  unfolding all_held due_bytes
  length_due zero h = refl
  length_due (suc n) h =
      let a = length_due n (and_left (all_held mark w k n) (is_held mark w (k + suc n)) h) in
      let b = length_held mark w (k + suc n) (and_right (all_held mark w k n) (is_held mark w (k + suc n)) h) in
      length-append (due_bytes w k n) (slot w (k + suc n)) ∙ omega arith

-- ---- the slots due, copied one after the other

module _ (w : List ℕ) (k : ℕ) where
  length_due_most : (n : ℕ) → length (due_bytes w k n) ≤ message_size * n
  unfolding due_bytes
  length_due_most zero = omega arith
  length_due_most (suc n) =
      let a = length_due_most n in
      let b = length_slot w (k + suc n) in
      rw length-append (omega arith)

  -- where the slots have all their bytes, so have the first of them
  due_whole : (i n : ℕ) → i ≤ n → length (due_bytes w k n) ≡ message_size * n → length (due_bytes w k i) ≡ message_size * i
  unfolding due_bytes
  due_whole i zero q h = let e : i ≡ 0 = omega arith in rw e h
  due_whole i (suc n) q h =
      let a = length_due_most n in
      let b = length_slot w (k + suc n) in
      let c = rw length-append at h in
      at_most_or_above i n (λ p. due_whole i n p (omega arith)) (λ p. let e : i ≡ suc n = omega arith in rw e h)

  -- i slots were copied to the front of a buffer
  pub record DueCopied (before : List ℕ) (i : ℕ) (now : List ℕ) : Type 0 where
    pub copied : Run before 0 (message_size * i) (due_bytes w k i) now
    pub long : length now ≡ length before

  pub due_none : (before : List ℕ) → DueCopied before 0 before
  unfolding due_bytes
  due_none before = record { copied = record { is = sym (over_nil before 0); long = refl }; long = refl }

  pub due_more :
      (n : ℕ) (before : List ℕ) → length (due_bytes w k n) ≡ message_size * n → message_size * n ≤ length before
      → (i : ℕ) {now run then : List ℕ} → i < n → DueCopied before i now → run ≡ slot w (k + (i + 1)) → then ≡ over_if_fits now (i * message_size) run
      → DueCopied before (i + 1) then
  unfolding due_bytes
  due_more n before h room i {now} {run} {then} q d e f =
      let u : run ≡ slot w (k + suc i) = rw add-one at e in
      let a = rw length-append at (due_whole (suc i) n (omega arith) h) in
      let l : length run ≡ message_size = ap length u ∙ omega (arith, d.copied.long) in
      let z : i * message_size ≡ 0 + message_size * i = omega arith in
      let s : message_size * i + message_size ≡ message_size * suc i = omega arith in
      let g : then ≡ over now (0 + message_size * i) run = f ∙ rw z (over_fits now (0 + message_size * i) run (omega (arith, d.long))) in
      let r = run_over before 0 (message_size * i) message_size (due_bytes w k i) run now then (omega arith) l d.copied g in
      let t : length then ≡ length before = ap length r.is ∙ length_over before 0 (due_bytes w k i ++ run) (omega (arith, r.long)) in
      rw add-one (record { copied = rw (← s, ← u) r; long = t })

-- ---- the ways out of a catch-up

module _ (mark : ℕ) (w : List ℕ) (n k : ℕ) (before : List ℕ) where
  refused_by_lem : (r : ℕ) → catch_up_fault mark w n k (length before) ≡ suc r → CatchesUp mark w n k before before (suc r)
  refused_by_lem r e = record { number = sym e; buffer = rw (e, ne_eqb (suc r) 0 (λ z. omega arith)) }

  pub catch_up_above : n < k → CatchesUp mark w n k before before 27
  unfolding guard_number
  catch_up_above h = refused_by_lem 26 (rw (lt-leb k n h))

  module _ (below : k ≤ n) where
    pub catch_up_too_many : window_messages < n - k → CatchesUp mark w n k before before 26
    unfolding guard_number
    catch_up_too_many h = refused_by_lem 25 (rw (le-leb k n below, lt-leb (n - k) window_messages h))

    module _ (few : n - k ≤ window_messages) where
      pub catch_up_missing : all_held mark w k (n - k) ≡ false → CatchesUp mark w n k before before 26
      unfolding guard_number
      catch_up_missing h = refused_by_lem 25 (rw (le-leb k n below, le-leb (n - k) window_messages few, h))

      module _ (held : all_held mark w k (n - k) ≡ true) where
        pub catch_up_short : length before < message_size * (n - k) → CatchesUp mark w n k before before 25
        unfolding guard_number
        catch_up_short h = refused_by_lem 24 (rw (le-leb k n below, le-leb (n - k) window_messages few, held, lt-leb (message_size * (n - k)) (length before) h))

        pub catch_up_written :
            {later : List ℕ} → message_size * (n - k) ≤ length before → later ≡ over before 0 (due_bytes w k (n - k))
            → CatchesUp mark w n k before later 0
        unfolding guard_number
        catch_up_written h e =
            let f : catch_up_fault mark w n k (length before) ≡ 0 =
            rw (le-leb k n below, le-leb (n - k) window_messages few, held, le-leb (message_size * (n - k)) (length before) h) in
            record { number = sym f; buffer = e ∙ rw f }
