-- What a window holds of the messages that a desk wrote since its start, with numbers from 1 on. Definitions only.
use Rattle.std.specs.Prelude.{ℕ, suc, ◌+◌, ◌-◌, ◌*◌, ◌≤◌, ◌<◌, ◌≡◌, List, [], ◌∷◌, ◌++◌, length, drop, get_or, leb}
use Rattle.big_endian.specs.Fields.{field}
use Rattle.sketch.specs.Lists.{guard_number}
use Rattle.message.specs.Message.{message_size, edit_number_at, edit_number_size, message_fault}
use Rattle.window.specs.Window.{window_messages, window_size, slot, due_bytes, catch_up_fault}

-- messages one after the other
abbrev pub concat : List (List ℕ) → List ℕ
concat [] = []
concat (m ∷ ms) = m ++ concat ms

-- each is read at the mark, and bears the number of its place, from 1
pub record Numbered (mark : ℕ) (ms : List (List ℕ)) : Type 0 where
  pub read : (j : ℕ) → j < length ms → message_fault mark (get_or ms j []) ≡ 0
  pub number : (j : ℕ) → j < length ms → field (get_or ms j []) edit_number_at edit_number_size ≡ suc j

-- the last 64 of them stand in the slots of their numbers
pub record KeepsLast (w : List ℕ) (ms : List (List ℕ)) : Type 0 where
  pub size : length w ≡ window_size
  pub last : (j : ℕ) → j < length ms → length ms ≤ j + window_messages → slot w (suc j) ≡ get_or ms j []

-- what a desk that wrote these messages answers a wall at count k: 27 above its own count, 26 from 65 due on, 25 for a buffer too short for those due
abbrev pub due_fault : List (List ℕ) → ℕ → ℕ → ℕ
due_fault ms k room =
    guard_number (leb k (length ms)) 27
    (guard_number (leb (length ms - k) window_messages) 26
    (guard_number (leb (message_size * (length ms - k)) room) 25 0))

-- so it does by its window, and what it then writes are the messages after the first k, in order
pub record CatchUpOf (mark : ℕ) (w : List ℕ) (ms : List (List ℕ)) : Type 0 where
  pub fault : (k room : ℕ) → catch_up_fault mark w (length ms) k room ≡ due_fault ms k room
  pub due : (k : ℕ) → k ≤ length ms → length ms - k ≤ window_messages → due_bytes w k (length ms - k) ≡ concat (drop k ms)
