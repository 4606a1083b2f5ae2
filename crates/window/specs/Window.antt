-- The desk's window (the glossary's term): its last 64 messages, byte for byte as written, the message with number n in slot n % 64. Definitions only.
use Rattle.std.specs.Prelude.{ℕ, zero, suc, ◌+◌, ◌*◌, ◌-◌, ◌%◌, ◌≡◌, Bool, true, ◌&&◌, List, [], ◌++◌, length, take, replicate, leb, eqb}
use Rattle.big_endian.specs.Fields.{field, part, over}
use Rattle.sketch.specs.Lists.{ite, guard_number}
use Rattle.message.specs.Message.{message_size, edit_number_at, edit_number_size, message_fault}

abbrev pub window_messages : ℕ
window_messages = 64

abbrev pub window_size : ℕ
window_size = window_messages * message_size

-- a desk that wrote no message yet has a window of zeros
abbrev pub empty_window : List ℕ
empty_window = replicate window_size 0

-- where the message with number n stands, and the bytes there
abbrev pub slot_at : ℕ → ℕ
slot_at n = n % window_messages * message_size

abbrev pub slot : List ℕ → ℕ → List ℕ
slot w n = part w (slot_at n) message_size

-- the window slides by one: message n stands in the slot of message n - 64
abbrev pub slid : List ℕ → ℕ → List ℕ → List ℕ
slid w n m = over w (slot_at n) (take message_size m)

-- ---- catching up: a wall at count k is sent each message after it, up to the desk's count

-- message n, of a start with a mark, is in the window: its slot is read at the mark, and bears that number
abbrev pub is_held : ℕ → List ℕ → ℕ → Bool
is_held mark w n = eqb (message_fault mark (slot w n)) 0 && eqb (field (slot w n) edit_number_at edit_number_size) n

-- the j messages after message k are all in the window
unfoldable pub all_held : ℕ → List ℕ → ℕ → ℕ → Bool
all_held mark w k zero = true
all_held mark w k (suc j) = all_held mark w k j && is_held mark w (k + suc j)

-- the bytes of the j messages after message k, in rising order
unfoldable pub due_bytes : List ℕ → ℕ → ℕ → List ℕ
due_bytes w k zero = []
due_bytes w k (suc j) = due_bytes w k j ++ slot w (k + suc j)

-- 27 where the wall's count k is above the desk's count n; 26 where a message that is due is not in the window; 25 for a buffer too short for those due
abbrev pub catch_up_fault : ℕ → List ℕ → ℕ → ℕ → ℕ → ℕ
catch_up_fault mark w n k room =
    guard_number (leb k n) 27
    (guard_number (leb (n - k) window_messages && all_held mark w k (n - k)) 26
    (guard_number (leb (message_size * (n - k)) room) 25 0))

-- the messages due stand at the buffer's front, the rest as it was; a refusal leaves all of it
pub record CatchesUp (mark : ℕ) (w : List ℕ) (n k : ℕ) (before later : List ℕ) (r : ℕ) : Type 0 where
  pub number : r ≡ catch_up_fault mark w n k (length before)
  pub buffer : later ≡ ite (eqb (catch_up_fault mark w n k (length before)) 0) (over before 0 (due_bytes w k (n - k))) before
