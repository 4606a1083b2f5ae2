-- A run of desk and wall, from one image with one mark: the desk's calls in their order, and between them deliveries to the wall, of the desk's messages so far and of other bytes,
-- and starts of the wall from what the desk has then. Definitions only.
use Rattle.std.specs.Prelude.{ℕ, zero, suc, ◌+◌, ◌*◌, ◌-◌, ◌/◌, ◌≡◌, Bool, ◌&&◌, Result, Ok, Err, List, [], ◌∷◌, ◌++◌, map, length, take, drop, get_or, leb, ltb, eqb}
use Rattle.std.specs.Float.Ieee.{of_bits}
use Rattle.std.specs.Float.{binary64}
use Rattle.refusal.specs.declared.Refusal.{Refusal}
use Rattle.refusal.specs.Refusals.{number}
use Rattle.big_endian.specs.Fields.{field, part, over}
use Rattle.sketch.specs.Lists.{ite, guard_number}
use Rattle.sketch.specs.Drawing.{Drawing, id_size}
use Rattle.message.specs.Message.{operation_of, message_size, message_fault}
use Rattle.window.specs.declared.Window.{Window}
use Rattle.window.specs.Window.{empty_window}
use Rattle.window.specs.KeptMessages.{concat, CatchUpOf}
use Rattle.image.specs.Image as I
use Rattle.cuts.specs.Lists.{rows}
use Rattle.edit_plan.specs.declared.Removed.{Removed}
use Rattle.agreement.specs.Machines.{State, initial, Call, Entry, reference_after, accepted_log, DeskStep, calls, desk_after, messages, DeskRun, WallEvent, started, delivered, WallLife, session_at, session_state}
use Rattle.replication_runs.specs.declared.RunResult.{RunResult}
use Rattle.replication.specs.declared.Replica.{Replica}
use Rattle.replication.specs.Protocol.{Edit, protocol}
use Rattle.replication.specs.Transitions.{no_replica, first_nonzero, memory, state_in}
use Rattle.replication.specs.Replication.{ReplicationCorrect}

-- ---- the desk's calls, one after the other: operation, curve id, the pick's bits 8 and 8, the room lent

abbrev pub room_at : ℕ
room_at = 1 + id_size + 8 + 8

abbrev pub call_size : ℕ
call_size = room_at + 1

-- the largest room that a call's byte can hold
abbrev pub max_room : ℕ
max_room = 255

abbrev pub edit_at : List ℕ → ℕ → Edit
edit_at s at =
    record {
      operation = operation_of (field s at 1);
      curve = field s (at + 1) id_size;
      at = record { x = of_bits binary64 (field s (at + (1 + id_size)) 8); y = of_bits binary64 (field s (at + (1 + id_size + 8)) 8) };
    }

abbrev pub call_at : List ℕ → ℕ → Call Edit
call_at s i = record { edit = edit_at s (i * call_size); room = field s (i * call_size + room_at) 1 }

-- a shorter rest is passed over
abbrev pub calls_in : List ℕ → List (Call Edit)
calls_in s = rows (length s / call_size) (call_at s)

-- ---- the order of the run, in numbers: 0 is the desk's next call, where one is left; 1 a start of the wall; any other number, less 2, a delivery

-- how many calls are made, of c, once i were and a number comes
abbrev pub made_by : ℕ → ℕ → ℕ → ℕ
made_by c i zero = ite (ltb i c) (suc i) i
made_by c i (suc o) = i

abbrev pub made_after : ℕ → ℕ → List ℕ → ℕ
made_after c i [] = i
made_after c i (o ∷ os) = made_after c (made_by c i o) os

-- below the count of the desk's messages a delivery is one of these, by its place; from there on of other bytes, by where they begin: their number in two bytes, and then they,
-- as many as there are
abbrev pub other_at : List ℕ → ℕ → List ℕ
other_at others at = part (drop at others) 2 (field (drop at others) 0 2)

-- what a wall with a mark would read is passed over
abbrev pub if_unread : ℕ → List ℕ → List (List ℕ)
if_unread mark m = ite (eqb (message_fault mark m) 0) [] (m ∷ [])

abbrev pub delivery_at : ℕ → List (List ℕ) → List ℕ → ℕ → List (List ℕ)
delivery_at mark ms others o = ite (ltb o (length ms)) (get_or ms o [] ∷ []) (if_unread mark (other_at others (o - length ms)))

-- what the wall is given: a state to start with, or bytes
pub data WallInput : Type 0 where
  starts_with : State Drawing → WallInput
  receives : List ℕ → WallInput

abbrev pub input_of : WallEvent Drawing Removed → WallInput
input_of (started t) = starts_with t
input_of (delivered x) = receives x.bytes

module _ (mark : ℕ) (start : Drawing) (cs : List (Call Edit)) (others : List ℕ) where
  -- after the first i calls the reference machine has this state, and a desk wrote these messages
  abbrev pub state_after_calls : ℕ → State Drawing
  state_after_calls i = reference_after (protocol mark) (initial start) (take i cs)

  abbrev pub messages_after_calls : ℕ → List (List ℕ)
  messages_after_calls i = map (λ (x : Entry Drawing Edit Removed). (protocol mark).encode x.after.count x.edit) (accepted_log (protocol mark) (initial start) (take i cs))

  -- what a number gives the wall once i calls were made
  abbrev pub inputs_by : ℕ → ℕ → List WallInput
  inputs_by i zero = []
  inputs_by i (suc zero) = starts_with (state_after_calls i) ∷ []
  inputs_by i (suc (suc o)) = map receives (delivery_at mark (messages_after_calls i) others o)

  abbrev pub inputs_after : ℕ → List ℕ → List WallInput
  inputs_after i [] = []
  inputs_after i (o ∷ os) = inputs_by i o ++ inputs_after (made_by (length cs) i o) os

-- ---- refusals, in order: the image's; a log that may not hold all messages and the room lent beside them, or a buffer that may not hold any image (25)

abbrev pub has_room : ℕ → ℕ → Bool
has_room size room = leb max_room room && leb (size / call_size) ((room - max_room) / message_size)

abbrev pub holds_any : ℕ → Bool
holds_any room = leb I.max_image_size room

abbrev pub run_both_fault : List ℕ → ℕ → ℕ → ℕ → ℕ → ℕ
run_both_fault image size log desk wall = first_nonzero (I.image_fault image) (guard_number (has_room size log && (holds_any desk && holds_any wall)) 25 0)

-- the two replicas and the desk's window, or the number of a refusal, with two replicas of zeros and an empty window
pub record RunAnswer : Type 0 where
  pub desk : Replica
  pub window : Window
  pub wall : Replica
  pub refusal : ℕ

abbrev pub answer_of : Result RunResult Refusal → RunAnswer
answer_of (Ok r) = record { desk = r.desk; window = r.window; wall = r.wall; refusal = 0 }
answer_of (Err e) = record { desk = no_replica; window = record { bytes = empty_window }; wall = no_replica; refusal = number e }

-- ---- the run: the desk's calls and the wall's life as they happened, and the claim over both

pub record RunHolds (image : List ℕ) (mark : ℕ) (entries order others before log desk wall : List ℕ) (r : RunAnswer) : Type 0 where
  pub start : Drawing
  pub image_is : I.parse image ≡ I.accepted start
  pub steps_of_desk : List (DeskStep Drawing Edit Removed)
  pub life : List (WallEvent Drawing Removed)
  pub desk_run : DeskRun (protocol mark) (initial start) steps_of_desk
  pub wall_life : WallLife (protocol mark) (initial start) life
  pub desk_fed : calls steps_of_desk ≡ take (made_after (length (calls_in entries)) 0 order) (calls_in entries)
  pub wall_fed : map input_of life ≡ inputs_after mark start (calls_in entries) others 0 order
  pub desk_ends : desk_after (initial start) steps_of_desk ≡ state_in (memory r.desk desk)
  pub wall_ends : session_state (session_at start life) ≡ state_in (memory r.wall wall)
  pub desk_mark : r.desk.mark ≡ mark
  pub wall_mark : r.wall.mark ≡ mark
  -- the desk's messages stand at the log's front, one after the other, and the rest is as it was
  pub log_is : log ≡ over before 0 (concat (messages steps_of_desk))
  -- by its window the desk answers any wall's count as it should
  pub window_of : CatchUpOf mark r.window.bytes (messages steps_of_desk)
  pub correct : ReplicationCorrect mark start steps_of_desk life

-- the log, and the two buffers, before and after
pub record RunsBoth (image : List ℕ) (mark : ℕ) (entries order others before log desk desk' wall wall' : List ℕ) (r : RunAnswer) : Type 0 where
  pub number : r.refusal ≡ run_both_fault image (length entries) (length before) (length desk) (length wall)
  -- a refusal leaves all
  pub kept : (r.refusal ≡ 0 → ⊥) → (log ≡ before) × (desk' ≡ desk) × (wall' ≡ wall) × (r.desk ≡ no_replica) × (r.wall ≡ no_replica) × (r.window.bytes ≡ empty_window)
  pub held : r.refusal ≡ 0 → RunHolds image mark entries order others before log desk' wall' r
