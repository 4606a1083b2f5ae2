-- Lists of the calls that a host links, each on the memory that the device's last call left, and the steps that a host sees in them; a wall's starts
-- among its deliveries. Definitions only.
use Rattle.std.specs.Prelude.{ℕ, zero, suc, ◌-◌, ◌/◌, ◌%◌, ◌≡◌, ◌⊎◌, length, take, drop, get_or, eqb, Float}
use mathlib.Core.List.{List, [], ◌∷◌, ◌++◌, map, Memᴰ}
use Rattle.big_endian.specs.Fields.{over}
use Rattle.sketch.specs.Lists.{ite}
use Rattle.sketch.specs.Drawing.{Drawing}
use Rattle.message.specs.Message.{message_size, is_operation}
use Rattle.edit_plan.specs.declared.Removed.{Removed}
use Rattle.window.specs.Window.{empty_window, CatchesUp}
use Rattle.window.specs.KeptMessages.{concat, due_fault}
use Rattle.agreement.specs.Machines as M
use Rattle.agreement.specs.Machines.{DeskStep, messages, WallStep, Unread, WallEvent, started, delivered}
use Rattle.replication.specs.Protocol.{Edit, protocol}
use Rattle.replication.specs.Transitions.{Memory, image_in, state_in, StartsWith}
use Rattle.replication.specs.CatchUps.{messages_in}
use Rattle.mulkefi.specs.Calls.{mk_edit_by_number, DeskCallWritten, WallCallWritten}

-- the memory as a call leaves it: a host takes over the size and count of an answer 0, and keeps them after any other; the mark it keeps always
abbrev pub after_call : Memory → List ℕ → List ℕ → ℕ → Memory
after_call m buffer answer zero = record { buffer = buffer; size = get_or answer 1 0; mark = m.mark; count = get_or answer 0 0 }
after_call m buffer answer (suc r) = record { buffer = buffer; size = m.size; mark = m.mark; count = m.count }

-- the report in an answer
abbrev pub report_in : List ℕ → Removed
report_in answer = record { curve = get_or answer 2 0; from = get_or answer 3 0; to = get_or answer 4 0 }

-- ---- the desk

-- a call as it happened: its arguments; what was lent for message and answer, before it; buffer, message, window and answer after it. It finds
-- the buffer and the window that the last call left
pub record DeskUse : Type 0 where
  pub operation : ℕ
  pub curve : ℕ
  pub x : Float
  pub y : Float
  pub buffer : List ℕ
  pub lent : List ℕ
  pub message : List ℕ
  pub window : List ℕ
  pub before : List ℕ
  pub answer : List ℕ
  pub result : ℕ

abbrev pub edit_of_use : DeskUse → Edit
edit_of_use u = mk_edit_by_number u.operation u.curve u.x u.y

abbrev pub after_desk : Memory → DeskUse → Memory
after_desk m u = after_call m u.buffer u.answer u.result

-- the reply that a host sees: a refusal's number in the low 16 bits and its place above them, or the report and the message
abbrev pub desk_reply_in : DeskUse → M.DeskReply Removed
desk_reply_in u = ite (eqb (u.result % 65536) 0) (M.desk_accepted (report_in u.answer) (take message_size u.message)) (M.desk_refused (u.result % 65536) (u.result / 65536))

abbrev pub desk_step_in : Memory → DeskUse → DeskStep Drawing Edit Removed
desk_step_in m u = record { call = record { edit = edit_of_use u; room = length u.lent }; state = state_in (after_desk m u); reply = desk_reply_in u }

-- the steps of a list of calls; one whose operation's number is none asks for no edit (6)
abbrev pub desk_steps_in : Memory → List DeskUse → List (DeskStep Drawing Edit Removed)
desk_steps_in m [] = []
desk_steps_in m (u ∷ us) = ite (is_operation u.operation) (desk_step_in m u ∷ []) [] ++ desk_steps_in (after_desk m u) us

-- one call after the other, each as its contract has it, from a memory and a window
abbrev pub DeskUses : Memory → List ℕ → List DeskUse → Type 0
DeskUses m w [] = Unit {0}
DeskUses m w (u ∷ us) =
    DeskCallWritten m.size m.count m.mark u.operation (edit_of_use u) m.buffer u.buffer u.lent u.message w u.window u.before u.answer u.result
    × (length u.before ≡ 5) × DeskUses (after_desk m u) u.window us

-- the memory and the window that some calls left
abbrev pub desk_left : Memory → List DeskUse → Memory
desk_left m [] = m
desk_left m (u ∷ us) = desk_left (after_desk m u) us

abbrev pub desk_window : List ℕ → List DeskUse → List ℕ
desk_window w [] = w
desk_window w (u ∷ us) = desk_window u.window us

-- ---- the wall

-- a delivery as it happened
pub record WallDelivery : Type 0 where
  pub bytes : List ℕ
  pub buffer : List ℕ
  pub before : List ℕ
  pub answer : List ℕ
  pub result : ℕ

abbrev pub after_wall : Memory → WallDelivery → Memory
after_wall m u = after_call m u.buffer u.answer u.result

-- a call that answers 0 and the count as it was had an old message
abbrev pub wall_reply_in : Memory → WallDelivery → M.WallReply Removed
wall_reply_in m u =
    ite (eqb (u.result % 65536) 0)
    (ite (eqb (get_or u.answer 0 0) m.count) M.wall_old (M.wall_applied (report_in u.answer)))
    (M.wall_refused (u.result % 65536) (u.result / 65536))

abbrev pub wall_step_in : Memory → WallDelivery → WallStep Drawing Removed
wall_step_in m u = record { bytes = u.bytes; state = state_in (after_wall m u); reply = wall_reply_in m u }

-- what a host does with a wall: it starts it, with the memory that it fills for it, or has a message delivered
pub data HostWallUse : Type 0 where
  host_starts : Memory → HostWallUse
  host_delivers : WallDelivery → HostWallUse

-- one after the other, each delivery as its contract has it
abbrev pub HostWallUses : Memory → List HostWallUse → Type 0
HostWallUses m [] = Unit {0}
HostWallUses m (host_starts t ∷ us) = HostWallUses t us
HostWallUses m (host_delivers u ∷ us) =
    WallCallWritten m.size m.count m.mark u.bytes m.buffer u.buffer u.before u.answer u.result
    × (length u.before ≡ 5) × HostWallUses (after_wall m u) us

-- the memory that is left of them
abbrev pub wall_left : Memory → List HostWallUse → Memory
wall_left m [] = m
wall_left m (host_starts t ∷ us) = wall_left t us
wall_left m (host_delivers u ∷ us) = wall_left (after_wall m u) us

-- the events of a wall's life
abbrev pub wall_events_in : Memory → List HostWallUse → List (WallEvent Drawing Removed)
wall_events_in m [] = []
wall_events_in m (host_starts t ∷ us) = started (state_in t) ∷ wall_events_in t us
wall_events_in m (host_delivers u ∷ us) = delivered (wall_step_in m u) ∷ wall_events_in (after_wall m u) us

-- each start is from the image and the count that the desk, whose first memory is d, had at its start or after some of its calls, with its mark;
-- each delivery is one of the desk's messages, as written, or is not read
abbrev pub HostUsesFromDesk : Memory → List DeskUse → List HostWallUse → Type 0
HostUsesFromDesk d desk [] = Unit {0}
HostUsesFromDesk d desk (host_starts t ∷ us) =
    ((front : List DeskUse) × (later : List DeskUse) × (desk ≡ front ++ later) × StartsWith (image_in (desk_left d front)) d.mark (desk_left d front).count t) × HostUsesFromDesk d desk us
HostUsesFromDesk d desk (host_delivers u ∷ us) =
    (Memᴰ u.bytes (messages (desk_steps_in d desk)) ⊎ Unread (protocol d.mark) u.bytes) × HostUsesFromDesk d desk us

-- ---- catching up

-- what a catch-up for a wall's count k answers, and leaves of a lent buffer, where the desk wrote these messages: the number of a refusal; or 0,
-- and then the messages after the first k stand in order at the buffer's front, the rest as it was
pub record DueWritten (ms : List (List ℕ)) (k : ℕ) (before later : List ℕ) (r : ℕ) : Type 0 where
  pub number : r ≡ due_fault ms k (length before)
  pub buffer : later ≡ ite (eqb (due_fault ms k (length before)) 0) (over before 0 (concat (drop k ms))) before

-- the desk, whose first memory is d, made some calls; a catch-up for the count of a wall's memory m was accepted, and wrote to a buffer; the wall
-- was delivered the messages that stand there then, each once and in order
pub record HostDeliversDue (d : Memory) (desk : List DeskUse) (m : Memory) (before buffer : List ℕ) (us : List WallDelivery) : Type 0 where
  pub caught_up : CatchesUp d.mark (desk_window empty_window desk) (desk_left d desk).count m.count before buffer 0
  pub called : HostWallUses m (map host_delivers us)
  pub due : map (λ (u : WallDelivery). u.bytes) us ≡ messages_in ((desk_left d desk).count - m.count) buffer

-- then it has the desk's drawing and count
abbrev pub HostLevelWithDesk : Memory → List DeskUse → Memory → List WallDelivery → Type 0
HostLevelWithDesk d desk m us = state_in (wall_left m (map host_delivers us)) ≡ state_in (desk_left d desk)
