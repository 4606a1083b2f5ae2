-- The contracts of desk and wall: each call is told by its outcome on the memory that it found, and is so a step of the machines of `agreement`.
-- Definitions only.
use Rattle.std.specs.Prelude.{ℕ, zero, suc, ◌≤◌, ◌≡◌, ◌⊎◌, length, take, eqb, leb, Float, Result, Ok, Err}
use mathlib.Core.List.{List, [], ◌∷◌, ◌++◌, map, Memᴰ}
use Rattle.refusal.specs.declared.Refusal.{Refusal}
use Rattle.refusal.specs.Refusals.{number}
use Rattle.big_endian.specs.Fields.{over}
use Rattle.sketch.specs.Lists.{guard_number}
use Rattle.sketch.specs.Drawing.{Drawing, limits}
use Rattle.sketch.specs.Facts.{Valid}
use Rattle.message.specs.declared.Operation.{Operation}
use Rattle.message.specs.Message.{message_size}
use Rattle.image.specs.Image as I
use Rattle.image.specs.Encode.{encode, drawing_size}
use Rattle.sketch_image.specs.SketchImage.{drawing_in}
use Rattle.edit_plan.specs.declared.Removed.{Removed}
use Rattle.edit_plan.specs.Steps.{nothing}
use Rattle.agreement.specs.Machines as M
use Rattle.agreement.specs.Machines.{State, DeskStep, messages, WallStep, Unread, WallEvent, started, delivered}
use Rattle.replication.specs.declared.Replica.{Replica}
use Rattle.replication.specs.declared.DeskTransition.{DeskTransition}
use Rattle.replication.specs.declared.WallTransition.{WallTransition}
use Rattle.replication.specs.DeskReply.{DeskReply, desk_reply_of}
use Rattle.replication.specs.DeskReply as Desk
use Rattle.replication.specs.WallReply.{WallReply, wall_reply_of}
use Rattle.replication.specs.WallReply as Wall
use Rattle.replication.specs.Protocol.{Edit, protocol}
use Rattle.replication.specs.Outcomes.{CallOutcome, refused, old, updated, on_image, desk_on, wall_on, OutcomeSound, message_after, window_after}

-- ---- memory

-- what is kept for a replica: a buffer, the size of the image at its front, the start's mark, the count of edits
pub record Memory : Type 0 where
  pub buffer : List ℕ
  pub size : ℕ
  pub mark : ℕ
  pub count : ℕ

abbrev pub memory : Replica → List ℕ → Memory
memory r b = record { buffer = b; size = r.size; mark = r.mark; count = r.count }

-- the first bytes of the buffer, all of it where it is shorter
abbrev pub image_in : Memory → List ℕ
image_in m = take m.size m.buffer

-- the state that is seen in it
abbrev pub state_in : Memory → State Drawing
state_in m = record { drawing = drawing_in (I.parse (image_in m)); count = m.count }

-- a replica goes on from a good image, in a buffer that has room for any
pub record Ready (m : Memory) : Type 0 where
  pub image_is : I.parse (image_in m) ≡ I.accepted (state_in m).drawing
  pub valid : Valid limits (state_in m).drawing
  pub room : I.max_image_size ≤ length m.buffer

-- a replica's start: the image at the buffer's front, the mark, the count
pub record StartsWith (image : List ℕ) (mark count : ℕ) (m : Memory) : Type 0 where
  pub image_is : image_in m ≡ image
  pub room : I.max_image_size ≤ length m.buffer
  pub mark_is : m.mark ≡ mark
  pub count_is : m.count ≡ count

-- ---- a start: the image at the front of a buffer that has room for any image, with the mark, at the count; or the image's refusal, and then the room's (25)

-- the first number of two that is not 0
abbrev pub first_nonzero : ℕ → ℕ → ℕ
first_nonzero zero m = m
first_nonzero (suc n) m = suc n

abbrev pub start_fault : List ℕ → ℕ → ℕ
start_fault image room = first_nonzero (I.image_fault image) (guard_number (leb I.max_image_size room) 25 0)

-- with a refusal comes a replica of zeros
abbrev pub no_replica : Replica
no_replica = record { size = 0; mark = 0; count = 0 }

-- what desk and wall start with: a replica, or the number that the image or the buffer is refused by
pub record Started : Type 0 where
  pub replica : Replica
  pub refusal : ℕ

abbrev pub started_of : Result Replica Refusal → Started
started_of (Ok r) = record { replica = r; refusal = 0 }
started_of (Err e) = record { replica = no_replica; refusal = number e }

pub record Starts (image : List ℕ) (mark count : ℕ) (before after : List ℕ) (r : Started) : Type 0 where
  pub number : r.refusal ≡ start_fault image (length before)
  pub when_refused : (r.refusal ≡ 0 → ⊥) → (after ≡ before) × (r.replica ≡ no_replica)
  pub when_started : r.refusal ≡ 0 → (after ≡ over before 0 image) × (r.replica ≡ record { size = length image; mark = mark; count = count })

-- ---- what desk and wall answer and leave alike

-- the image's own number before any other
abbrev pub first_fault : List ℕ → ℕ → ℕ
first_fault s k = guard_number (eqb (I.image_fault s) 0) (I.image_fault s) k

-- a refusal leaves all; an old message leaves the state that was found; else the new image stands at the buffer's front, the rest as it was; the mark stays
abbrev pub memory_after : CallOutcome → Memory → Memory
memory_after (refused k place) m = m
memory_after (old s) m = record { buffer = m.buffer; size = drawing_size s.drawing; mark = m.mark; count = s.count }
memory_after (updated s r) m = record { buffer = over m.buffer 0 (encode s.drawing); size = drawing_size s.drawing; mark = m.mark; count = s.count }

-- ---- the desk

-- a call as it happened: the edit, the buffer lent for the message before and after it, the memory and the window after it, the reply
pub record DeskCall : Type 0 where
  pub edit : Edit
  pub before : List ℕ
  pub after : List ℕ
  pub left : Memory
  pub window : List ℕ
  pub reply : DeskReply

abbrev pub desk_call : Operation → ℕ → Float → Float → List ℕ → List ℕ → List ℕ → DeskTransition → DeskCall
desk_call op t x y b a buffer r =
    record { edit = record { operation = op; curve = t; at = record { x = x; y = y } }; before = b; after = a; left = memory r.replica buffer; window = r.window.bytes; reply = desk_reply_of r.reply }

abbrev pub desk_reply : DeskReply → List ℕ → M.DeskReply Removed
desk_reply (Desk.Refused k place) m = M.desk_refused k place
desk_reply (Desk.Accepted r) m = M.desk_accepted r m

abbrev pub desk_step : DeskCall → DeskStep Drawing Edit Removed
desk_step c =
    record {
      call = record { edit = c.edit; room = length c.before };
      state = state_in c.left;
      reply = desk_reply c.reply (take message_size c.after);
    }

abbrev pub desk_call_outcome : Memory → Edit → ℕ → CallOutcome
desk_call_outcome m e room = on_image (I.parse (image_in m)) m.count (desk_on m.mark (length m.buffer) (record { edit = e; room = room }))

-- the reply to an outcome; no edit of the desk is old
abbrev pub desk_reply_to : CallOutcome → DeskReply
desk_reply_to (refused k place) = Desk.Refused k place
desk_reply_to (old s) = Desk.Accepted nothing
desk_reply_to (updated s r) = Desk.Accepted r

-- the outcome's reply, the memory, the message, the window
pub record DeskEdits (m : Memory) (w : List ℕ) (c : DeskCall) : Type 0 where
  pub reply_is : c.reply ≡ desk_reply_to (desk_call_outcome m c.edit (length c.before))
  pub left_is : c.left ≡ memory_after (desk_call_outcome m c.edit (length c.before)) m
  pub message_is : c.after ≡ message_after m.mark (desk_call_outcome m c.edit (length c.before)) c.edit c.before
  pub window_is : c.window ≡ window_after (desk_call_outcome m c.edit (length c.before)) w c.after
  pub sound : OutcomeSound (desk_call_outcome m c.edit (length c.before))

-- one call after the other, each on what the last one left
abbrev pub DeskCalls : Memory → List ℕ → List DeskCall → Type 0
DeskCalls m w [] = Unit {0}
DeskCalls m w (c ∷ cs) = DeskEdits m w c × DeskCalls c.left c.window cs

-- the memory and the window that some calls left
abbrev pub memory_left : Memory → List DeskCall → Memory
memory_left m [] = m
memory_left m (c ∷ cs) = memory_left c.left cs

abbrev pub window_left : List ℕ → List DeskCall → List ℕ
window_left w [] = w
window_left w (c ∷ cs) = window_left c.window cs

-- ---- the wall

pub record WallCall : Type 0 where
  pub bytes : List ℕ
  pub left : Memory
  pub reply : WallReply

abbrev pub wall_call : List ℕ → List ℕ → WallTransition → WallCall
wall_call bytes buffer r = record { bytes = bytes; left = memory r.replica buffer; reply = wall_reply_of r.reply }

abbrev pub wall_reply : WallReply → M.WallReply Removed
wall_reply (Wall.Refused k place) = M.wall_refused k place
wall_reply Wall.Old = M.wall_old
wall_reply (Wall.Applied r) = M.wall_applied r

abbrev pub wall_step : WallCall → WallStep Drawing Removed
wall_step c = record { bytes = c.bytes; state = state_in c.left; reply = wall_reply c.reply }

abbrev pub wall_call_outcome : Memory → List ℕ → CallOutcome
wall_call_outcome m bytes = on_image (I.parse (image_in m)) m.count (wall_on m.mark (length m.buffer) bytes)

abbrev pub wall_reply_to : CallOutcome → WallReply
wall_reply_to (refused k place) = Wall.Refused k place
wall_reply_to (old s) = Wall.Old
wall_reply_to (updated s r) = Wall.Applied r

pub record WallDelivers (m : Memory) (c : WallCall) : Type 0 where
  pub reply_is : c.reply ≡ wall_reply_to (wall_call_outcome m c.bytes)
  pub left_is : c.left ≡ memory_after (wall_call_outcome m c.bytes) m
  pub sound : OutcomeSound (wall_call_outcome m c.bytes)

abbrev pub WallCalls : Memory → List WallCall → Type 0
WallCalls m [] = Unit {0}
WallCalls m (c ∷ cs) = WallDelivers m c × WallCalls c.left cs

-- ---- a wall's life

-- what happens to a wall: it is started, with the memory that this leaves, or a message is delivered
pub data WallUse : Type 0 where
  starts : Memory → WallUse
  delivers : WallCall → WallUse

-- one after the other, each on what the last one left
abbrev pub WallUses : Memory → List WallUse → Type 0
WallUses m [] = Unit {0}
WallUses m (starts t ∷ us) = WallUses t us
WallUses m (delivers c ∷ us) = WallDelivers m c × WallUses c.left us

-- the memory that is left of them
abbrev pub uses_left : Memory → List WallUse → Memory
uses_left m [] = m
uses_left m (starts t ∷ us) = uses_left t us
uses_left m (delivers c ∷ us) = uses_left c.left us

-- a start from the image and the count that the desk, whose first memory is d, had at its start or after some of its calls, with its mark
abbrev pub StartsFromDesk : Memory → List DeskCall → Memory → Type 0
StartsFromDesk d desk t = (front : List DeskCall) × (later : List DeskCall) × (desk ≡ front ++ later) × StartsWith (image_in (memory_left d front)) d.mark (memory_left d front).count t

-- each start is such a one; each delivery is one of the desk's messages, as written, or is not read
abbrev pub UsesFromDesk : Memory → List DeskCall → List WallUse → Type 0
UsesFromDesk d desk [] = Unit {0}
UsesFromDesk d desk (starts t ∷ us) = StartsFromDesk d desk t × UsesFromDesk d desk us
UsesFromDesk d desk (delivers c ∷ us) = (Memᴰ c.bytes (messages (map desk_step desk)) ⊎ Unread (protocol d.mark) c.bytes) × UsesFromDesk d desk us

abbrev pub wall_event : WallUse → WallEvent Drawing Removed
wall_event (starts t) = started (state_in t)
wall_event (delivers c) = delivered (wall_step c)
