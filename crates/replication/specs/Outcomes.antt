-- The outcome of a call on lent memory: the image's refusal, then the desk's or the wall's own, then the room for the new image. Definitions only.
use Rattle.std.specs.Prelude.{ℕ, ◌≡◌, List, length, leb}
use Rattle.big_endian.specs.Fields.{over}
use Rattle.sketch.specs.Lists.{ite}
use Rattle.sketch.specs.Drawing.{Drawing}
use Rattle.image.specs.Image as I
use Rattle.image.specs.Encode.{encode, drawing_size}
use Rattle.message.specs.Message as G
use Rattle.window.specs.Window.{slid}
use Rattle.edit_plan.specs.declared.Removed.{Removed}
use Rattle.edit_plan.specs.Outcome as O
use Rattle.agreement.specs.Machines as M
use Rattle.agreement.specs.Machines.{State, Call, call_outcome, WallReply, wall_transition}
use Rattle.replication.specs.Protocol.{Edit, place, message_for, protocol}

-- refused by a number, with a relation's place or 0; old, with the state unchanged; or updated to a state, with a report
pub data CallOutcome : Type 0 where
  refused : ℕ → ℕ → CallOutcome
  old : State Drawing → CallOutcome
  updated : State Drawing → Removed → CallOutcome

-- 25 where the new state's image does not fit into the buffer
abbrev pub if_image_fits : ℕ → State Drawing → Removed → CallOutcome
if_image_fits room s r = ite (leb (drawing_size s.drawing) room) (updated s r) (refused 25 0)

-- a call on the image's drawing and the count that came with it; an image's refusal comes before all else
abbrev pub on_image : I.ParseResult → ℕ → (State Drawing → CallOutcome) → CallOutcome
on_image (I.refused k) count f = refused k 0
on_image (I.accepted d) count f = f (record { drawing = d; count = count })

-- ---- the desk: the outcome of its call, a refusal with its place, and then the room

abbrev pub desk_outcome : ℕ → (ℕ → ℕ) → O.Outcome (State Drawing) Removed → CallOutcome
desk_outcome room place (O.refused k) = refused k (place k)
desk_outcome room place (O.accepted s r) = if_image_fits room s r

abbrev pub desk_on : ℕ → ℕ → Call Edit → State Drawing → CallOutcome
desk_on mark room call s = desk_outcome room (place s.drawing call.edit) (call_outcome (protocol mark) s call)

-- ---- the wall: its reply, and then the room

abbrev pub wall_outcome : ℕ → State Drawing → WallReply Removed → CallOutcome
wall_outcome room s (M.wall_refused k place) = refused k place
wall_outcome room s M.wall_old = old s
wall_outcome room s (M.wall_applied r) = if_image_fits room s r

-- the message's refusals, old, ahead, and the edit's, as the wall has them
abbrev pub wall_on : ℕ → ℕ → List ℕ → State Drawing → CallOutcome
wall_on mark room message s =
    let moved = wall_transition (protocol mark) s ((protocol mark).decode message) in
    wall_outcome room moved.0 moved.1

-- ---- what an outcome leaves

-- the refusal's number, or 0
abbrev pub number_of : CallOutcome → ℕ
number_of (refused k place) = k
number_of (old s) = 0
number_of (updated s r) = 0

-- the place that comes with it, or 0
abbrev pub place_of : CallOutcome → ℕ
place_of (refused k place) = place
place_of (old s) = 0
place_of (updated s r) = 0

-- a refusal has a number above 0, and a new image is as long as it says and is read as the state's drawing
abbrev pub OutcomeSound : CallOutcome → Type 0
OutcomeSound (refused k place) = k ≡ 0 → ⊥
OutcomeSound (old s) = Unit {0}
OutcomeSound (updated s r) = (length (encode s.drawing) ≡ drawing_size s.drawing) × (I.parse (encode s.drawing) ≡ I.accepted s.drawing)

-- the message of the edit and its number, under the mark, at the front, the rest as it was
abbrev pub message_after : ℕ → CallOutcome → Edit → List ℕ → List ℕ
message_after mark (refused k place) e m = m
message_after mark (old s) e m = m
message_after mark (updated s r) e m = over m 0 (G.encode mark (message_for s.count e))

-- the window slides by one with an accepted edit: its message, which stands at the front of a buffer, goes in by its number
abbrev pub window_after : CallOutcome → List ℕ → List ℕ → List ℕ
window_after (refused k place) w m = w
window_after (old s) w m = w
window_after (updated s r) w m = slid w s.count m
