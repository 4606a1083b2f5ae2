-- What a call on lent memory answers and leaves there. Definitions only.
use Rattle.std.specs.Prelude.{ℕ, ◌+◌, ◌*◌, ◌/◌, ◌%◌, ◌≡◌, List, length, take, set, Float}
use Rattle.big_endian.specs.Fields.{over}
use Rattle.sketch.specs.Lists.{ite}
use Rattle.sketch.specs.Drawing.{Drawing}
use Rattle.image.specs.Image as I
use Rattle.image.specs.Encode as E
use Rattle.message.specs.declared.Operation.{Operation}
use Rattle.message.specs.Message.{operation_of, is_operation}
use Rattle.edit_plan.specs.declared.Removed.{Removed}
use Rattle.edit_plan.specs.Steps.{nothing}
use Rattle.agreement.specs.Machines.{State, Call}
use Rattle.replication.specs.Protocol.{Edit}
use Rattle.replication.specs.Outcomes.{CallOutcome, refused, old, updated, on_image, desk_on, number_of, place_of, OutcomeSound, message_after, window_after}
use Rattle.replication.specs.Transitions.{wall_call_outcome}

-- the number of the interface that C header and Rust binding compare: a call that goes, or takes or means something else, gives it the next one
abbrev pub interface : ℕ
interface = 2

-- the library's version, 2.0.0: the interface's number times 65536, the number of additions since times 256, and that of corrections since
abbrev pub library_version : ℕ
library_version = interface * 65536 + 0 * 256 + 0

-- the new image at the buffer's front, the rest as it was
abbrev pub buffer_after : CallOutcome → List ℕ → List ℕ
buffer_after (refused k place) b = b
buffer_after (old s) b = b
buffer_after (updated s r) b = over b 0 (E.encode s.drawing)

-- a state's count, its image's size, and a report of a curve and its ends
abbrev pub answer_for : List ℕ → State Drawing → Removed → List ℕ
answer_for a s r = set (set (set (set (set a 0 s.count) 1 (E.drawing_size s.drawing)) 2 r.curve) 3 r.from) 4 r.to

-- an old message changes nothing: the answer has the count and the size that were found
abbrev pub answer_after : CallOutcome → List ℕ → List ℕ
answer_after (refused k place) a = a
answer_after (old s) a = answer_for a s nothing
answer_after (updated s r) a = answer_for a s r

-- what desk and wall answer alike: the low 16 bits are the number, those above the place that comes with it, 0 where there is none
pub record CallWritten (v : CallOutcome) (buffer buffer' answer answer' : List ℕ) (r : ℕ) : Type 0 where
  pub number : r % 65536 ≡ number_of v
  pub place : r / 65536 ≡ place_of v
  pub image : buffer' ≡ buffer_after v buffer
  pub sound : OutcomeSound v
  pub numbers : answer' ≡ answer_after v answer

-- ---- the desk

-- an operation on a curve, picked at a place
abbrev pub mk_edit : Operation → ℕ → Float → Float → Edit
mk_edit operation curve x y = record { operation = operation; curve = curve; at = record { x = x; y = y } }

-- an edit by its operation's number
abbrev pub mk_edit_by_number : ℕ → ℕ → Float → Float → Edit
mk_edit_by_number operation curve x y = mk_edit (operation_of operation) curve x y

-- 6 for an unknown operation, before what the desk refuses
abbrev pub desk_by_number : ℕ → ℕ → ℕ → Call Edit → State Drawing → CallOutcome
desk_by_number mark room operation call s = ite (is_operation operation) (desk_on mark room call s) (refused 6 0)

-- the image is the first `len` bytes of the buffer, all of it where it is shorter; `room` is lent for the message
abbrev pub desk_outcome_by_number : List ℕ → ℕ → ℕ → ℕ → ℕ → Edit → ℕ → CallOutcome
desk_outcome_by_number buffer len count mark operation e room =
    on_image (I.parse (take len buffer)) count (desk_by_number mark (length buffer) operation (record { edit = e; room = room }))

-- the outcome's answer, the message, and the window, which slides by an accepted edit's message and which a refusal leaves
pub record DeskCallWritten (len count mark operation : ℕ) (e : Edit) (buffer buffer' message message' window window' answer answer' : List ℕ) (r : ℕ) : Type 0 where
  pub served : CallWritten (desk_outcome_by_number buffer len count mark operation e (length message)) buffer buffer' answer answer' r
  pub written : message' ≡ message_after mark (desk_outcome_by_number buffer len count mark operation e (length message)) e message
  pub kept : window' ≡ window_after (desk_outcome_by_number buffer len count mark operation e (length message)) window message'

-- ---- the wall

-- the outcome's answer
abbrev pub WallCallWritten : ℕ → ℕ → ℕ → List ℕ → List ℕ → List ℕ → List ℕ → List ℕ → ℕ → Type 0
WallCallWritten len count mark bytes buffer buffer' answer answer' r = CallWritten (wall_call_outcome (record { buffer = buffer; size = len; mark = mark; count = count }) bytes) buffer buffer' answer answer' r
