-- What a desk's edit and a delivery add to a sum of many. Definitions only.
use Rattle.std.specs.Prelude.{ℕ, ◌+◌, ◌%◌, ◌^◌, List, Float}
use Rattle.sketch.specs.Lists.{guard_number}
use Rattle.sketch.specs.Drawing.{Drawing}
use Rattle.image.specs.Image.{drawing_of}
use Rattle.message.specs.Message.{operation_of, message_size, is_operation}
use Rattle.message.specs.declared.Operation.{Operation}
use Rattle.edit_plan.specs.declared.Removed.{Removed}
use Rattle.edit_plan.specs.Outcome.{Outcome, refused, accepted}
use Rattle.agreement.specs.Machines.{State, WallReply, wall_refused, wall_old, wall_applied, call_outcome, wall_transition}
use Rattle.replication.specs.Protocol.{Edit, place, protocol}
use Rattle.probe.specs.Edits.{with_place, of_image, repeated}

-- an image's drawing after so many edits
abbrev pub image_state : List ℕ → ℕ → State Drawing
image_state s count = record { drawing = drawing_of s; count = count }

-- ---- the desk, with room for the message; its mark, which is in the message alone, is 0

-- a refusal's number with its place, or 256 and the count
unfoldable pub desk_tally : (ℕ → ℕ) → Outcome (State Drawing) Removed → ℕ
desk_tally place (refused n) = with_place n (place n)
desk_tally place (accepted t r) = (t.count + 256) % 2 ^ 32

abbrev pub desk_adds : Operation → ℕ → Float → Float → State Drawing → ℕ
desk_adds op t x y s =
    let e : Edit = record { operation = op; curve = t; at = record { x = x; y = y } } in
    desk_tally (place s.drawing e) (call_outcome (protocol 0) s (record { edit = e; room = message_size }))

abbrev pub desks_sum : List ℕ → ℕ → ℕ → ℕ → Float → Float → ℕ → ℕ
desks_sum s count op t x y times = of_image s (guard_number (is_operation op) 6 (repeated times (desk_adds (operation_of op) t x y (image_state s count))))

-- ---- the wall

-- a refusal's number with its place, 256 for an old message, 256 and the count for an edit
unfoldable pub wall_tally : State Drawing × WallReply Removed → ℕ
wall_tally (s, wall_refused n place) = with_place n place
wall_tally (s, wall_old) = 256
wall_tally (s, wall_applied r) = (s.count + 256) % 2 ^ 32

abbrev pub wall_adds : ℕ → List ℕ → State Drawing → ℕ
wall_adds mark m s = wall_tally (wall_transition (protocol mark) s ((protocol mark).decode m))

abbrev pub walls_sum : List ℕ → ℕ → ℕ → List ℕ → ℕ → ℕ
walls_sum s count mark m times = of_image s (repeated times (wall_adds mark m (image_state s count)))
