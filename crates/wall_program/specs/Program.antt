-- What the wall's program writes for what it reads: an image, a mark, then messages, a shorter rest as it is. Definitions only.
use Rattle.std.specs.Prelude.{ℕ, zero, suc, ◌+◌, ◌≤◌, ◌≡◌, List, [], ◌∷◌, length, take, drop, leb}
use Rattle.big_endian.specs.Fields.{field, over}
use Rattle.big_endian.specs.Laws.{Bytes}
use Rattle.sketch.specs.Lists.{ite}
use Rattle.sketch.specs.Drawing.{Drawing}
use Rattle.image.specs.Image as I
use Rattle.image.specs.Encode.{encode, drawing_size}
use Rattle.message.specs.Message.{message_size, mark_size}
use Rattle.agreement.specs.Machines.{State, initial, wall_transition}
use Rattle.replication.specs.Protocol.{protocol}
use Rattle.replication.specs.Transitions.{Memory, state_in, Ready}

-- where the image ends: four bytes, and as many as their value
abbrev pub image_end : List ℕ → ℕ
image_end s = 4 + field s 0 4

-- the mark, the bytes after the image, and where the messages begin, behind it
abbrev pub mark_in : List ℕ → ℕ
mark_in s = field s (image_end s) mark_size

abbrev pub mark_end : List ℕ → ℕ
mark_end s = image_end s + mark_size

-- at most n messages
abbrev pub chunks_up_to : ℕ → List ℕ → List (List ℕ)
chunks_up_to zero s = []
chunks_up_to (suc n) [] = []
chunks_up_to (suc n) (b ∷ s) = take message_size (b ∷ s) ∷ chunks_up_to n (drop message_size (b ∷ s))

abbrev pub chunks : List ℕ → List (List ℕ)
chunks s = chunks_up_to (length s) s

-- the state after some messages, refused ones too, of a wall with a mark
abbrev pub wall_after_messages : ℕ → State Drawing → List (List ℕ) → State Drawing
wall_after_messages mark s [] = s
wall_after_messages mark s (m ∷ ms) = wall_after_messages mark (wall_transition (protocol mark) s ((protocol mark).decode m)).0 ms

abbrev pub outcome_on : ℕ → I.ParseResult → List (List ℕ) → I.ParseResult
outcome_on mark (I.refused k) ms = I.refused k
outcome_on mark (I.accepted d) ms = I.accepted (wall_after_messages mark (initial d) ms).drawing

-- with fewer bytes than a mark's after the image there is no message, and the image stays
abbrev pub program_outcome : List ℕ → I.ParseResult
program_outcome s = outcome_on (mark_in s) (I.parse (take (image_end s) s)) (chunks (drop (mark_end s) s))

-- the last image; or for a refused image two bytes after their length: a version, and the number
abbrev pub output : I.ParseResult → List ℕ
output (I.refused k) = 0 ∷ 0 ∷ 0 ∷ 2 ∷ 1 ∷ k ∷ []
output (I.accepted d) = encode d

abbrev pub output_size : I.ParseResult → ℕ
output_size (I.refused k) = 6
output_size (I.accepted d) = drawing_size d

-- the output at the buffer's front and its size, the rest as it was; or 0 and all as it was where the buffer is too short
pub record WritesOutcome (o : I.ParseResult) (before later : List ℕ) (r : ℕ) : Type 0 where
  pub size : r ≡ ite (leb (output_size o) (length before)) (output_size o) 0
  pub buffer : later ≡ ite (leb (output_size o) (length before)) (over before 0 (output o)) before
  pub within : r ≤ length before

-- a replica after the messages in some bytes
pub record DeliversAll (s : Memory) (bytes : List ℕ) (r : Memory) : Type 0 where
  pub is : state_in r ≡ wall_after_messages s.mark (state_in s) (chunks bytes)
  pub ready : Ready r

-- bytes at the buffer's front and how many they are, as an outcome's
pub record WritesBytes (s before later : List ℕ) (r : ℕ) : Type 0 where
  pub are : Bytes s
  pub size : r ≡ ite (leb (length s) (length before)) (length s) 0
  pub buffer : later ≡ ite (leb (length s) (length before)) (over before 0 s) before
  pub within : r ≤ length before
