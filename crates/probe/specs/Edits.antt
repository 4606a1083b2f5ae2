-- What an edit of an image answers, once and many times over. Definitions only.
use Rattle.std.specs.Prelude.{◌≡◌, ℕ, ◌+◌, ◌*◌, ◌/◌, ◌%◌, ◌^◌, List, ◌++◌, length, ◌==◌, nat_le}
use Rattle.big_endian.specs.Fields.{bytes, over}
use Rattle.geom.specs.declared.Vec2.{Vec2}
use Rattle.sketch.specs.Lists.{guard_number}
use Rattle.sketch.specs.Drawing.{Drawing, limits}
use Rattle.image.specs.Image.{image_fault, drawing_of}
use Rattle.image.specs.Encode.{encode, drawing_size}
use Rattle.message.specs.Message.{operation_of, is_operation}
use Rattle.message.specs.declared.Operation.{Operation}
use Rattle.edit_plan.specs.declared.Removed.{Removed}
use Rattle.edit_plan.specs.Outcome.{Outcome, refused, accepted, ◌then◌, guard}
use Rattle.modify.specs.Edits.{edit_of, edit_place}

-- ---- one edit

-- by its operation's number; 6 where none has it
abbrev pub edit_by : ℕ → Drawing → ℕ → Vec2 → Outcome Drawing Removed
edit_by op d t p = guard (is_operation op) 6 (edit_of (operation_of op) limits d t p)

-- the image's own refusal first
abbrev pub image_edit_by : ℕ → List ℕ → ℕ → Vec2 → Outcome Drawing Removed
image_edit_by op s t p = guard (image_fault s == 0) (image_fault s) (edit_by op (drawing_of s) t p)

-- last, a buffer that is too short for the report and the image (25)
abbrev pub fitting : ℕ → Outcome Drawing Removed → Outcome Drawing Removed
fitting room o = o then (λ d r. guard (nat_le (12 + drawing_size d) room) 25 (accepted d r))

-- the report: the removed curve and its ends
abbrev pub report : Removed → List ℕ
report r = bytes 4 r.curve ++ (bytes 4 r.from ++ bytes 4 r.to)

-- the refusal's number, or 0
unfoldable pub number_of : Outcome Drawing Removed → ℕ
number_of (refused n) = n
number_of (accepted d r) = 0

-- the report and then the image at the buffer's front, the rest as it was; or all as it was
unfoldable pub left_in : Outcome Drawing Removed → List ℕ → List ℕ
left_in (refused n) before = before
left_in (accepted d r) before = over before 0 (report r ++ encode d)

-- a buffer after a write of what was made, and the number
pub record Wrote (o : Outcome Drawing Removed) (before later : List ℕ) (r : ℕ) : Type 0 where
  pub number : r ≡ number_of (fitting (length before) o)
  pub buffer : later ≡ left_in (fitting (length before) o) before

-- the number in the low 16 bits; above them the place that comes with it
pub record EditMade (op : ℕ) (s : List ℕ) (t : ℕ) (p : Vec2) (before later : List ℕ) (r : ℕ) : Type 0 where
  pub number : r % 65536 ≡ number_of (fitting (length before) (image_edit_by op s t p))
  pub buffer : later ≡ left_in (fitting (length before) (image_edit_by op s t p)) before
  pub place : r / 65536 ≡ edit_place (operation_of op) (drawing_of s) t p (r % 65536)

-- ---- many times over

-- the image's refusal, or the number
abbrev pub of_image : List ℕ → ℕ → ℕ
of_image s k = guard_number (image_fault s == 0) (image_fault s) k

-- so many times a number, in 32 bits
abbrev pub repeated : ℕ → ℕ → ℕ
repeated times k = times * k % 2 ^ 32

-- a number, and above its 16 bits a place
abbrev pub with_place : ℕ → ℕ → ℕ
with_place n place = n + place * 65536

-- what one edit adds: a refusal's number with its place, or the next id and the id of the removed curve
unfoldable pub outcome_adds : (ℕ → ℕ) → Outcome Drawing Removed → ℕ
outcome_adds place (refused n) = with_place n (place n)
outcome_adds place (accepted d r) = (d.next + r.curve) % 2 ^ 32

abbrev pub edit_adds : Operation → Drawing → ℕ → Vec2 → ℕ
edit_adds op d t p = outcome_adds (edit_place op d t p) (edit_of op limits d t p)

abbrev pub edits_sum : ℕ → List ℕ → ℕ → Vec2 → ℕ → ℕ
edits_sum op s t p times = of_image s (guard_number (is_operation op) 6 (repeated times (edit_adds (operation_of op) (drawing_of s) t p)))
