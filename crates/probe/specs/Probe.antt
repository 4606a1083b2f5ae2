-- What the entry points answer.
use Rattle.std.specs.Prelude.{◌≡◌, ℕ, List, length, ◌==◌, ◌≢◌, nat_le, Result, Ok, Err}
use Rattle.refusal.specs.declared.Refusal.{Refusal}
use Rattle.refusal.specs.Refusals.{number}
use Rattle.big_endian.specs.Fields.{over}
use Rattle.sketch.specs.Lists.{ite, guard_number}
use Rattle.sketch.specs.Drawing.{view}
use Rattle.sketch.specs.Valid.{sketch_fault}
use Rattle.sketch.specs.declared.Sketch.{Sketch}
use Rattle.image.specs.Image.{image_fault, drawing_of}
use Rattle.message.specs.Message.{message_fault}

-- the bytes' own refusal, then a buffer that is too short for them
abbrev pub copy_fault : ℕ → List ℕ → ℕ → ℕ
copy_fault fault bytes room = guard_number (fault == 0) fault (guard_number (nat_le (length bytes) room) 25 0)

-- bytes that are accepted come out as they went in, and the rest of the buffer is as it was; a refusal leaves all of it
pub record Copied (fault : ℕ) (bytes before later : List ℕ) (r : ℕ) : Type 0 where
  pub number : r ≡ copy_fault fault bytes (length before)
  pub buffer : later ≡ ite (copy_fault fault bytes (length before) == 0) (over before 0 bytes) before

abbrev pub ImageCopied : List ℕ → List ℕ → List ℕ → ℕ → Type 0
ImageCopied bytes before later r = Copied (image_fault bytes) bytes before later r

abbrev pub MessageCopied : ℕ → List ℕ → List ℕ → List ℕ → ℕ → Type 0
MessageCopied mark bytes before later r = Copied (message_fault mark bytes) bytes before later r

-- the sketch with another next id and other counts
abbrev pub altered : Sketch → ℕ → ℕ → ℕ → ℕ → Sketch
altered s next points curves relations =
    record { next = next; npoints = points; ncurves = curves; nrelations = relations; points = s.points; curves = s.curves; relations = s.relations }

-- the image's refusal, or a sketch that the image gives, altered
abbrev pub AlteredRead : List ℕ → ℕ → ℕ → ℕ → ℕ → Result Sketch Refusal → Type 0
AlteredRead bytes next points curves relations (Ok sk) = (s : Sketch) × (image_fault bytes ≡ 0) × (view s ≡ drawing_of bytes) × (sk ≡ altered s next points curves relations)
AlteredRead bytes next points curves relations (Err r) = (image_fault bytes ≢ 0) × (number r ≡ image_fault bytes)

-- the image's refusal, or the test of a sketch that the image gives, altered
pub data SketchTested (bytes : List ℕ) (next points curves relations : ℕ) (r : ℕ) : Type 0 where
  unread : (image_fault bytes ≢ 0) → r ≡ image_fault bytes → SketchTested bytes next points curves relations r
  tested : (s : Sketch) → image_fault bytes ≡ 0 → view s ≡ drawing_of bytes → r ≡ sketch_fault (altered s next points curves relations) → SketchTested bytes next points curves relations r
