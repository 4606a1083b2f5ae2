-- What the reader answers, and what a write leaves in the buffer.
use Rattle.std.specs.Prelude.{ℕ, ◌≡◌, List, [], length, leb, eqb, Result, Ok, Err}
use Rattle.big_endian.specs.Fields.{over}
use Rattle.sketch.specs.Lists.{ite, guard_number}
use Rattle.sketch.specs.Drawing.{Drawing, view}
use Rattle.sketch.specs.Valid.{sketch_fault}
use Rattle.sketch.specs.declared.Sketch.{Sketch}
use Rattle.image.specs.Image.{ParseResult, refused, accepted, result_of, parse}
use Rattle.image.specs.Encode.{drawing_size, encode}
use Rattle.refusal.specs.declared.Refusal.{Refusal}
use Rattle.refusal.specs.Refusals.{number}

-- ---- reading

-- what reading an image answers: the number of a refusal, or 0 and the sketch
pub record ImageRead : Type 0 where
  pub sketch : Sketch
  pub refusal : ℕ

-- beside a refusal stands the empty sketch
abbrev pub empty_sketch : Sketch
empty_sketch = record { next = 1; npoints = 0; ncurves = 0; nrelations = 0; points = []; curves = []; relations = [] }

abbrev pub read_of : Result Sketch Refusal → ImageRead
read_of (Ok sk) = record { sketch = sk; refusal = 0 }
read_of (Err r) = record { sketch = empty_sketch; refusal = number r }

-- what the reader's answer stands for
abbrev pub outcome : ImageRead → ParseResult
outcome r = result_of r.refusal (view r.sketch)

abbrev pub empty_drawing : Drawing
empty_drawing = record { next = 1; points = []; curves = []; relations = [] }

-- the drawing of a result; beside a refusal stands the empty one
abbrev pub drawing_in : ParseResult → Drawing
drawing_in (refused k) = empty_drawing
drawing_in (accepted d) = d

-- the answer is what the bytes are read as, with its drawing, and the sketch in it passes the test, refused or not
pub record ReadAnswer (s : List ℕ) (r : ImageRead) : Type 0 where
  pub result_is : outcome r ≡ parse s
  pub drawing_is : view r.sketch ≡ drawing_in (parse s)
  pub sound : sketch_fault r.sketch ≡ 0

-- ---- writing: a sketch that no image gives is refused as its image would be, then a buffer that is too short by 25

abbrev pub write_fault : Sketch → ℕ → ℕ
write_fault s room = guard_number (eqb (sketch_fault s) 0) (sketch_fault s) (guard_number (leb (drawing_size (view s)) room) 25 0)

-- the number, and the buffer afterwards: the image at its front and the rest as it was, or all as it was
pub record ImageWritten (s : Sketch) (before later : List ℕ) (r : ℕ) : Type 0 where
  pub number : r ≡ write_fault s (length before)
  pub buffer : later ≡ ite (eqb (write_fault s (length before)) 0) (over before 0 (encode (view s))) before
