-- A sketch written and read again is the same sketch. Definitions only.
use Rattle.std.specs.Prelude.{ℕ, ◌≡◌, List, length}
use Rattle.sketch.specs.Drawing.{view}
use Rattle.sketch.specs.declared.Sketch.{Sketch}
use Rattle.image.specs.Image.{result_of}
use Rattle.sketch_image.specs.SketchImage.{ImageRead, outcome, drawing_in, write_fault, ImageWritten}

-- the writer's refusal, with the empty drawing, or the sketch's own drawing; and the buffer as the writer leaves it
pub record ReadBack (s : Sketch) (before later : List ℕ) (r : ImageRead) : Type 0 where
  pub same : outcome r ≡ result_of (write_fault s (length before)) (view s)
  pub drawing_is : view r.sketch ≡ drawing_in (result_of (write_fault s (length before)) (view s))
  pub written : ImageWritten s before later r.refusal
