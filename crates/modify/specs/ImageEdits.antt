-- An edit of an image, written to a lent buffer: the outcome, and all that is answered and left. Definitions only.
use Rattle.std.specs.Prelude.{ℕ, ◌≡◌, List, length, eqb}
use Rattle.geom.specs.declared.Vec2.{Vec2}
use Rattle.sketch.specs.Drawing.{Drawing, limits}
use Rattle.image.specs.Image as I
use Rattle.image.specs.Encode.{encode, drawing_size}
use Rattle.message.specs.declared.Operation.{Operation}
use Rattle.edit_plan.specs.declared.Removed.{Removed}
use Rattle.edit_plan.specs.Outcome.{Outcome, accepted, guard}
use Rattle.extend.specs.Answers.{ImageAnswer}
use Rattle.extend.specs.ImageExtend.{if_fits, OutcomeWritten}
use Rattle.modify.specs.Edits.{edit_of, edit_place}

-- an image's refusal comes before all else
abbrev pub edit_image : Operation → List ℕ → ℕ → Vec2 → Outcome Drawing Removed
edit_image op s t p = guard (eqb (I.image_fault s) 0) (I.image_fault s) (edit_of op limits (I.drawing_of s) t p)

-- of any bytes, every edit is answered so
pub record EditWritten (op : Operation) (s : List ℕ) (t : ℕ) (p : Vec2) (before after : List ℕ) (r : ImageAnswer) : Type 0 where
  pub written : OutcomeWritten (if_fits (length before) (edit_image op s t p)) before after r
  -- a new image is as long as it says, and is read as the new drawing
  pub sound : (d : Drawing) (removed : Removed) → edit_image op s t p ≡ accepted d removed → (length (encode d) ≡ drawing_size d) × (I.parse (encode d) ≡ I.accepted d)
  -- the place that comes with the number
  pub place : r.place ≡ edit_place op (I.drawing_of s) t p r.refusal
