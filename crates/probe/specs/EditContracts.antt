-- The contracts of private functions, which nothing outside needs: the report's bytes, and one edit's part of a sum. Definitions only.
use Rattle.std.specs.Prelude.{◌≡◌, ℕ, ◌<◌, ◌≤◌, List, length}
use Rattle.big_endian.specs.Fields.{over}
use Rattle.geom.specs.declared.Vec2.{Vec2}
use Rattle.image.specs.Image.{image_fault, drawing_of, max_image_size}
use Rattle.message.specs.declared.Operation.{Operation}
use Rattle.edit_plan.specs.declared.Removed.{Removed}
use Rattle.probe.specs.Edits.{report, repeated, edit_adds}

-- 12, or all there is
pub record ReportEnd (room r : ℕ) : Type 0 where
  pub within : r ≤ room
  pub whole : 12 ≤ room → r ≡ 12
  pub short : room < 12 → r ≡ room

abbrev pub ReportPut : Removed → List ℕ → List ℕ → Type 0
ReportPut gone before after = 12 ≤ length before → after ≡ over before 0 (report gone)

-- of a good image, with room for every image
abbrev pub EditAdds : Operation → List ℕ → ℕ → Vec2 → List ℕ → ℕ → Type 0
EditAdds op s t p before r = image_fault s ≡ 0 → max_image_size ≤ length before → r ≡ edit_adds op (drawing_of s) t p

abbrev pub EditsSum : Operation → List ℕ → ℕ → Vec2 → ℕ → ℕ → Type 0
EditsSum op s t p times r = image_fault s ≡ 0 → r ≡ repeated times (edit_adds op (drawing_of s) t p)
