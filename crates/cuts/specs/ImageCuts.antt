-- The cuts around a place on a curve of an image. Definitions only.
use Rattle.std.specs.Prelude.{ℕ, ◌≡◌, List, Float}
use Rattle.shape.specs.declared.Shape.{Shape}
use Rattle.image.specs.Image.{image_fault, drawing_of}
use Rattle.edit_plan.specs.Tables.{others}
use Rattle.cuts.specs.declared.Neighbours.{Neighbours}
use Rattle.cuts.specs.Cuts.{cut_points, cutters_of}
use Rattle.cuts.specs.Bracket.{bracket, neighbours}

-- around tq on the shape sh of the curve with the id
abbrev pub BracketIn : List ℕ → Shape → Float → ℕ → Neighbours → Type 0
BracketIn s sh tq id r = image_fault s ≡ 0 → neighbours r ≡ bracket sh tq (cut_points sh (cutters_of (drawing_of s).points (others id (drawing_of s).curves)))
