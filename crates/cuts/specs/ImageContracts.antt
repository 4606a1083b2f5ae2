-- The contracts of private functions, which nothing outside needs: the cuts of the first n curves of an image, without the one with an id.
use Rattle.std.specs.Prelude.{ℕ, ◌≤◌, ◌≡◌, List, length, take, Float}
use Rattle.shape.specs.declared.Shape.{Shape}
use Rattle.image.specs.Image.{image_fault, drawing_of}
use Rattle.edit_plan.specs.Tables.{others}
use Rattle.cuts.specs.declared.Cut.{Cut}
use Rattle.cuts.specs.declared.Neighbours.{Neighbours}
use Rattle.cuts.specs.Cuts.{cut_points, cutters_of}
use Rattle.cuts.specs.Bracket.{bracket, neighbours}

abbrev pub first_cuts : List ℕ → ℕ → Shape → ℕ → List Cut
first_cuts s n sh id = cut_points sh (cutters_of (drawing_of s).points (others id (take n (drawing_of s).curves)))

abbrev pub CutsOfFirst : List ℕ → ℕ → Shape → ℕ → List Cut → Type 0
CutsOfFirst s n sh id r = image_fault s ≡ 0 → n ≤ length (drawing_of s).curves → r ≡ first_cuts s n sh id

abbrev pub BracketOfFirst : List ℕ → ℕ → Shape → Float → ℕ → Neighbours → Type 0
BracketOfFirst s n sh tq id r = image_fault s ≡ 0 → n ≤ length (drawing_of s).curves → neighbours r ≡ bracket sh tq (first_cuts s n sh id)
