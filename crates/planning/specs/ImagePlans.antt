-- What is planned straight from an image: the pin of a new end, and the plan of a trim or of a split. Definitions only.
use Rattle.std.specs.Prelude.{ℕ, ◌<◌, ◌≡◌, List, length, get_or}
use Rattle.geom.specs.declared.Vec2.{Vec2}
use Rattle.sketch.specs.declared.Curve.{Curve}
use Rattle.sketch.specs.Blanks.{no_curve}
use Rattle.sketch.specs.Drawing.{curve_in}
use Rattle.sketch_geometry.specs.Geometry.{shape_of}
use Rattle.image.specs.Image.{image_fault, drawing_of}
use Rattle.edit_plan.specs.declared.Pin.{Pin}
use Rattle.edit_plan.specs.Steps.{ends_at}
use Rattle.planning.specs.Planning.{PlanResult, pin_to, trim_curve, split_curve}

-- the pin of an end at q, where the curve `by` cuts
abbrev pub PinIn : List ℕ → ℕ → Vec2 → Pin → Type 0
PinIn s by q r = image_fault s ≡ 0 → r ≡ pin_to (drawing_of s).points q by (ends_at (curve_in (drawing_of s).curves by))

abbrev pub curve_of_place : List ℕ → ℕ → Curve
curve_of_place s k = get_or (drawing_of s).curves k no_curve

-- the plan of a trim, or of a split, of the curve at place k, picked at p
abbrev pub TrimIn : List ℕ → ℕ → Vec2 → PlanResult → Type 0
TrimIn s k p r =
    image_fault s ≡ 0 → k < length (drawing_of s).curves → r ≡ trim_curve (drawing_of s) p (curve_of_place s k) (shape_of (drawing_of s).points (curve_of_place s k).kind)

abbrev pub SplitIn : List ℕ → ℕ → Vec2 → PlanResult → Type 0
SplitIn s k p r =
    image_fault s ≡ 0 → k < length (drawing_of s).curves → r ≡ split_curve (drawing_of s) p (curve_of_place s k) (shape_of (drawing_of s).points (curve_of_place s k).kind)
