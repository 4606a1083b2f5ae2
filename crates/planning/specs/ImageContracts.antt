-- The contracts of private functions, which nothing outside needs: pins and plans from an image's records.
use Rattle.std.specs.Prelude.{ℕ, ◌≡◌, Bool, not, List}
use Rattle.std.proofs.Math.Option.{Option}
use Rattle.geom.specs.declared.Vec2.{Vec2}
use Rattle.shape.specs.declared.Shape.{Shape}
use Rattle.sketch.specs.declared.Point.{Point}
use Rattle.sketch.specs.declared.Curve.{Curve}
use Rattle.sketch_geometry.specs.Geometry.{shape_of}
use Rattle.image.specs.Image.{image_fault, drawing_of}
use Rattle.rows.specs.Rows.{HoldsPoints}
use Rattle.cuts.specs.declared.Cut.{Cut}
use Rattle.cuts.specs.Bracket.{bracket}
use Rattle.edit_plan.specs.declared.Pin.{Pin}
use Rattle.edit_plan.specs.declared.PinnedPoint.{PinnedPoint}
use Rattle.edit_plan.specs.declared.Plan.{Plan}
use Rattle.planning.specs.Planning.{PlanResult, cuts_of, param_of_pick, pin_to, pinned_point_of, trim_plan, split_full, no_freeform, trim_curve, split_curve}

abbrev pub PinToIn : List ℕ → ℕ → Option (ℕ × ℕ) → Vec2 → Pin → Type 0
PinToIn points by ends q r = (ps : List Point) → HoldsPoints ps points → r ≡ pin_to ps q by ends

abbrev pub FreeformIn : List ℕ → Bool → Type 0
FreeformIn s r = image_fault s ≡ 0 → not r ≡ no_freeform (drawing_of s)

abbrev pub PinnedPointIn : List ℕ → Shape → Cut → PinnedPoint → Type 0
PinnedPointIn s sh k r = image_fault s ≡ 0 → r ≡ pinned_point_of (drawing_of s) sh k

abbrev pub TrimPlanIn : List ℕ → ℕ → Shape → Vec2 → Plan → Type 0
TrimPlanIn s id sh p r = image_fault s ≡ 0 → r ≡ trim_plan (drawing_of s) id sh p

abbrev pub SplitFullIn : List ℕ → ℕ → Shape → Vec2 → PlanResult → Type 0
SplitFullIn s id sh p r = image_fault s ≡ 0 → r ≡ split_full sh (bracket sh (param_of_pick sh p) (cuts_of (drawing_of s) id sh))

-- the plan of a trim, or of a split, of the curve c, picked at p
abbrev pub TrimsIn : List ℕ → Curve → Vec2 → PlanResult → Type 0
TrimsIn s c p r = image_fault s ≡ 0 → r ≡ trim_curve (drawing_of s) p c (shape_of (drawing_of s).points c.kind)

abbrev pub SplitsIn : List ℕ → Curve → Vec2 → PlanResult → Type 0
SplitsIn s c p r = image_fault s ≡ 0 → r ≡ split_curve (drawing_of s) p c (shape_of (drawing_of s).points c.kind)
