-- The plan of a trim or a split, by geometry alone: the points where a curve is cut, the new ends' pins there, and the refusals, in order. Definitions only.
use Rattle.std.specs.Prelude.{ℕ, Bool, true, false, not, ◌&&◌, ◌||◌, cond, List, [], ◌∷◌, length, eqb, Float}
use Rattle.std.proofs.Math.Option.{Option, some, none}
use Rattle.std.specs.Float.Ieee.{lt, le}
use Rattle.float.specs.Numbers.{◌⊕◌, ◌⊖◌, 1e-6, 1e-9}
use Rattle.geom.specs.Plane.{distance}
use Rattle.geom.specs.declared.Vec2.{Vec2}
use Rattle.shape.specs.declared.Shape.{Shape}
use Rattle.shape.specs.Measures.{range, is_full, param, point, project}
use Rattle.sketch.specs.declared.Point.{Point}
use Rattle.sketch.specs.declared.Curve.{Curve}
use Rattle.sketch.specs.Lists.{ite, every, keep}
use Rattle.sketch.specs.Drawing.{Drawing, curve_in}
use Rattle.sketch.specs.Valid.{sort_of}
use Rattle.sketch_geometry.specs.Geometry.{position_of}
use Rattle.cuts.specs.declared.Cut.{Cut}
use Rattle.cuts.specs.Cuts.{cut_points, cutters_of}
use Rattle.cuts.specs.Bracket.{bracket}
use Rattle.edit_plan.specs.declared.Pin.{Pin}
use Rattle.edit_plan.specs.declared.Pin.TheVariants.{On, At}
use Rattle.edit_plan.specs.declared.PinnedPoint.{PinnedPoint}
use Rattle.edit_plan.specs.declared.Plan.{Plan}
use Rattle.edit_plan.specs.declared.Plan.TheVariants as P
use Rattle.edit_plan.specs.Tables.{others}
use Rattle.edit_plan.specs.Steps.{ends_at}
use Rattle.edit_plan.specs.Changes.{is_circle}
use Rattle.refusal.specs.Refusals.{Numbered, Refused, Accepted}

-- what is to be done with the curve that was picked, or the number of a refusal
abbrev pub PlanResult : Type 0
PlanResult = Numbered Plan

-- refused by the number where the test fails
unfoldable pub guard_plan : Bool → ℕ → PlanResult → PlanResult
guard_plan true n c = c
guard_plan false n c = Refused n

-- ---- where it is cut

-- the cuts of the curve c, whose shape is sh, by all others
abbrev pub cuts_of : Drawing → ℕ → Shape → List Cut
cuts_of d c sh = cut_points sh (cutters_of d.points (others c d.curves))

-- where on the curve the pick falls
unfoldable pub param_of_pick : Shape → Vec2 → Float
param_of_pick sh p = param sh (project sh p)

-- ---- pin: the pin of an end that lies at q, where the curve `by` cuts

unfoldable pub near_end : List Point → Vec2 → ℕ → Bool
near_end ps q e = lt (distance (position_of ps e) q) 1e-6

-- an end of that curve nearer than 1e-6, its start before its end; else the curve
unfoldable pub pin_to : List Point → Vec2 → ℕ → Option (ℕ × ℕ) → Pin
pin_to ps q by none = On by
pin_to ps q by (some e) = ite (near_end ps q e.0) (At e.0) (ite (near_end ps q e.1) (At e.1) (On by))

-- ---- trim

-- a cut's place is the point at its parameter
abbrev pub pinned_point_of : Drawing → Shape → Cut → PinnedPoint
pinned_point_of d sh k =
    let q = point sh k.t in
    record { at = q; pin = pin_to d.points q k.by (ends_at (curve_in d.curves k.by)) }

-- tq lies between the first cut and the second
unfoldable pub between : Float → List Cut → Bool
between tq [] = false
between tq (k ∷ []) = false
between tq (k ∷ j ∷ l) = lt k.t tq && lt tq j.t

-- of a full curve the piece between the two cuts is removed, or the other; else the piece with as many cuts before it as lie before tq
unfoldable pub first_goes : Shape → Float → List Cut → Bool
first_goes sh tq cuts = cond (is_full sh) (between tq cuts) (eqb (length (keep (λ k. lt k.t tq) cuts)) 0)

-- nothing cuts it: it is removed whole
unfoldable pub trim_at : Drawing → Shape → Bool → List Cut → Plan
trim_at d sh first [] = P.Whole
trim_at d sh first (k ∷ []) = P.Cut (pinned_point_of d sh k) first
trim_at d sh first (k ∷ j ∷ l) = P.CutTwo (pinned_point_of d sh k) (pinned_point_of d sh j) first

unfoldable pub trim_plan : Drawing → ℕ → Shape → Vec2 → Plan
trim_plan d c sh p =
    let tq = param_of_pick sh p in
    let cuts = bracket sh tq (cuts_of d c sh) in
    trim_at d sh (first_goes sh tq cuts) cuts

-- ---- split: 12 where there is no interior place, or a circle has fewer than two crossings

unfoldable pub split_full : Shape → List Cut → PlanResult
split_full sh [] = Refused 12
split_full sh (k ∷ []) = Refused 12
split_full sh (k ∷ j ∷ l) = Accepted (P.DivideTwo (point sh k.t) (point sh j.t))

-- within 1e-9 of an end, as parameters
unfoldable pub at_end : Shape → Float → Bool
at_end sh t = le t ((range sh).start ⊕ 1e-9) || le ((range sh).end ⊖ 1e-9) t

unfoldable pub split_plan : Drawing → ℕ → Shape → Vec2 → PlanResult
split_plan d c sh p =
    let t = param_of_pick sh p in
    cond (is_full sh) (split_full sh (bracket sh t (cuts_of d c sh)))
    (cond (at_end sh t) (Refused 12) (Accepted (P.Divide (point sh t))))

-- ---- refusals, in order

-- an arc that goes all the way round
unfoldable pub is_full_arc : Curve → Shape → Bool
is_full_arc c sh = is_full sh && not (is_circle c.kind)

-- no curve is a Bézier curve or a conic
unfoldable pub no_freeform : Drawing → Bool
no_freeform d = every (λ c. not (eqb (sort_of c.kind) 3)) d.curves

-- a freeform curve, an infinite line and a full arc are not trimmed (10); nor is any curve beside a freeform one (11)
unfoldable pub trim_curve : Drawing → Vec2 → Curve → Option Shape → PlanResult
trim_curve d p c none = Refused 10
trim_curve d p c (some sh) =
    guard_plan (not (c.infinite || is_full_arc c sh)) 10
    (guard_plan (no_freeform d) 11 (Accepted (trim_plan d c.id sh p)))

-- a freeform curve and a full arc are not split (10); nor is a circle beside a freeform curve (11)
unfoldable pub split_curve : Drawing → Vec2 → Curve → Option Shape → PlanResult
split_curve d p c none = Refused 10
split_curve d p c (some sh) =
    guard_plan (not (is_full_arc c sh)) 10
    (guard_plan (not (is_circle c.kind) || no_freeform d) 11 (split_plan d c.id sh p))
