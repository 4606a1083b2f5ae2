-- What the definitions come to in the arms of the code's matches that bind nothing. Assumes nothing.
use mathlib.Core.Path.{◌≡◌, refl}
use mathlib.Core.Bool.{Bool, true, false}
use mathlib.Core.List.{[], ◌∷◌}
use mathlib.Core.Option.{Option}
use Prim.Native.Nat.{ℕ}
use lib.Ieee.{Float}
use Rattle.geom.specs.Plane.{origin}
use Rattle.geom.specs.declared.Vec2.{Vec2}
use Rattle.sketch.specs.declared.Curve.{Curve}
use Rattle.sketch.specs.declared.CurveKind.{CurveKind}
use Rattle.sketch.specs.declared.CurveKind.TheVariants.{Line, Arc, Circle, Bezier, Conic}
use Rattle.sketch.specs.declared.Relation.{Relation}
use Rattle.sketch.specs.declared.Relation.TheVariants.{Coincident, PointOnCurve, Collinear, Equal, Length, Distance, Midpoint, ArcLength, ArcSweep}
use Rattle.sketch.specs.Lists.{every}
use Rattle.sketch.specs.Lookup.{among}
use Rattle.sketch.specs.Drawing.{points_of}
use Rattle.edit_plan.specs.declared.PinnedPoint.{PinnedPoint}
use Rattle.edit_plan.specs.declared.Plan.{Plan}
use Rattle.edit_plan.specs.declared.Plan.TheVariants.{Whole, Cut, CutTwo, Divide, DivideTwo, Move}
use Rattle.edit_plan.specs.Tables.{curves_of}
use Rattle.edit_plan.specs.Steps.{is_line, release_relation, tie_relation}
use Rattle.edit_plan.specs.Changes.{is_circle, is_whole, start_of, end_of, piece_of, no_orphans, own_points, candidates_for, no_halves, divide_once, change_for}
use Rattle.edit_plan.specs.Room.{mk_additions, additions_for}

-- What the last arm of a match knows of the value: that it is none of the variants of the arms before, for each of these its fact below.

-- ---- kinds

abbrev NotLine : CurveKind → Type 0
NotLine k = (a b : ℕ) → k ≡ Line a b → ⊥

abbrev NotArc : CurveKind → Type 0
NotArc k = (c a b : ℕ) → k ≡ Arc c a b → ⊥

abbrev NotCircle : CurveKind → Type 0
NotCircle k = (c : ℕ) (r : Float) → k ≡ Circle c r → ⊥

pub no_line : (k : CurveKind) → NotLine k → false ≡ is_line k
no_line (Line a b) h = absurd (h a b refl)
no_line (Arc c a b) h = refl
no_line (Circle c r) h = refl
no_line (Bezier n) h = refl
no_line (Conic a p b rho) h = refl

pub no_tie : (k : CurveKind) (a b : ℕ) → NotLine k → Equal a b ≡ tie_relation (is_line k) a b
no_tie (Line x y) a b h = absurd (h x y refl)
no_tie (Arc c x y) a b h = refl
no_tie (Circle c r) a b h = refl
no_tie (Bezier n) a b h = refl
no_tie (Conic x p y rho) a b h = refl

pub no_circle : (k : CurveKind) → NotCircle k → false ≡ is_circle k
unfolding is_circle
no_circle (Line a b) h = refl
no_circle (Arc c a b) h = refl
no_circle (Circle c r) h = absurd (h c r refl)
no_circle (Bezier n) h = refl
no_circle (Conic a p b rho) h = refl

pub no_start : (k : CurveKind) → NotLine k → NotArc k → 0 ≡ start_of k
unfolding start_of
no_start (Line a b) h1 h2 = absurd (h1 a b refl)
no_start (Arc c a b) h1 h2 = absurd (h2 c a b refl)
no_start (Circle c r) h1 h2 = refl
no_start (Bezier n) h1 h2 = refl
no_start (Conic a p b rho) h1 h2 = refl

pub no_end : (k : CurveKind) → NotLine k → NotArc k → 0 ≡ end_of k
unfolding end_of
no_end (Line a b) h1 h2 = absurd (h1 a b refl)
no_end (Arc c a b) h1 h2 = absurd (h2 c a b refl)
no_end (Circle c r) h1 h2 = refl
no_end (Bezier n) h1 h2 = refl
no_end (Conic a p b rho) h1 h2 = refl

pub no_piece : (k : CurveKind) (p q : ℕ) → NotLine k → NotArc k → NotCircle k → k ≡ piece_of k p q
unfolding piece_of
no_piece (Line a b) p q h1 h2 h3 = absurd (h1 a b refl)
no_piece (Arc c a b) p q h1 h2 h3 = absurd (h2 c a b refl)
no_piece (Circle c r) p q h1 h2 h3 = absurd (h3 c r refl)
no_piece (Bezier n) p q h1 h2 h3 = refl
no_piece (Conic a u b rho) p q h1 h2 h3 = refl

pub no_own : (k : CurveKind) → NotLine k → NotArc k → NotCircle k → no_orphans ≡ own_points k
unfolding own_points
no_own (Line a b) h1 h2 h3 = absurd (h1 a b refl)
no_own (Arc c a b) h1 h2 h3 = absurd (h2 c a b refl)
no_own (Circle c r) h1 h2 h3 = absurd (h3 c r refl)
no_own (Bezier n) h1 h2 h3 = refl
no_own (Conic a u b rho) h1 h2 h3 = refl

-- ---- plans

abbrev NotWhole : Plan → Type 0
NotWhole p = p ≡ Whole → ⊥

abbrev NotCut : Plan → Type 0
NotCut p = (w : PinnedPoint) (b : Bool) → p ≡ Cut w b → ⊥

abbrev NotCutTwo : Plan → Type 0
NotCutTwo p = (w v : PinnedPoint) (b : Bool) → p ≡ CutTwo w v b → ⊥

abbrev NotDivide : Plan → Type 0
NotDivide p = (v : Vec2) → p ≡ Divide v → ⊥

abbrev NotDivideTwo : Plan → Type 0
NotDivideTwo p = (v u : Vec2) → p ≡ DivideTwo v u → ⊥

pub not_whole_lem : (p : Plan) → NotWhole p → false ≡ is_whole p
unfolding is_whole
not_whole_lem Whole h = absurd (h refl)
not_whole_lem (Cut w b) h = refl
not_whole_lem (CutTwo w v b) h = refl
not_whole_lem (Divide v) h = refl
not_whole_lem (DivideTwo v u) h = refl
not_whole_lem (Move b v w) h = refl

pub no_candidates : (k : CurveKind) (p : Plan) → NotWhole p → NotCut p → no_orphans ≡ candidates_for k p
unfolding candidates_for
no_candidates k Whole h1 h2 = absurd (h1 refl)
no_candidates k (Cut w b) h1 h2 = absurd (h2 w b refl)
no_candidates k (CutTwo w v b) h1 h2 = refl
no_candidates k (Divide v) h1 h2 = refl
no_candidates k (DivideTwo v u) h1 h2 = refl
no_candidates k (Move b v w) h1 h2 = refl

pub no_demand : (k : CurveKind) (p : Plan) → NotCut p → NotCutTwo p → NotDivide p → NotDivideTwo p → mk_additions origin origin 0 0 0 ≡ additions_for k p
unfolding additions_for
no_demand k Whole h1 h2 h3 h4 = refl
no_demand k (Cut w b) h1 h2 h3 h4 = absurd (h1 w b refl)
no_demand k (CutTwo w v b) h1 h2 h3 h4 = absurd (h2 w v b refl)
no_demand k (Divide v) h1 h2 h3 h4 = absurd (h3 v refl)
no_demand k (DivideTwo v u) h1 h2 h3 h4 = absurd (h4 v u refl)
no_demand k (Move b v w) h1 h2 h3 h4 = refl

pub no_change : (c : Curve) (p : Plan) (i : ℕ) → NotCut p → NotCutTwo p → NotDivide p → NotDivideTwo p → divide_once c (no_halves i) ≡ change_for c p i
unfolding change_for
no_change c Whole i h1 h2 h3 h4 = refl
no_change c (Cut w b) i h1 h2 h3 h4 = absurd (h1 w b refl)
no_change c (CutTwo w v b) i h1 h2 h3 h4 = absurd (h2 w v b refl)
no_change c (Divide v) i h1 h2 h3 h4 = absurd (h3 v refl)
no_change c (DivideTwo v u) i h1 h2 h3 h4 = absurd (h4 v u refl)
no_change c (Move b v w) i h1 h2 h3 h4 = refl

-- ---- relations

abbrev NotCoincident : Relation → Type 0
NotCoincident v = (p q : ℕ) → v ≡ Coincident p q → ⊥

abbrev NotPointOnCurve : Relation → Type 0
NotPointOnCurve v = (p c : ℕ) → v ≡ PointOnCurve p c → ⊥

abbrev NotCollinear : Relation → Type 0
NotCollinear v = (a b : ℕ) → v ≡ Collinear a b → ⊥

abbrev NotEqual : Relation → Type 0
NotEqual v = (a b : ℕ) → v ≡ Equal a b → ⊥

abbrev NotLength : Relation → Type 0
NotLength v = (l : ℕ) (x : Float) → v ≡ Length l x → ⊥

abbrev NotDistance : Relation → Type 0
NotDistance v = (p q : ℕ) (x : Float) → v ≡ Distance p q x → ⊥

abbrev NotMidpoint : Relation → Type 0
NotMidpoint v = (p l : ℕ) → v ≡ Midpoint p l → ⊥

abbrev NotArcLength : Relation → Type 0
NotArcLength v = (c : ℕ) (x : Float) → v ≡ ArcLength c x → ⊥

abbrev NotArcSweep : Relation → Type 0
NotArcSweep v = (c : ℕ) (x : Float) → v ≡ ArcSweep c x → ⊥

pub not_released : (t : ℕ) (e : Option (ℕ × ℕ)) (v : Relation) → NotEqual v → NotLength v → NotMidpoint v → NotArcLength v → NotArcSweep v → v ∷ [] ≡ release_relation t e v
unfolding release_relation
not_released t e (Coincident a b) h1 h2 h3 h4 h5 = refl
not_released t e (PointOnCurve a b) h1 h2 h3 h4 h5 = refl
not_released t e (Collinear a b) h1 h2 h3 h4 h5 = refl
not_released t e (Equal a b) h1 h2 h3 h4 h5 = absurd (h1 a b refl)
not_released t e (Length c x) h1 h2 h3 h4 h5 = absurd (h2 c x refl)
not_released t e (Distance a b x) h1 h2 h3 h4 h5 = refl
not_released t e (Midpoint a c) h1 h2 h3 h4 h5 = absurd (h3 a c refl)
not_released t e (ArcLength c x) h1 h2 h3 h4 h5 = absurd (h4 c x refl)
not_released t e (ArcSweep c x) h1 h2 h3 h4 h5 = absurd (h5 c x refl)

pub no_curve_named : (g : ℕ) (v : Relation) → NotPointOnCurve v → NotCollinear v → NotEqual v → NotLength v → NotMidpoint v → NotArcLength v → NotArcSweep v → false ≡ among g (curves_of v)
unfolding curves_of
no_curve_named g (Coincident a b) h1 h2 h3 h4 h5 h6 h7 = refl
no_curve_named g (PointOnCurve a b) h1 h2 h3 h4 h5 h6 h7 = absurd (h1 a b refl)
no_curve_named g (Collinear a b) h1 h2 h3 h4 h5 h6 h7 = absurd (h2 a b refl)
no_curve_named g (Equal a b) h1 h2 h3 h4 h5 h6 h7 = absurd (h3 a b refl)
no_curve_named g (Length c x) h1 h2 h3 h4 h5 h6 h7 = absurd (h4 c x refl)
no_curve_named g (Distance a b x) h1 h2 h3 h4 h5 h6 h7 = refl
no_curve_named g (Midpoint a c) h1 h2 h3 h4 h5 h6 h7 = absurd (h5 a c refl)
no_curve_named g (ArcLength c x) h1 h2 h3 h4 h5 h6 h7 = absurd (h6 c x refl)
no_curve_named g (ArcSweep c x) h1 h2 h3 h4 h5 h6 h7 = absurd (h7 c x refl)

pub no_point_named : (f : ℕ → Bool) (v : Relation) → NotCoincident v → NotPointOnCurve v → NotDistance v → NotMidpoint v → true ≡ every f (points_of v)
unfolding points_of
no_point_named f (Coincident a b) h1 h2 h3 h4 = absurd (h1 a b refl)
no_point_named f (PointOnCurve a b) h1 h2 h3 h4 = absurd (h2 a b refl)
no_point_named f (Collinear a b) h1 h2 h3 h4 = refl
no_point_named f (Equal a b) h1 h2 h3 h4 = refl
no_point_named f (Length c x) h1 h2 h3 h4 = refl
no_point_named f (Distance a b x) h1 h2 h3 h4 = absurd (h3 a b x refl)
no_point_named f (Midpoint a c) h1 h2 h3 h4 = absurd (h4 a c refl)
no_point_named f (ArcLength c x) h1 h2 h3 h4 = refl
no_point_named f (ArcSweep c x) h1 h2 h3 h4 = refl
