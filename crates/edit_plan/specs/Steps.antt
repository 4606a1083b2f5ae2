-- The steps of a cut, each on the tables alone: release_extent, split_at, pin, tie, the swap and the removal. Definitions only.
use Rattle.std.specs.Prelude.{ℕ, Bool, true, false, ◌&&◌, ◌||◌, List, [], ◌∷◌, eqb, Float}
use Rattle.std.proofs.Math.Option.{Option, some, none}
use Rattle.geom.specs.declared.Vec2.{Vec2}
use Rattle.sketch.specs.declared.Curve.{Curve}
use Rattle.sketch.specs.declared.CurveKind.{CurveKind}
use Rattle.sketch.specs.declared.CurveKind.TheVariants.{Line, Arc, Circle, Bezier, Conic}
use Rattle.sketch.specs.declared.Relation.{Relation}
use Rattle.sketch.specs.declared.Relation.TheVariants.{Coincident, PointOnCurve, Collinear, Equal, Length, Distance, Midpoint, ArcLength, ArcSweep}
use Rattle.sketch.specs.Lists.{ite, concat_map}
use Rattle.sketch.specs.Drawing.{Drawing, Limits, curve_in}
use Rattle.edit_plan.specs.declared.Pin.{Pin}
use Rattle.edit_plan.specs.declared.Pin.TheVariants.{On, At}
use Rattle.edit_plan.specs.declared.PinnedPoint.{PinnedPoint}
use Rattle.edit_plan.specs.declared.Removed.{Removed}
use Rattle.edit_plan.specs.Outcome.{Outcome, refused, accepted, ◌then◌}
use Rattle.edit_plan.specs.Tables.{add_point, add_curve, add_relation, set_kind, remove}

-- ---- ends

-- the two ends of a line or an arc
unfoldable pub ends_of : CurveKind → Option (ℕ × ℕ)
ends_of (Line a b) = some (a, b)
ends_of (Arc c a b) = some (a, b)
ends_of (Circle c r) = none
ends_of (Bezier n) = none
ends_of (Conic a p b rho) = none

unfoldable pub ends_at : Option Curve → Option (ℕ × ℕ)
ends_at none = none
ends_at (some c) = ends_of c.kind

-- the two ends of a line
abbrev pub line_ends : CurveKind → Option (ℕ × ℕ)
line_ends (Line a b) = some (a, b)
line_ends (Arc c a b) = none
line_ends (Circle c r) = none
line_ends (Bezier n) = none
line_ends (Conic a p b rho) = none

abbrev pub is_some : {A : Type 0} → Option A → Bool
is_some none = false
is_some (some a) = true

abbrev pub is_line : CurveKind → Bool
is_line k = is_some (line_ends k)

-- ---- release_extent: what measured the whole of a curve that is cut

abbrev pub drop_if : Bool → Relation → List Relation
drop_if b r = ite b [] (r ∷ [])

-- a line's length becomes the distance of its old ends
unfoldable pub measured : Option (ℕ × ℕ) → Float → List Relation
measured none v = []
measured (some e) v = Distance e.0 e.1 v ∷ []

-- what is left of a relation where the curve t is cut, a line with the ends e or no line: a line's equal length, its midpoint, an arc's length and sweep go
unfoldable pub release_relation : ℕ → Option (ℕ × ℕ) → Relation → List Relation
release_relation t e (Coincident p q) = Coincident p q ∷ []
release_relation t e (PointOnCurve p c) = PointOnCurve p c ∷ []
release_relation t e (Collinear a b) = Collinear a b ∷ []
release_relation t e (Equal a b) = drop_if (is_some e && (eqb a t || eqb b t)) (Equal a b)
release_relation t e (Length l v) = ite (eqb l t) (measured e v) (Length l v ∷ [])
release_relation t e (Distance p q v) = Distance p q v ∷ []
release_relation t e (Midpoint p l) = drop_if (eqb l t) (Midpoint p l)
release_relation t e (ArcLength c v) = drop_if (eqb c t) (ArcLength c v)
release_relation t e (ArcSweep c v) = drop_if (eqb c t) (ArcSweep c v)

abbrev pub release_extent : ℕ → CurveKind → Drawing → Drawing
release_extent t k d =
    record { next = d.next; points = d.points; curves = d.curves; relations = concat_map (release_relation t (line_ends k)) d.relations }

-- ---- split_at: new points, then pieces from point to point

abbrev pub links : (ℕ → ℕ → CurveKind) → ℕ → List ℕ → ℕ → List CurveKind
links f a [] b = f a b ∷ []
links f a (p ∷ ps) b = f a p ∷ links f p ps b

-- a circle's pieces are arcs, the first from the first point, the last back to it; it takes two points, and freeform curves are not cut
unfoldable pub pieces_of : CurveKind → List ℕ → List CurveKind
pieces_of (Line a b) ps = links Line a ps b
pieces_of (Arc c a b) ps = links (Arc c) a ps b
pieces_of (Circle c r) [] = []
pieces_of (Circle c r) (p ∷ []) = []
pieces_of (Circle c r) (p ∷ q ∷ ps) = links (Arc c) p (q ∷ ps) p
pieces_of (Bezier n) ps = []
pieces_of (Conic a p b rho) ps = []

abbrev pub add_points : Limits → Drawing → List Vec2 → Outcome Drawing (List ℕ)
add_points m d [] = accepted d []
add_points m d (v ∷ vs) = add_point m d v then (λ d' p. add_points m d' vs then (λ d'' ps. accepted d'' (p ∷ ps)))

abbrev pub add_curves : Limits → Drawing → List CurveKind → Bool → Outcome Drawing (List ℕ)
add_curves m d [] b = accepted d []
add_curves m d (k ∷ ks) b = add_curve m d k b then (λ d' i. add_curves m d' ks b then (λ d'' is. accepted d'' (i ∷ is)))

-- the new points, and the pieces after the first
pub record Parts : Type 0 where
  pub points : List ℕ
  pub pieces : List ℕ

-- the first piece keeps the curve's id
unfoldable pub add_pieces : Limits → Drawing → ℕ → Bool → List ℕ → List CurveKind → Outcome Drawing Parts
add_pieces m d t b ps [] = refused 12
add_pieces m d t b ps (k ∷ ks) = add_curves m (set_kind t k d) ks b then (λ d' is. accepted d' (record { points = ps; pieces = is }))

abbrev pub split_at : Limits → Drawing → Curve → List Vec2 → Outcome Drawing Parts
split_at m d c vs = add_points m d vs then (λ d' ps. add_pieces m d' c.id c.construction ps (pieces_of c.kind ps))

-- ---- pin: the end p to the curve that cut there, or to the end of it that lies there, unless that is p

unfoldable pub pin : Limits → Drawing → ℕ → Pin → Outcome Drawing (Unit {0})
pin m d p (On c) = add_relation m d (PointOnCurve p c)
pin m d p (At e) = ite (eqb e p) (accepted d tt) (add_relation m d (Coincident p e))

abbrev pub pin_all : Limits → Drawing → List ℕ → List PinnedPoint → Outcome Drawing (Unit {0})
pin_all m d [] ws = accepted d tt
pin_all m d (p ∷ ps) [] = accepted d tt
pin_all m d (p ∷ ps) (w ∷ ws) = pin m d p w.pin then (λ d' u. pin_all m d' ps ws)

-- ---- tie: neighbouring pieces, lines collinear and arcs of one radius

abbrev pub line_at : Option Curve → Bool
line_at none = false
line_at (some c) = is_line c.kind

abbrev pub tie_relation : Bool → ℕ → ℕ → Relation
tie_relation line a b = ite line (Collinear a b) (Equal a b)

abbrev pub tie : Limits → Drawing → ℕ → List ℕ → Outcome Drawing (Unit {0})
tie m d a [] = accepted d tt
tie m d a (b ∷ bs) = add_relation m d (tie_relation (line_at (curve_in d.curves a)) a b) then (λ d' u. tie m d' b bs)

-- ---- the swap, the removal and the report

unfoldable pub swap_kinds : ℕ → ℕ → Option Curve → Option Curve → Drawing → Drawing
swap_kinds a b none o d = d
swap_kinds a b (some x) none d = d
swap_kinds a b (some x) (some y) d = set_kind b x.kind (set_kind a y.kind d)

-- the curves a and b exchange their kinds
abbrev pub swap : ℕ → ℕ → Drawing → Drawing
swap a b d = swap_kinds a b (curve_in d.curves a) (curve_in d.curves b) d

-- a removed curve's id with its two ends; a circle has none
unfoldable pub reported : ℕ → Option (ℕ × ℕ) → Removed
reported g none = record { curve = g; from = 0; to = 0 }
reported g (some e) = record { curve = g; from = e.0; to = e.1 }

-- the report is three zeros where no curve is removed
abbrev pub nothing : Removed
nothing = record { curve = 0; from = 0; to = 0 }

abbrev pub removal : ℕ → Drawing → Outcome Drawing Removed
removal g d = accepted (remove g d) (reported g (ends_at (curve_in d.curves g)))
