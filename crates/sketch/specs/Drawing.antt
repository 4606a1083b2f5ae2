-- A drawing: what an image holds, as lists. What it names, and what it is looked up by.
use Rattle.std.specs.Prelude.{ℕ, suc, List, [], ◌∷◌, map, take, eqb}
use Rattle.std.proofs.Math.Option.{Option, some, none}
use Rattle.sketch.specs.Lists.{ite}
use Rattle.sketch.specs.declared.Point.{Point}
use Rattle.sketch.specs.declared.Curve.{Curve}
use Rattle.sketch.specs.declared.CurveKind.{CurveKind}
use Rattle.sketch.specs.declared.CurveKind.TheVariants.{Line, Arc, Circle, Bezier, Conic}
use Rattle.sketch.specs.declared.Relation.{Relation}
use Rattle.sketch.specs.declared.Relation.TheVariants.{Coincident, PointOnCurve, Collinear, Equal, Length, Distance, Midpoint, ArcLength, ArcSweep}
use Rattle.sketch.specs.declared.Sketch.{Sketch}

pub record Drawing : Type 0 where
  pub next : ℕ
  pub points : List Point
  pub curves : List Curve
  pub relations : List Relation

-- what of a sketch counts: the entries before each table's count
abbrev pub view : Sketch → Drawing
view s =
    record {
      next = s.next;
      points = take s.npoints s.points;
      curves = take s.ncurves s.curves;
      relations = map (λ r. r.relation) (take s.nrelations s.relations);
    }

-- the slots beside a kind that keeps its points itself
abbrev pub no_slots : List ℕ
no_slots = 0 ∷ 0 ∷ 0 ∷ 0 ∷ 0 ∷ 0 ∷ 0 ∷ 0 ∷ []

-- how many bytes an id has in images and messages
abbrev pub id_size : ℕ
id_size = 4

-- how many entries each table may hold, and the largest next id
pub record Limits : Type 0 where
  pub points : ℕ
  pub curves : ℕ
  pub relations : ℕ
  pub ids : ℕ

abbrev pub limits : Limits
limits = record { points = 512; curves = 128; relations = 256; ids = 4294967295 }

abbrev pub point_ids : List Point → List ℕ
point_ids ps = map (λ p. p.id) ps

abbrev pub curve_ids : List Curve → List ℕ
curve_ids cs = map (λ c. c.id) cs

-- the curve with an id
unfoldable pub curve_in : List Curve → ℕ → Option Curve
curve_in [] i = none
curve_in (c ∷ cs) i = ite (eqb i c.id) (some c) (curve_in cs i)

-- the points that a curve uses, in order
unfoldable pub uses_of : CurveKind → List ℕ → List ℕ
uses_of (Line a b) s = a ∷ b ∷ []
uses_of (Arc c a b) s = c ∷ a ∷ b ∷ []
uses_of (Circle c r) s = c ∷ []
uses_of (Bezier n) s = take (suc n) s
uses_of (Conic a p b rho) s = a ∷ p ∷ b ∷ []

-- the points that a relation names
unfoldable pub points_of : Relation → List ℕ
points_of (Coincident p q) = p ∷ q ∷ []
points_of (PointOnCurve p c) = p ∷ []
points_of (Collinear a b) = []
points_of (Equal a b) = []
points_of (Length l v) = []
points_of (Distance p q v) = p ∷ q ∷ []
points_of (Midpoint p l) = p ∷ []
points_of (ArcLength c v) = []
points_of (ArcSweep c v) = []
