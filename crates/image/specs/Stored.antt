-- Values that the types of a sketch can hold: ids, binary64 floats, a degree of one byte, eight slots.
use Rattle.std.specs.Prelude.{ℕ, ◌^◌, ◌<◌, ◌≡◌, List, [], ◌∷◌, length, T, Float}
use Rattle.std.specs.Float.Ieee.{fits}
use Rattle.std.specs.Float.{binary64}
use Rattle.sketch.specs.Drawing.{Drawing, no_slots, id_size}
use Rattle.sketch.specs.Valid.{in_slots}
use Rattle.sketch.specs.declared.Point.{Point}
use Rattle.sketch.specs.declared.Curve.{Curve}
use Rattle.sketch.specs.declared.CurveKind.{CurveKind}
use Rattle.sketch.specs.declared.CurveKind.TheVariants.{Line, Arc, Circle, Bezier, Conic}
use Rattle.sketch.specs.declared.Relation.{Relation}
use Rattle.sketch.specs.declared.Relation.TheVariants.{Coincident, PointOnCurve, Collinear, Equal, Length, Distance, Midpoint, ArcLength, ArcSweep}

abbrev pub Each : {A : Type 0} → (A → Type 0) → List A → Type 0
Each P [] = Unit {0}
Each P (a ∷ l) = P a × Each P l

abbrev pub Id : ℕ → Type 0
Id i = i < 256 ^ id_size

abbrev pub Binary64 : Float → Type 0
Binary64 x = T (fits binary64 x)

pub record StoredPoint (p : Point) : Type 0 where
  pub id_fits : Id p.id
  pub x_fits : Binary64 p.x
  pub y_fits : Binary64 p.y

unfoldable pub StoredKind : CurveKind → Type 0
StoredKind (Line a b) = Id a × Id b
StoredKind (Arc c a b) = Id c × Id a × Id b
StoredKind (Circle c r) = Id c × Binary64 r
StoredKind (Bezier n) = n < 256
StoredKind (Conic a p b rho) = Id a × Id p × Id b × Binary64 rho

-- a kind that keeps no slots has zeros beside it
pub record StoredCurve (c : Curve) : Type 0 where
  pub id_fits : Id c.id
  pub kind_fits : StoredKind c.kind
  pub eight : length c.slots ≡ 8
  pub slots_fit : Each Id c.slots
  pub beside : in_slots c.kind ≡ 0 → c.slots ≡ no_slots

unfoldable pub StoredRelation : Relation → Type 0
StoredRelation (Coincident p q) = Id p × Id q
StoredRelation (PointOnCurve p c) = Id p × Id c
StoredRelation (Collinear a b) = Id a × Id b
StoredRelation (Equal a b) = Id a × Id b
StoredRelation (Length l v) = Id l × Binary64 v
StoredRelation (Distance p q v) = Id p × Id q × Binary64 v
StoredRelation (Midpoint p l) = Id p × Id l
StoredRelation (ArcLength c v) = Id c × Binary64 v
StoredRelation (ArcSweep c v) = Id c × Binary64 v

pub record Stored (d : Drawing) : Type 0 where
  pub next_fits : Id d.next
  pub points_count : length d.points < 2 ^ 16
  pub curves_count : length d.curves < 2 ^ 16
  pub relations_count : length d.relations < 2 ^ 16
  pub points_fit : Each StoredPoint d.points
  pub curves_fit : Each StoredCurve d.curves
  pub relations_fit : Each StoredRelation d.relations
