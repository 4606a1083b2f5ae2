-- Which relations of a drawing are met (the glossary's term): those that hold within 1e-7. Each operation is rounded once, from left to right. Definitions only.
use Rattle.std.specs.Prelude.{ℕ, suc, Bool, true, ltb, List, [], ◌∷◌, Some, None, Float}
use Rattle.std.specs.Prelude.{Option as Answer}
use Rattle.std.proofs.Math.Option.{Option, some, none}
use Rattle.std.specs.Float.{nan}
use Rattle.std.specs.Float.Ieee.{le}
use Rattle.float.specs.Numbers.{◌⊖◌, ½, 1e-7}
use Rattle.float.specs.Sign.{abs}
use Rattle.geom.specs.Plane.{◌+ᵥ◌, ◌·ᵥ◌, distance}
use Rattle.geom.specs.declared.Vec2.{Vec2}
use Rattle.shape.specs.Measures.{dist}
use Rattle.shape.specs.declared.Shape.{Shape}
use Rattle.shape.specs.declared.Shape.TheVariants as S
use Rattle.sketch.specs.Lists.{ite, every}
use Rattle.sketch.specs.Drawing.{Drawing}
use Rattle.sketch.specs.declared.Point.{Point}
use Rattle.sketch.specs.declared.Curve.{Curve}
use Rattle.sketch.specs.declared.Relation.{Relation}
use Rattle.sketch.specs.declared.Relation.TheVariants.{Coincident, PointOnCurve, Collinear, Equal, Length, Distance, Midpoint, ArcLength, ArcSweep}
use Rattle.sketch_geometry.specs.Geometry.{position_of, nowhere, shape_in}

-- ---- measures

-- a distance counts as none
abbrev pub small : Float → Bool
small d = le d 1e-7

-- two measures count as one
abbrev pub same : Float → Float → Bool
same x y = small (abs (x ⊖ y))

-- two points count as one
abbrev pub close : Vec2 → Vec2 → Bool
close p q = small (distance p q)

-- a point lies on the endless line or the full circle; of a freeform curve nothing is measured
unfoldable pub on : Option Shape → Vec2 → Bool
on none p = true
on (some sh) p = small (dist sh p)

-- a line's length, or a round's radius; a freeform curve has neither, which is a NaN here
unfoldable pub length_or_radius_of : Option Shape → Float
length_or_radius_of none = nan
length_or_radius_of (some (S.Line a b)) = distance a b
length_or_radius_of (some (S.Round c r start sweep)) = r

-- a line's ends
unfoldable pub line_end_points : Option Shape → List Vec2
line_end_points none = []
line_end_points (some (S.Line a b)) = a ∷ b ∷ []
line_end_points (some (S.Round c r start sweep)) = []

-- a line's middle
unfoldable pub line_midpoint : Option Shape → Vec2
line_midpoint none = nowhere
line_midpoint (some (S.Line a b)) = (a +ᵥ b) ·ᵥ ½
line_midpoint (some (S.Round c r start sweep)) = nowhere

-- ---- relations

-- one relation, among these points and curves; of an arc's length and sweep nothing is measured
unfoldable pub met : List Point → List Curve → Relation → Bool
met ps cs (Coincident p q) = close (position_of ps p) (position_of ps q)
met ps cs (PointOnCurve p c) = on (shape_in ps cs c) (position_of ps p)
met ps cs (Collinear a b) = every (on (shape_in ps cs a)) (line_end_points (shape_in ps cs b))
met ps cs (Equal a b) = same (length_or_radius_of (shape_in ps cs a)) (length_or_radius_of (shape_in ps cs b))
met ps cs (Length l v) = same (length_or_radius_of (shape_in ps cs l)) v
met ps cs (Distance p q v) = same (distance (position_of ps p) (position_of ps q)) v
met ps cs (Midpoint p l) = close (position_of ps p) (line_midpoint (shape_in ps cs l))
met ps cs (ArcLength c v) = true
met ps cs (ArcSweep c v) = true

abbrev pub all_met : Drawing → Bool
all_met d = every (met d.points d.curves) d.relations

-- ---- places, from 0 in table order

-- the place of the first entry that fails the test; the number of entries where none does
abbrev pub first_failing : {A : Type 0} → (A → Bool) → List A → ℕ
first_failing f [] = 0
first_failing f (a ∷ l) = ite (f a) (suc (first_failing f l)) 0

-- the place of the first relation that is not met; their number where all are
abbrev pub first_unmet : Drawing → ℕ
first_unmet d = first_failing (met d.points d.curves) d.relations

-- a place among n, or none
abbrev pub below : ℕ → ℕ → Answer ℕ
below n k = ite (ltb k n) (Some k) None
