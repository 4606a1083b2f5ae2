-- The bytes that a drawing is written as.
use Rattle.std.specs.Prelude.{ℕ, ◌+◌, ◌*◌, ◌-◌, Bool, true, false, List, [], ◌∷◌, ◌++◌, length, Float}
use Rattle.std.specs.Float.Ieee.{to_bits}
use Rattle.std.specs.Float.{binary64}
use Rattle.big_endian.specs.Fields.{bytes}
use Rattle.sketch.specs.Lists.{concat_map}
use Rattle.sketch.specs.Drawing.{Drawing, id_size}
use Rattle.sketch.specs.declared.Point.{Point}
use Rattle.sketch.specs.declared.Curve.{Curve}
use Rattle.sketch.specs.declared.CurveKind.{CurveKind}
use Rattle.sketch.specs.declared.CurveKind.TheVariants.{Line, Arc, Circle, Bezier, Conic}
use Rattle.sketch.specs.declared.Relation.{Relation}
use Rattle.sketch.specs.declared.Relation.TheVariants.{Coincident, PointOnCurve, Collinear, Equal, Length, Distance, Midpoint, ArcLength, ArcSweep}
use Rattle.image.specs.Image.{version, size_of}

abbrev pub bits : Float → ℕ
bits x = to_bits binary64 x

-- a flag's bit
unfoldable pub bit : Bool → ℕ
bit true = 1
bit false = 0

-- ---- a point

unfoldable pub encode_point : Point → List ℕ
encode_point p = bytes id_size p.id ++ (bytes 8 (bits p.x) ++ (bytes 8 (bits p.y) ++ bytes 1 (bit p.fixed)))

-- ---- a curve: the byte of its kind, its degree, its slots, its number

unfoldable pub kind_byte : CurveKind → ℕ
kind_byte (Line a b) = 1
kind_byte (Arc c a b) = 2
kind_byte (Circle c r) = 3
kind_byte (Bezier n) = 4
kind_byte (Conic a p b rho) = 5

unfoldable pub degree_of : CurveKind → ℕ
degree_of (Line a b) = 0
degree_of (Arc c a b) = 0
degree_of (Circle c r) = 0
degree_of (Bezier n) = n
degree_of (Conic a p b rho) = 0

unfoldable pub number_bits : CurveKind → ℕ
number_bits (Line a b) = 0
number_bits (Arc c a b) = 0
number_bits (Circle c r) = bits r
number_bits (Bezier n) = 0
number_bits (Conic a p b rho) = bits rho

-- a Bézier curve's slots, or the kind's own ids and then zeros
unfoldable pub slot_ids : CurveKind → List ℕ → List ℕ
slot_ids (Line a b) s = a ∷ b ∷ 0 ∷ 0 ∷ 0 ∷ 0 ∷ 0 ∷ 0 ∷ []
slot_ids (Arc c a b) s = c ∷ a ∷ b ∷ 0 ∷ 0 ∷ 0 ∷ 0 ∷ 0 ∷ []
slot_ids (Circle c r) s = c ∷ 0 ∷ 0 ∷ 0 ∷ 0 ∷ 0 ∷ 0 ∷ 0 ∷ []
slot_ids (Bezier n) s = s
slot_ids (Conic a p b rho) s = a ∷ p ∷ b ∷ 0 ∷ 0 ∷ 0 ∷ 0 ∷ 0 ∷ []

unfoldable pub flag_byte : Curve → ℕ
flag_byte c = bit c.construction + 2 * bit c.centerline + 4 * bit c.infinite

unfoldable pub encode_curve : Curve → List ℕ
encode_curve c =
    bytes id_size c.id ++ (bytes 1 (kind_byte c.kind) ++ (bytes 1 (flag_byte c) ++ (bytes 1 (degree_of c.kind)
    ++ (concat_map (bytes id_size) (slot_ids c.kind c.slots) ++ bytes 8 (number_bits c.kind)))))

-- ---- a relation: the byte of its kind, its ids, the second 0 where there is none, its value or zero bits

unfoldable pub relation_byte : Relation → ℕ
relation_byte (Coincident p q) = 1
relation_byte (PointOnCurve p c) = 2
relation_byte (Collinear a b) = 3
relation_byte (Equal a b) = 4
relation_byte (Length l v) = 5
relation_byte (Distance p q v) = 6
relation_byte (Midpoint p l) = 7
relation_byte (ArcLength c v) = 8
relation_byte (ArcSweep c v) = 9

unfoldable pub first_id : Relation → ℕ
first_id (Coincident p q) = p
first_id (PointOnCurve p c) = p
first_id (Collinear a b) = a
first_id (Equal a b) = a
first_id (Length l v) = l
first_id (Distance p q v) = p
first_id (Midpoint p l) = p
first_id (ArcLength c v) = c
first_id (ArcSweep c v) = c

unfoldable pub second_id : Relation → ℕ
second_id (Coincident p q) = q
second_id (PointOnCurve p c) = c
second_id (Collinear a b) = b
second_id (Equal a b) = b
second_id (Length l v) = 0
second_id (Distance p q v) = q
second_id (Midpoint p l) = l
second_id (ArcLength c v) = 0
second_id (ArcSweep c v) = 0

unfoldable pub value_bits : Relation → ℕ
value_bits (Coincident p q) = 0
value_bits (PointOnCurve p c) = 0
value_bits (Collinear a b) = 0
value_bits (Equal a b) = 0
value_bits (Length l v) = bits v
value_bits (Distance p q v) = bits v
value_bits (Midpoint p l) = 0
value_bits (ArcLength c v) = bits v
value_bits (ArcSweep c v) = bits v

unfoldable pub encode_relation : Relation → List ℕ
encode_relation r = bytes 1 (relation_byte r) ++ (bytes id_size (first_id r) ++ (bytes id_size (second_id r) ++ bytes 8 (value_bits r)))

-- ---- the image

abbrev pub drawing_size : Drawing → ℕ
drawing_size d = size_of (length d.points) (length d.curves) (length d.relations)

unfoldable pub header : ℕ → ℕ → ℕ → ℕ → List ℕ
header next np nc nr = bytes 4 (size_of np nc nr - 4) ++ (bytes 1 version ++ (bytes id_size next ++ (bytes 2 np ++ (bytes 2 nc ++ bytes 2 nr))))

unfoldable pub encode : Drawing → List ℕ
encode d =
    header d.next (length d.points) (length d.curves) (length d.relations)
    ++ (concat_map encode_point d.points ++ (concat_map encode_curve d.curves ++ concat_map encode_relation d.relations))
