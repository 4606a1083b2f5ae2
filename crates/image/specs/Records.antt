-- The records of an image: what the bytes of each encode, and which bytes encode nothing.
use Rattle.std.specs.Prelude.{ℕ, zero, suc, ◌+◌, ◌*◌, ◌/◌, ◌%◌, Bool, not, ◌&&◌, ◌||◌, List, [], ◌∷◌, get_or, drop, leb, eqb, Float}
use Rattle.std.specs.Float.Ieee.{of_bits}
use Rattle.std.specs.Float.{binary64}
use Rattle.big_endian.specs.Fields.{field}
use Rattle.sketch.specs.Lists.{ite, every}
use Rattle.sketch.specs.declared.Point.{Point}
use Rattle.sketch.specs.declared.Curve.{Curve}
use Rattle.sketch.specs.declared.CurveKind.{CurveKind}
use Rattle.sketch.specs.declared.CurveKind.TheVariants.{Line, Arc, Circle, Bezier, Conic}
use Rattle.sketch.specs.declared.Relation.{Relation}
use Rattle.sketch.specs.declared.Relation.TheVariants.{Coincident, PointOnCurve, Collinear, Equal, Length, Distance, Midpoint, ArcLength, ArcSweep}
use Rattle.sketch.specs.Drawing.{no_slots, id_size}

-- the number that eight bytes encode as binary64
abbrev pub float_at : List ℕ → ℕ → Float
float_at r at = of_bits binary64 (field r at 8)

-- ---- a point: id, x 8, y 8, flags

abbrev pub point_x_at : ℕ
point_x_at = id_size

abbrev pub point_y_at : ℕ
point_y_at = point_x_at + 8

abbrev pub point_flags_at : ℕ
point_flags_at = point_y_at + 8

abbrev pub point_size : ℕ
point_size = point_flags_at + 1

-- bit 0 is the only flag
abbrev pub point_form : List ℕ → Bool
point_form r = leb (field r point_flags_at 1) 1

-- the point of a record with given coordinates
abbrev pub point_by : Float → Float → List ℕ → Point
point_by x y r = record { id = field r 0 id_size; fixed = eqb (field r point_flags_at 1) 1; x = x; y = y }

abbrev pub point_of : List ℕ → Point
point_of r = point_by (float_at r point_x_at) (float_at r point_y_at) r

-- ---- a curve: id, kind, flags, degree, eight slots for ids, number 8

abbrev pub curve_kind_at : ℕ
curve_kind_at = id_size

abbrev pub curve_flags_at : ℕ
curve_flags_at = curve_kind_at + 1

abbrev pub degree_at : ℕ
degree_at = curve_flags_at + 1

abbrev pub slots_at : ℕ
slots_at = degree_at + 1

abbrev pub curve_number_at : ℕ
curve_number_at = slots_at + 8 * id_size

abbrev pub curve_size : ℕ
curve_size = curve_number_at + 8

-- n ids, one behind the other
unfoldable pub ids_at : List ℕ → ℕ → ℕ → List ℕ
ids_at r at zero = []
ids_at r at (suc n) = field r at id_size ∷ ids_at r (at + id_size) n

abbrev pub slots_of : List ℕ → List ℕ
slots_of r = ids_at r slots_at 8

-- how many slots a kind uses: a line 2, an arc 3, a circle 1, a Bézier curve one more than its degree, a conic 3
unfoldable pub used_slots : ℕ → ℕ → ℕ
used_slots kind degree = ite (eqb kind 1) 2 (ite (eqb kind 2) 3 (ite (eqb kind 3) 1 (ite (eqb kind 4) (suc degree) 3)))

-- a known kind, known flags, and zero where the kind has no degree, no number, no further slot
unfoldable pub curve_fields : ℕ → ℕ → ℕ → List ℕ → ℕ → Bool
curve_fields kind flags degree slots number =
    leb 1 kind && leb kind 5 && leb flags 7 && (eqb kind 4 || eqb degree 0) && (eqb kind 3 || eqb kind 5 || eqb number 0)
    && every (λ i. eqb i 0) (drop (used_slots kind degree) slots)

abbrev pub curve_form : List ℕ → Bool
curve_form r = curve_fields (field r curve_kind_at 1) (field r curve_flags_at 1) (field r degree_at 1) (slots_of r) (field r curve_number_at 8)

-- the kind by its byte
unfoldable pub kind_of : ℕ → ℕ → List ℕ → Float → CurveKind
kind_of kind degree s v =
    ite (eqb kind 1) (Line (get_or s 0 0) (get_or s 1 0))
    (ite (eqb kind 2) (Arc (get_or s 0 0) (get_or s 1 0) (get_or s 2 0))
    (ite (eqb kind 3) (Circle (get_or s 0 0) v)
    (ite (eqb kind 4) (Bezier degree)
    (Conic (get_or s 0 0) (get_or s 1 0) (get_or s 2 0) v))))

-- the curve of a record with a given number; flags: bit 0 construction, bit 1 centerline, bit 2 infinite; only a Bézier curve keeps the slots beside its kind
abbrev pub curve_by : Float → List ℕ → Curve
curve_by v r =
    record {
      id = field r 0 id_size;
      construction = eqb (field r curve_flags_at 1 % 2) 1;
      centerline = eqb (field r curve_flags_at 1 / 2 % 2) 1;
      infinite = eqb (field r curve_flags_at 1 / 4 % 2) 1;
      kind = kind_of (field r curve_kind_at 1) (field r degree_at 1) (slots_of r) v;
      slots = ite (eqb (field r curve_kind_at 1) 4) (slots_of r) no_slots;
    }

abbrev pub curve_of : List ℕ → Curve
curve_of r = curve_by (float_at r curve_number_at) r

-- ---- a relation: kind, two ids, value 8

abbrev pub first_id_at : ℕ
first_id_at = 1

abbrev pub second_id_at : ℕ
second_id_at = first_id_at + id_size

abbrev pub value_at : ℕ
value_at = second_id_at + id_size

abbrev pub relation_size : ℕ
relation_size = value_at + 8

-- kinds with one id: Length, ArcLength, ArcSweep
abbrev pub single : ℕ → Bool
single kind = eqb kind 5 || eqb kind 8 || eqb kind 9

-- kinds with a value: these, and Distance
abbrev pub valued : ℕ → Bool
valued kind = single kind || eqb kind 6

-- a known kind, and zero where the kind has no second id, no value
unfoldable pub relation_fields : ℕ → ℕ → ℕ → Bool
relation_fields kind second value = leb 1 kind && leb kind 9 && (not (single kind) || eqb second 0) && (valued kind || eqb value 0)

abbrev pub relation_form : List ℕ → Bool
relation_form r = relation_fields (field r 0 1) (field r second_id_at id_size) (field r value_at 8)

-- the relation by its kind's byte
unfoldable pub relation_by : ℕ → ℕ → ℕ → Float → Relation
relation_by kind a b v =
    ite (eqb kind 1) (Coincident a b)
    (ite (eqb kind 2) (PointOnCurve a b)
    (ite (eqb kind 3) (Collinear a b)
    (ite (eqb kind 4) (Equal a b)
    (ite (eqb kind 5) (Length a v)
    (ite (eqb kind 6) (Distance a b v)
    (ite (eqb kind 7) (Midpoint a b)
    (ite (eqb kind 8) (ArcLength a v)
    (ArcSweep a v))))))))

abbrev pub relation_of : List ℕ → Relation
relation_of r = relation_by (field r 0 1) (field r first_id_at id_size) (field r second_id_at id_size) (float_at r value_at)
