-- Records made into values, whatever their bytes.
use Rattle.std.specs.Prelude.{ℕ, Bool, not, ◌&&◌, List, Float}
use Rattle.std.specs.Float.Ieee.{nan_bits, of_bits}
use Rattle.std.specs.Float.{binary64}
use Rattle.big_endian.specs.Fields.{field}
use Rattle.sketch.specs.Lists.{ite}
use Rattle.sketch.specs.declared.Point.{Point}
use Rattle.sketch.specs.declared.Curve.{Curve}
use Rattle.sketch.specs.declared.Relation.{Relation}
use Rattle.sketch.specs.Drawing.{id_size}
use Rattle.image.specs.Records.{float_at, point_x_at, point_y_at, curve_number_at, first_id_at, second_id_at, value_at, point_form, curve_form, relation_form, point_by, curve_by, relation_by}

-- eight bytes that are no NaN's
abbrev pub number_at : List ℕ → ℕ → Bool
number_at r at = not (nan_bits binary64 (field r at 8))

-- the number that eight bytes encode; a NaN's count as 0, so that each record has a value
abbrev pub number_or_zero : List ℕ → ℕ → Float
number_or_zero r at = ite (number_at r at) (float_at r at) (of_bits binary64 0)

abbrev pub read_point : List ℕ → Point
read_point r = point_by (number_or_zero r point_x_at) (number_or_zero r point_y_at) r

abbrev pub read_curve : List ℕ → Curve
read_curve r = curve_by (number_or_zero r curve_number_at) r

abbrev pub read_relation : List ℕ → Relation
read_relation r = relation_by (field r 0 1) (field r first_id_at id_size) (field r second_id_at id_size) (number_or_zero r value_at)

-- records whose floats are numbers, as those of a good image are: of these the values are what the bytes encode
abbrev pub plain_point : List ℕ → Bool
plain_point r = point_form r && number_at r point_x_at && number_at r point_y_at

abbrev pub plain_curve : List ℕ → Bool
plain_curve r = curve_form r && number_at r curve_number_at

abbrev pub plain_relation : List ℕ → Bool
plain_relation r = relation_form r && number_at r value_at
