-- The image of a drawing: which bytes are refused, by which number, and which drawing the others give.
use Rattle.std.specs.Prelude.{ℕ, zero, suc, ◌+◌, ◌*◌, Bool, true, ◌&&◌, List, [], ◌∷◌, map, length, leb, eqb}
use Rattle.big_endian.specs.Fields.{field, part}
use Rattle.sketch.specs.Lists.{guard_number}
use Rattle.sketch.specs.Drawing.{Drawing, limits, id_size}
use Rattle.sketch.specs.Valid.{ok_point, ok_curve, ok_relation, sound_curve, sound_relation, has_point, sort_in, table_fault, list_fault}
use Rattle.image.specs.Records.{point_size, curve_size, relation_size, point_form, point_of, curve_form, curve_of, relation_form, relation_of}

abbrev pub version : ℕ
version = 1

-- ---- the header: length of all that follows 4, version, next id, counts of points, curves, relations 2 each

abbrev pub next_id_at : ℕ
next_id_at = 5

abbrev pub point_count_at : ℕ
point_count_at = next_id_at + id_size

abbrev pub curve_count_at : ℕ
curve_count_at = point_count_at + 2

abbrev pub relation_count_at : ℕ
relation_count_at = curve_count_at + 2

abbrev pub header_size : ℕ
header_size = relation_count_at + 2

abbrev pub next_at : List ℕ → ℕ
next_at s = field s next_id_at id_size

abbrev pub point_count : List ℕ → ℕ
point_count s = field s point_count_at 2

abbrev pub curve_count : List ℕ → ℕ
curve_count s = field s curve_count_at 2

abbrev pub relation_count : List ℕ → ℕ
relation_count s = field s relation_count_at 2

-- where each table starts, and how long an image is, by its counts
abbrev pub curves_from : ℕ → ℕ
curves_from np = header_size + np * point_size

abbrev pub relations_from : ℕ → ℕ → ℕ
relations_from np nc = curves_from np + nc * curve_size

abbrev pub size_of : ℕ → ℕ → ℕ → ℕ
size_of np nc nr = relations_from np nc + nr * relation_size

-- the largest image's size, by the tables' limits
abbrev pub max_image_size : ℕ
max_image_size = size_of limits.points limits.curves limits.relations

-- too short for a version, the version, the rest of the length, the counts, the next id; then what the records give
unfoldable pub head_fault : List ℕ → ℕ → ℕ
head_fault s rest =
    guard_number (leb 5 (length s)) 1
    (guard_number (eqb (field s 4 1) version) 2
    (guard_number (leb header_size (length s) && eqb (field s 0 4 + 4) (length s)) 1
    (guard_number (leb (point_count s) limits.points && leb (curve_count s) limits.curves && leb (relation_count s) limits.relations
    && eqb (size_of (point_count s) (curve_count s) (relation_count s)) (length s)) 3
    (guard_number (leb 1 (next_at s)) 4 rest))))

-- ---- the tables

-- n records of one size
unfoldable pub rows_at : ℕ → ℕ → List ℕ → ℕ → List (List ℕ)
rows_at size zero s at = []
rows_at size (suc n) s at = part s at size ∷ rows_at size n s (at + size)

abbrev pub point_rows : List ℕ → List (List ℕ)
point_rows s = rows_at point_size (point_count s) s header_size

abbrev pub curve_rows : List ℕ → List (List ℕ)
curve_rows s = rows_at curve_size (curve_count s) s (curves_from (point_count s))

abbrev pub relation_rows : List ℕ → List (List ℕ)
relation_rows s = rows_at relation_size (relation_count s) s (relations_from (point_count s) (curve_count s))

-- the drawing that the bytes encode
abbrev pub drawing_of : List ℕ → Drawing
drawing_of s =
    record {
      next = next_at s;
      points = map point_of (point_rows s);
      curves = map curve_of (curve_rows s);
      relations = map relation_of (relation_rows s);
    }

abbrev pub row_id : List ℕ → ℕ
row_id r = field r 0 id_size

-- records that encode something whose values are in range
abbrev pub good_point : List ℕ → Bool
good_point r = point_form r && ok_point (point_of r)

abbrev pub good_curve : List ℕ → Bool
good_curve r = curve_form r && ok_curve (curve_of r)

abbrev pub good_relation : List ℕ → Bool
good_relation r = relation_form r && ok_relation (relation_of r)

-- the records in order: of each first its form and its values, then its id and its references
abbrev pub records_fault : List ℕ → ℕ
records_fault s =
    let d = drawing_of s in
    table_fault row_id good_point (λ r. true) d.next 0 (point_rows s)
    (table_fault row_id good_curve (λ r. sound_curve (has_point d.points) (curve_of r)) d.next 0 (curve_rows s)
    (list_fault good_relation (λ r. sound_relation (has_point d.points) (sort_in d.curves) (relation_of r)) (relation_rows s)))

-- the number of the first rule that an image breaks, 0 where it breaks none
abbrev pub image_fault : List ℕ → ℕ
image_fault s = head_fault s (records_fault s)

-- ---- reading

pub data ParseResult : Type 0 where
  refused : ℕ → ParseResult
  accepted : Drawing → ParseResult

-- a refusal by a number above 0
unfoldable pub result_of : ℕ → Drawing → ParseResult
result_of zero d = accepted d
result_of (suc n) d = refused (suc n)

abbrev pub parse : List ℕ → ParseResult
parse s = result_of (image_fault s) (drawing_of s)
