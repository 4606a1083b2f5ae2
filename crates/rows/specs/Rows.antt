-- An image's tables as lists of bytes, their records as values, and the ids that these begin with. Definitions only.
use Rattle.std.specs.Prelude.{ℕ, suc, ◌*◌, ◌/◌, ◌≡◌, List, [], ◌∷◌, map, length, take, get_or}
use Rattle.big_endian.specs.Fields.{part}
use Rattle.sketch.specs.declared.Point.{Point}
use Rattle.sketch.specs.declared.Curve.{Curve}
use Rattle.sketch.specs.declared.Relation.{Relation}
use Rattle.sketch.specs.Lookup.{noted, Ascends, Found}
use Rattle.image.specs.Records.{point_size, curve_size, relation_size}
use Rattle.image.specs.Image.{header_size, point_count, curve_count, relation_count, curves_from, relations_from, rows_at, row_id, image_fault}
use Rattle.image.specs.Decode.{read_point, read_curve, read_relation}

-- ---- tables

abbrev pub point_table : List ℕ → List ℕ
point_table s = part s header_size (point_count s * point_size)

abbrev pub curve_table : List ℕ → List ℕ
curve_table s = part s (curves_from (point_count s)) (curve_count s * curve_size)

abbrev pub relation_table : List ℕ → List ℕ
relation_table s = part s (relations_from (point_count s) (curve_count s)) (relation_count s * relation_size)

-- ---- records

-- the whole records of one size in a table
unfoldable pub rows_in : ℕ → List ℕ → List (List ℕ)
rows_in size t = rows_at size (length t / size) t 0

-- the record at a place; past the last an empty one, whose fields are all 0
abbrev pub row_in : ℕ → List ℕ → ℕ → List ℕ
row_in size t i = get_or (rows_in size t) i []

abbrev pub points_in : List ℕ → List Point
points_in t = map read_point (rows_in point_size t)

abbrev pub curves_in : List ℕ → List Curve
curves_in t = map read_curve (rows_in curve_size t)

abbrev pub relations_in : List ℕ → List Relation
relations_in t = map read_relation (rows_in relation_size t)

-- the ids that the records begin with
abbrev pub ids_in : ℕ → List ℕ → List ℕ
ids_in size t = map row_id (rows_in size t)

-- the record with an id: that at a place where a look-up finds it, an empty one where it is missing
pub record RecordOf (size : ℕ) (t : List ℕ) (id : ℕ) (r : List ℕ) : Type 0 where
  pub place : ℕ
  pub found : Found id (ids_in size t) place
  pub is : r ≡ row_in size t place

-- ---- tables that hold lists, whose ids rise

pub record HoldsPoints (ps : List Point) (points : List ℕ) : Type 0 where
  pub are : points_in points ≡ ps
  pub rise : Ascends (ids_in point_size points)

pub record HoldsCurves (cs : List Curve) (curves : List ℕ) : Type 0 where
  pub are : curves_in curves ≡ cs
  pub rise : Ascends (ids_in curve_size curves)

-- ---- the test

-- guesses with the places of ids noted, the first of which stands at i
unfoldable pub noted_from : List ℕ → ℕ → List ℕ → List ℕ
noted_from near i [] = near
noted_from near i (id ∷ ids) = noted_from (noted near id i) (suc i) ids

-- the guesses after a test that passed so many points and curves
abbrev pub guesses_after : List ℕ → ℕ → ℕ → List ℕ → List ℕ
guesses_after s np nc near =
    noted_from (noted_from near 0 (take np (ids_in point_size (point_table s)))) 0 (take nc (ids_in curve_size (curve_table s)))

-- an image was tested: the number of the first broken rule, and the guesses with the places of all that passed, which is all where no rule is broken
pub record ImageTested (s before near : List ℕ) (r : ℕ) : Type 0 where
  pub number : r ≡ image_fault s
  pub points_passed : ℕ
  pub curves_passed : ℕ
  pub guesses : near ≡ guesses_after s points_passed curves_passed before
  pub all_passed : r ≡ 0 → (points_passed ≡ point_count s) × (curves_passed ≡ curve_count s)
