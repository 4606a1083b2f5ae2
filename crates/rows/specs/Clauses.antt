-- The contracts of private functions, which nothing outside needs: the walks over an image's tables answer the first broken rule, and note places.
use Rattle.std.specs.Prelude.{ℕ, ◌≡◌, Bool, true, List, map, length, take}
use Rattle.sketch.specs.Lookup.{among, sort_among}
use Rattle.sketch.specs.Valid.{sound_curve, sound_relation, sort_of, table_fault, list_fault}
use Rattle.image.specs.Records.{curve_of, relation_of, point_size, curve_size, relation_size}
use Rattle.image.specs.Image.{row_id, good_point, good_curve, good_relation}
use Rattle.rows.specs.Rows.{rows_in, ids_in, noted_from}

abbrev pub row_sort : List ℕ → ℕ
row_sort r = sort_of (curve_of r).kind

abbrev pub sorts_in : List ℕ → List ℕ
sorts_in t = map row_sort (rows_in curve_size t)

-- a table with ids was walked: the places of those that passed are noted
pub record RowsTested (good sound : List ℕ → Bool) (next : ℕ) (rows : List (List ℕ)) (before near : List ℕ) (r : ℕ) : Type 0 where
  pub number : r ≡ table_fault row_id good sound next 0 rows 0
  pub passed : ℕ
  pub noted_are : near ≡ noted_from before 0 (take passed (map row_id rows))
  pub long : length near ≡ length before
  pub all_passed : r ≡ 0 → passed ≡ length rows

abbrev pub PointsTested : ℕ → List ℕ → List ℕ → List ℕ → ℕ → Type 0
PointsTested next points = RowsTested good_point (λ r. true) next (rows_in point_size points)

abbrev pub CurvesTested : List ℕ → ℕ → List ℕ → List ℕ → List ℕ → ℕ → Type 0
CurvesTested points next curves = RowsTested good_curve (λ r. sound_curve (λ p. among p (ids_in point_size points)) (curve_of r)) next (rows_in curve_size curves)

abbrev pub relations_tested : List ℕ → List ℕ → List ℕ → ℕ
relations_tested points curves relations =
    list_fault good_relation (λ r. sound_relation (λ p. among p (ids_in point_size points)) (λ i. sort_among i (ids_in curve_size curves) (sorts_in curves)) (relation_of r)) (rows_in relation_size relations)
