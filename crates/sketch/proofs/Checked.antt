-- Walks over a sketch's tables: what each keeps, and what each way out answers.
use mathlib.Core.Path.{◌≡◌, refl, ap, ◌∙◌}
use mathlib.Core.Bool.{Bool, true, false, ◌&&◌}
use mathlib.Core.List.{List, map}
use Prim.Native.Nat.{ℕ, ◌+◌, ◌≤◌, ◌<◌}
use native.Mathlib.Omega.{arith}
use lib.ListN.{length, take, get_or, set}
use lib.Seq.{take-length}
use lib.Dec.{ltb}
use Rattle.sketch.specs.declared.Point.{Point}
use Rattle.sketch.specs.declared.Curve.{Curve}
use Rattle.sketch.specs.declared.Relation.{Relation}
use Rattle.sketch.specs.declared.RelationSlot.{RelationSlot}
use Rattle.sketch.specs.Lookup.{among, sort_among}
use Rattle.sketch.specs.Valid.{ok_point, ok_curve, ok_relation, sort_of, sound_curve, sound_relation}
use Rattle.sketch.specs.Drawing.{point_ids, curve_ids}
use Rattle.sketch.specs.Columns.{sorts_of, PointsChecked, CurvesChecked, RelationsChecked}
use Rattle.sketch.specs.Blanks.{no_point, no_curve, no_slot}
use Rattle.sketch.proofs.Walks.{Walk, walk_start, walk_four, walk_five, walk_on, walk_end, walk_fault, id_and_sound, table_result, list_result, Column, column_start, column_on}

-- ---- points

abbrev point_id : Point → ℕ
point_id p = p.id

abbrev point_fits : ℕ → ℕ → Point → Bool
point_fits next = id_and_sound point_id (λ p. true) next

-- i points are passed, the last of them with the id `last`
pub record PointsWalk (next : ℕ) (points : List Point) (before ids : List ℕ) (last i : ℕ) : Type 0 where
  pub walk : Walk ok_point (point_fits next) point_id points (length points) last i
  pub column : Column point_id points before ids i

pub points_start : (next : ℕ) (points : List Point) (ids : List ℕ) → PointsWalk next points ids ids 0 0
points_start next points ids =
    record { walk = walk_start ok_point (point_fits next) point_id points (length points) (omega arith); column = column_start point_id points ids }

module _ {next : ℕ} {points : List Point} {before ids : List ℕ} {last i : ℕ} (w : PointsWalk next points before ids last i) where
  abbrev Points : ℕ → Type 0
  Points = PointsChecked next points (length points) before ids

  abbrev n : ℕ
  n = length points

  tell : (r : ℕ) → r ≡ walk_fault ok_point (point_fits next) point_id 0 (take n points) → (r ≡ 0 → n ≤ i) → Points r
  tell r e h =
      let whole = take-length points in
      record {
        number = e ∙ ap (walk_fault ok_point (point_fits next) point_id 0) whole ∙ table_result point_id ok_point (λ p. true) next 0 points;
        long = w.column.long;
        column = λ z. let q : i ≡ n = omega (arith, h z, w.walk.within) in (rw q at w.column.filled) ∙ ap point_ids whole;
      }

  pub points_end : n ≤ i → Points 0
  points_end h = tell 0 (walk_end ok_point (point_fits next) point_id points n last i w.walk h) (λ z. h)

  module _ (h : i < n) where
    abbrev point : Point
    point = get_or points i no_point

    pub points_four : ok_point point ≡ false → Points 4
    points_four e = tell 4 (walk_four ok_point (point_fits next) point_id no_point points n last i w.walk h e) (λ z. absurd (omega arith))

    module _ (ok : ok_point point ≡ true) where
      pub points_five : (ltb last point.id && ltb point.id next && true) ≡ false → Points 5
      points_five e =
          tell 5 (walk_five ok_point (point_fits next) point_id no_point points n last i w.walk h ok e) (λ z. absurd (omega arith))

      pub points_on : (ltb last point.id && ltb point.id next && true) ≡ true → n ≤ length ids → PointsWalk next points before (set ids i point.id) point.id (i + 1)
      points_on e k =
          record {
            walk = walk_on ok_point (point_fits next) point_id no_point points n last i w.walk h ok e;
            column = column_on point_id points no_point before ids i point.id (omega arith) (omega arith) refl w.column;
          }

-- ---- curves

abbrev curve_id : Curve → ℕ
curve_id c = c.id

abbrev curve_sort : Curve → ℕ
curve_sort c = sort_of c.kind

abbrev curve_sound : List ℕ → Curve → Bool
curve_sound points = sound_curve (λ p. among p points)

abbrev curve_fits : ℕ → List ℕ → ℕ → Curve → Bool
curve_fits next points = id_and_sound curve_id (curve_sound points) next

-- i curves are passed, the last of them with the id `last`
pub record CurvesWalk (next : ℕ) (points : List ℕ) (curves : List Curve) (before was ids sorts : List ℕ) (last i : ℕ) : Type 0 where
  pub walk : Walk ok_curve (curve_fits next points) curve_id curves (length curves) last i
  pub column : Column curve_id curves before ids i
  pub beside : Column curve_sort curves was sorts i

pub curves_start : (next : ℕ) (points : List ℕ) (curves : List Curve) (ids sorts : List ℕ) → CurvesWalk next points curves ids sorts ids sorts 0 0
curves_start next points curves ids sorts =
    record {
      walk = walk_start ok_curve (curve_fits next points) curve_id curves (length curves) (omega arith);
      column = column_start curve_id curves ids;
      beside = column_start curve_sort curves sorts;
    }

module _
    {next : ℕ} {points : List ℕ} {curves : List Curve} {before was ids sorts : List ℕ} {last i : ℕ}
    (w : CurvesWalk next points curves before was ids sorts last i) where
  abbrev Curves : ℕ → Type 0
  Curves = CurvesChecked next points curves (length curves) before was ids sorts

  abbrev curves_n : ℕ
  curves_n = length curves

  answered : (r : ℕ) → r ≡ walk_fault ok_curve (curve_fits next points) curve_id 0 (take curves_n curves) → (r ≡ 0 → curves_n ≤ i) → Curves r
  answered r e h =
      let whole = take-length curves in
      record {
        number = e ∙ ap (walk_fault ok_curve (curve_fits next points) curve_id 0) whole ∙ table_result curve_id ok_curve (curve_sound points) next 0 curves;
        long = w.column.long;
        as_long = w.beside.long;
        column = λ z. let q : i ≡ curves_n = omega (arith, h z, w.walk.within) in (rw q at w.column.filled) ∙ ap curve_ids whole;
        beside = λ z. let q : i ≡ curves_n = omega (arith, h z, w.walk.within) in (rw q at w.beside.filled) ∙ ap sorts_of whole;
      }

  pub curves_end : curves_n ≤ i → Curves 0
  curves_end h = answered 0 (walk_end ok_curve (curve_fits next points) curve_id curves curves_n last i w.walk h) (λ z. h)

  module _ (h : i < curves_n) where
    abbrev curve : Curve
    curve = get_or curves i no_curve

    pub curves_four : ok_curve curve ≡ false → Curves 4
    curves_four e = answered 4 (walk_four ok_curve (curve_fits next points) curve_id no_curve curves curves_n last i w.walk h e) (λ z. absurd (omega arith))

    module _ (ok : ok_curve curve ≡ true) where
      pub curves_five : (ltb last curve.id && ltb curve.id next && curve_sound points curve) ≡ false → Curves 5
      curves_five e =
          answered 5 (walk_five ok_curve (curve_fits next points) curve_id no_curve curves curves_n last i w.walk h ok e) (λ z. absurd (omega arith))

      pub curves_on :
          {sort : ℕ} → (ltb last curve.id && ltb curve.id next && curve_sound points curve) ≡ true → sort ≡ curve_sort curve → curves_n ≤ length ids → curves_n ≤ length sorts
          → CurvesWalk next points curves before was (set ids i curve.id) (set sorts i sort) curve.id (i + 1)
      curves_on {sort} e f k l =
          record {
            walk = walk_on ok_curve (curve_fits next points) curve_id no_curve curves curves_n last i w.walk h ok e;
            column = column_on curve_id curves no_curve before ids i curve.id (omega arith) (omega arith) refl w.column;
            beside = column_on curve_sort curves no_curve was sorts i sort (omega arith) (omega arith) f w.beside;
          }

-- ---- relations

abbrev relation_in : RelationSlot → Relation
relation_in s = s.relation

abbrev relation_ok : RelationSlot → Bool
relation_ok s = ok_relation s.relation

abbrev relation_sound : List ℕ → List ℕ → List ℕ → Relation → Bool
relation_sound points curves sorts = sound_relation (λ p. among p points) (λ i. sort_among i curves sorts)

-- i relations are passed
pub record RelationsWalk (points curves sorts : List ℕ) (slots : List RelationSlot) (i : ℕ) : Type 0 where
  pub walk : Walk relation_ok (λ last s. relation_sound points curves sorts s.relation) (λ s. 0) slots (length slots) 0 i

pub relations_start : (points curves sorts : List ℕ) (slots : List RelationSlot) → RelationsWalk points curves sorts slots 0
relations_start points curves sorts slots =
    record { walk = walk_start relation_ok (λ last s. relation_sound points curves sorts s.relation) (λ s. 0) slots (length slots) (omega arith) }

module _ {points curves sorts : List ℕ} {slots : List RelationSlot} {i : ℕ} (w : RelationsWalk points curves sorts slots i) where
  abbrev relations_n : ℕ
  relations_n = length slots

  abbrev fits : ℕ → RelationSlot → Bool
  fits last s = relation_sound points curves sorts s.relation

  abbrev Relations : ℕ → Type 0
  Relations = RelationsChecked points curves sorts (map relation_in slots)

  say : (r : ℕ) → r ≡ walk_fault relation_ok fits (λ s. 0) 0 (take relations_n slots) → Relations r
  say r e =
      record {
        number = e ∙ ap (walk_fault relation_ok fits (λ s. 0) 0) (take-length slots) ∙ list_result relation_in ok_relation (relation_sound points curves sorts) slots;
      }

  pub relations_end : relations_n ≤ i → Relations 0
  relations_end h = say 0 (walk_end relation_ok fits (λ s. 0) slots relations_n 0 i w.walk h)

  module _ (h : i < relations_n) where
    abbrev relation : Relation
    relation = (get_or slots i no_slot).relation

    pub relations_four : ok_relation relation ≡ false → Relations 4
    relations_four e = say 4 (walk_four relation_ok fits (λ s. 0) no_slot slots relations_n 0 i w.walk h e)

    module _ (ok : ok_relation relation ≡ true) where
      pub relations_five : relation_sound points curves sorts relation ≡ false → Relations 5
      relations_five e = say 5 (walk_five relation_ok fits (λ s. 0) no_slot slots relations_n 0 i w.walk h ok e)

      pub relations_on : relation_sound points curves sorts relation ≡ true → RelationsWalk points curves sorts slots (i + 1)
      relations_on e = record { walk = walk_on relation_ok fits (λ s. 0) no_slot slots relations_n 0 i w.walk h ok e }
