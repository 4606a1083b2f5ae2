-- The test of an image from those of its header and of each of its tables.
use mathlib.Core.Path.{◌≡◌, refl, sym, ap, ◌∙◌}
use mathlib.Core.Bool.{Bool, true, false}
use mathlib.Core.List.{List, [], ◌∷◌, map}
use Prim.Native.Nat.{ℕ, suc}
use lib.ListN.{length, take}
use Rattle.sketch.specs.Lists.{guard_number}
use Rattle.sketch.specs.Lookup.{Ascends, among}
use Rattle.sketch.specs.Drawing.{point_ids, curve_ids}
use Rattle.sketch.specs.Columns.{sorts_of}
use Rattle.sketch.specs.Valid.{sound_curve, sound_relation, has_point, sort_in, table_fault, list_fault}
use Rattle.sketch.proofs.Facts.{table_first, table_later, table_ascends, sort_among_lem}
use Rattle.image.specs.Records.{point_of, curve_of, relation_of, point_size, curve_size}
use Rattle.image.specs.Image.{next_at, point_count, curve_count, head_fault, point_rows, curve_rows, relation_rows, drawing_of, row_id, good_point, good_curve, good_relation, records_fault, image_fault}
use Rattle.image.proofs.Tables.{length_rows}
use Rattle.image.proofs.Headers.{Head, head_kept, head_passes}
use Rattle.rows.specs.Rows.{point_table, curve_table, relation_table, rows_in, ids_in, noted_from, guesses_after, ImageTested}
use Rattle.rows.specs.Clauses.{row_sort, PointsTested, CurvesTested, relations_tested}
use Rattle.rows.proofs.GoodTables.{point_rows_in, curve_rows_in, relation_rows_in}

-- ---- the header

first_kept : (b : Bool) (n x y : ℕ) → (guard_number b (suc n) x ≡ 0 → ⊥) → (b ≡ true → (x ≡ 0 → ⊥) → x ≡ y) → guard_number b (suc n) x ≡ guard_number b (suc n) y
unfolding guard_number
first_kept true n x y h f = f refl h
first_kept false n x y h f = refl

-- the header is at fault
by_header : (s : List ℕ) {n : ℕ} → n ≡ head_fault s 0 → (n ≡ 0 → ⊥) → n ≡ image_fault s
unfolding head_fault
by_header s e h =
    e
    ∙ first_kept _ 0 _ _ (λ z. h (e ∙ z))
    (λ b1 h1. first_kept _ 1 _ _ h1 (λ b2 h2. first_kept _ 0 _ _ h2 (λ b3 h3. first_kept _ 2 _ _ h3 (λ b4 h4. first_kept _ 3 _ _ h4 (λ b5 h5. absurd (h5 refl))))))

pub header_refused : (s near : List ℕ) {n : ℕ} → n ≡ head_fault s 0 → (n ≡ 0 → ⊥) → ImageTested s near near n
unfolding noted_from
header_refused s near e h =
    record { number = by_header s e h; points_passed = 0; curves_passed = 0; guesses = refl; all_passed = λ z. absurd (h z) }

-- ---- ids and sorts of the rows are those of the drawing

point_ids_lem : (rows : List (List ℕ)) → map row_id rows ≡ point_ids (map point_of rows)
point_ids_lem [] = refl
point_ids_lem (r ∷ rows) = ap (λ (l : List ℕ). row_id r ∷ l) (point_ids_lem rows)

curve_ids_lem : (rows : List (List ℕ)) → map row_id rows ≡ curve_ids (map curve_of rows)
curve_ids_lem [] = refl
curve_ids_lem (r ∷ rows) = ap (λ (l : List ℕ). row_id r ∷ l) (curve_ids_lem rows)

curve_sorts : (rows : List (List ℕ)) → map row_sort rows ≡ sorts_of (map curve_of rows)
curve_sorts [] = refl
curve_sorts (r ∷ rows) = ap (λ (l : List ℕ). row_sort r ∷ l) (curve_sorts rows)

-- ---- the tables, once the header has passed

module _ (s : List ℕ) (z : head_fault s 0 ≡ 0) where
  head : Head s
  head = (head_kept s 0 z).0

  abbrev any : List ℕ → Bool
  any r = true

  abbrev sound : List ℕ → Bool
  sound r = sound_curve (has_point (drawing_of s).points) (curve_of r)

  abbrev relations_left : ℕ
  relations_left = list_fault good_relation (λ r. sound_relation (has_point (drawing_of s).points) (sort_in (drawing_of s).curves) (relation_of r)) (relation_rows s)

  abbrev curves_left : ℕ
  curves_left = table_fault row_id good_curve sound (next_at s) 0 (curve_rows s) relations_left

  header_kept : image_fault s ≡ table_fault row_id good_point any (next_at s) 0 (point_rows s) curves_left
  header_kept = head_passes s (records_fault s) head

  ids_known : ids_in point_size (point_table s) ≡ point_ids (drawing_of s).points
  ids_known = ap (map row_id) (point_rows_in s head) ∙ point_ids_lem (point_rows s)

  module _ {near₀ near₁ : List ℕ} {p : ℕ} (t : PointsTested (next_at s) (point_table s) near₀ near₁ p) where
    points_number : p ≡ table_fault row_id good_point any (next_at s) 0 (point_rows s) 0
    points_number = t.number ∙ ap (λ (l : List (List ℕ)). table_fault row_id good_point any (next_at s) 0 l 0) (point_rows_in s head)

    points_all : p ≡ 0 → t.passed ≡ point_count s
    points_all e = t.all_passed e ∙ ap length (point_rows_in s head) ∙ length_rows point_size (point_count s) s _

    pub points_rise : p ≡ 0 → Ascends (ids_in point_size (point_table s))
    points_rise e = table_ascends row_id good_point any (next_at s) 0 (point_rows s) (ids_in point_size (point_table s)) (sym points_number ∙ e) (ap (map row_id) (point_rows_in s head))

    -- a point is at fault
    pub points_refused : (p ≡ 0 → ⊥) → ImageTested s near₀ near₁ p
    unfolding noted_from
    points_refused h =
        record {
          number = sym (header_kept ∙ table_first row_id good_point any (next_at s) 0 (point_rows s) curves_left p points_number h);
          points_passed = t.passed;
          curves_passed = 0;
          guesses = t.noted_are;
          all_passed = λ z. absurd (h z);
        }

    module _ (ok : p ≡ 0) {near₂ : List ℕ} {c : ℕ} (u : CurvesTested (point_table s) (next_at s) (curve_table s) near₁ near₂ c) where
      points_kept : image_fault s ≡ curves_left
      points_kept = header_kept ∙ table_later row_id good_point any (next_at s) 0 (point_rows s) curves_left (sym points_number ∙ ok)

      curves_number : c ≡ table_fault row_id good_curve sound (next_at s) 0 (curve_rows s) 0
      curves_number =
          u.number
          ∙ ap (λ (l : List ℕ). table_fault row_id good_curve (λ r. sound_curve (λ i. among i l) (curve_of r)) (next_at s) 0 (rows_in curve_size (curve_table s)) 0) ids_known
          ∙ ap (λ (l : List (List ℕ)). table_fault row_id good_curve sound (next_at s) 0 l 0) (curve_rows_in s head)

      curves_all : c ≡ 0 → u.passed ≡ curve_count s
      curves_all e = u.all_passed e ∙ ap length (curve_rows_in s head) ∙ length_rows curve_size (curve_count s) s _

      guessed : near₂ ≡ guesses_after s t.passed u.passed near₀
      guessed = u.noted_are ∙ ap (λ (l : List ℕ). noted_from l 0 (take u.passed (ids_in curve_size (curve_table s)))) t.noted_are

      pub curves_rise : c ≡ 0 → Ascends (ids_in curve_size (curve_table s))
      curves_rise e = table_ascends row_id good_curve sound (next_at s) 0 (curve_rows s) (ids_in curve_size (curve_table s)) (sym curves_number ∙ e) (ap (map row_id) (curve_rows_in s head))

      -- a curve is at fault
      pub curves_refused : (c ≡ 0 → ⊥) → ImageTested s near₀ near₂ c
      curves_refused h =
          record {
            number = sym (points_kept ∙ table_first row_id good_curve sound (next_at s) 0 (curve_rows s) relations_left c curves_number h);
            points_passed = t.passed;
            curves_passed = u.passed;
            guesses = guessed;
            all_passed = λ z. absurd (h z);
          }

      -- none is, and the relations decide
      pub relations_decide : c ≡ 0 → {r : ℕ} → r ≡ relations_tested (point_table s) (curve_table s) (relation_table s) → ImageTested s near₀ near₂ r
      relations_decide e f =
          record {
            number = f ∙ by_drawing ∙ sym (points_kept ∙ table_later row_id good_curve sound (next_at s) 0 (curve_rows s) relations_left (sym curves_number ∙ e));
            points_passed = t.passed;
            curves_passed = u.passed;
            guesses = guessed;
            all_passed = λ z. (points_all ok, curves_all e);
          }
        where
          by_drawing : relations_tested (point_table s) (curve_table s) (relation_table s) ≡ relations_left
          by_drawing =
              simp (ids_known, curve_rows_in s head, relation_rows_in s head, curve_ids_lem (curve_rows s), curve_sorts (curve_rows s), sort_among_lem)
