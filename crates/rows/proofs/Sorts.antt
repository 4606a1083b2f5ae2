-- The sort of the curve that a record encodes, by its kind's byte.
use mathlib.Core.Path.{◌≡◌, refl, sym, ap, ◌∙◌}
use mathlib.Core.List.{List, []}
use Prim.Native.Nat.{ℕ, zero, suc, ◌≤◌}
use native.Mathlib.Omega.{arith}
use lib.Ieee.{Float}
use Rattle.std.specs.Prelude.{Some, None}
use lib.ListN.{length-map}
use borrow.Author.Tests.{eqb-true}
use Rattle.big_endian.specs.Fields.{field}
use Rattle.sketch.specs.Lookup.{Ascends, FoundAt, sort_among}
use Rattle.sketch.specs.Valid.{sort_of}
use Rattle.sketch.proofs.Ascent.{sort_nowhere}
use Rattle.sketch.proofs.Bisection.{found_here, found_sort}
use Rattle.sketch.proofs.Facts.{get_or_mapped}
use Rattle.image.specs.Image.{row_id}
use Rattle.image.specs.Records.{curve_size, degree_at, curve_number_at, float_at, slots_of, kind_of}
use Rattle.rows.specs.Rows.{rows_in, row_in, ids_in}
use Rattle.rows.specs.Clauses.{row_sort, sorts_in}
use Rattle.image.proofs.RecordChecks.{freeform_sort}

round_kind : (k degree : ℕ) (s : List ℕ) (v : Float) → 2 ≤ k → k ≤ 3 → 2 ≡ sort_of (kind_of k degree s v)
unfolding kind_of sort_of
round_kind zero degree s v l h = absurd (omega arith)
round_kind (suc zero) degree s v l h = absurd (omega arith)
round_kind (suc (suc zero)) degree s v l h = refl
round_kind (suc (suc (suc zero))) degree s v l h = refl
round_kind (suc (suc (suc (suc k)))) degree s v l h = absurd (omega arith)

freeform_kind : (k degree : ℕ) (s : List ℕ) (v : Float) → (k ≡ 1 → ⊥) → (k ≡ 2 → ⊥) → (k ≡ 3 → ⊥) → 3 ≡ sort_of (kind_of k degree s v)
freeform_kind k degree s v h1 h2 h3 = sym (eqb-true _ 3 (sym (freeform_sort k degree s v h1 h2 h3)))

module _ (r : List ℕ) {k : ℕ} (e : k ≡ field r 4 1) where
  sort_by : {n : ℕ} → k ≡ n → sort_of (kind_of n (field r degree_at 1) (slots_of r) (float_at r curve_number_at)) ≡ row_sort r
  sort_by h = ap (λ (j : ℕ). sort_of (kind_of j (field r degree_at 1) (slots_of r) (float_at r curve_number_at))) (sym h ∙ e)

  pub sort_line : k ≡ 1 → 1 ≡ row_sort r
  unfolding kind_of sort_of
  sort_line h = sort_by h

  pub sort_round : 2 ≤ k → k ≤ 3 → 2 ≡ row_sort r
  sort_round l h = round_kind k (field r degree_at 1) (slots_of r) (float_at r curve_number_at) l h ∙ sort_by refl

  pub sort_freeform : (k ≡ 1 → ⊥) → (k ≡ 2 → ⊥) → (k ≡ 3 → ⊥) → 3 ≡ row_sort r
  sort_freeform h1 h2 h3 = freeform_kind k (field r degree_at 1) (slots_of r) (float_at r curve_number_at) h1 h2 h3 ∙ sort_by refl

-- ---- the sort of the curve that a look-up finds

module _ (curves : List ℕ) (id : ℕ) (up : Ascends (ids_in curve_size curves)) where
  pub sort_found : (k : ℕ) → FoundAt id (ids_in curve_size curves) (Some k) → row_sort (row_in curve_size curves k) ≡ sort_among id (ids_in curve_size curves) (sorts_in curves)
  sort_found k f =
      sym (get_or_mapped row_sort 0 [] (rows_in curve_size curves) k (rw (← length-map (rows_in curve_size curves) row_id) f.0))
      ∙ found_sort id (ids_in curve_size curves) k (found_here id (ids_in curve_size curves) k f.0 f.1) up (sorts_in curves)
      (length-map (rows_in curve_size curves) row_id ∙ sym (length-map (rows_in curve_size curves) row_sort))

  pub sort_missing : FoundAt id (ids_in curve_size curves) None → 0 ≡ sort_among id (ids_in curve_size curves) (sorts_in curves)
  sort_missing f = sym (sort_nowhere id (ids_in curve_size curves) (sorts_in curves) (f up))
