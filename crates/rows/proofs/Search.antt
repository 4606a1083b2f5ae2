-- What a binary search among the rows of a table answers.
use mathlib.Core.Path.{◌≡◌, refl, ap, ◌∙◌, subst}
use mathlib.Core.List.{List, [], ◌∷◌, map}
use Prim.Native.Nat.{ℕ, zero, suc, ◌/◌, ◌<◌}
use native.Mathlib.Omega.{arith}
use lib.ListN.{length, get_or, length-map}
use Rattle.std.specs.Prelude.{Result, Ok, Err}
use Rattle.std.proofs.Common.{nat_cmp}
use Rattle.std.specs.Result.{result_ok}
use Rattle.std.specs.Simd.{first_chunks}
use Rattle.std.specs.List.Sorted.{IsSearchInRange, IsBinarySearchResult}
use Rattle.std.proofs.lemmas.List.{get_or_read}
use Rattle.sketch.specs.Lookup.{FoundAt}
use Rattle.sketch.proofs.Bisection.{found_by_search}
use Rattle.image.specs.Image.{row_id}
use Rattle.rows.specs.Rows.{rows_in, row_in, ids_in}
use Rattle.rows.proofs.Rows.{chunks}

module _ {X : Type 0} (key : X → ℕ) where
  mapped : (xs : List X) (k : ℕ) (d : X) → get_or (map key xs) k (key d) ≡ key (get_or xs k d)
  mapped [] k d = refl
  mapped (x ∷ xs) zero d = refl
  mapped (x ∷ xs) (suc k) d = mapped xs k d

  within : (xs : List X) (k : ℕ) (n : ℕ) (d : X) → k < length xs → get_or (map key xs) k n ≡ key (get_or xs k d)
  within [] k n d h = absurd (omega arith)
  within (x ∷ xs) zero n d h = refl
  within (x ∷ xs) (suc k) n d h = within xs k n d (omega arith)

  -- a search by a key is a search among the keys
  pub keyed : (id : ℕ) (xs : List X) (none : X) (r : Result ℕ ℕ) → IsSearchInRange r (length xs) → IsBinarySearchResult (λ y. nat_cmp (key y) id) xs r
      → IsBinarySearchResult (λ y. nat_cmp y id) (map key xs) r
  keyed id xs none (Ok k) b h = λ n. rw (within xs k n none b) (h none)
  keyed id xs none (Err i) b h =
      λ m.
      let p = h (λ j k d l u. rw (← mapped xs j d, ← mapped xs k d) (m j k (key d) l (rw length-map u))) in
      (λ k n l u. rw (within xs k n none (omega arith)) (p.0 k none l u), λ k n l u. let v : k < length xs = rw length-map at u in rw (within xs k n none v) (p.1 k none l v))

-- ---- the rows as code has them

module _ (size : ℕ) (t : List ℕ) (rows : List (List ℕ)) (e : rows ≡ first_chunks size (length t / size) t) where
  pub rows_are : rows ≡ rows_in size t
  rows_are = e ∙ chunks size t

  -- the row at a place
  pub row_read : (i : ℕ) (x : List ℕ) → i < length rows → x ≡ get_or rows i x → x ≡ row_in size t i
  row_read i x h w = get_or_read rows i x h w [] ∙ ap (λ (l : List (List ℕ)). get_or l i []) rows_are

  -- the place of an id
  pub found_row : (id : ℕ) (r : Result ℕ ℕ) → IsSearchInRange r (length rows) → IsBinarySearchResult (λ y. nat_cmp (row_id y) id) rows r → FoundAt id (ids_in size t) (result_ok r)
  found_row id r b h =
      let z : map row_id rows ≡ ids_in size t = ap (map row_id) rows_are in
      subst (λ (l : List ℕ). FoundAt id l (result_ok r)) z (search_rows r b (keyed row_id id rows [] r b h))
    where
      search_rows : (r : Result ℕ ℕ) → IsSearchInRange r (length rows) → IsBinarySearchResult (λ y. nat_cmp y id) (map row_id rows) r → FoundAt id (map row_id rows) (result_ok r)
      search_rows (Ok k) b h = found_by_search id (map row_id rows) (Ok k) (rw length-map b) h h
      search_rows (Err i) b h = found_by_search id (map row_id rows) (Err i) (rw length-map b) tt h
