-- Walks over an image's tables: what each keeps, and what each way out answers.
use mathlib.Core.Path.{◌≡◌, refl, sym, ap, ◌∙◌}
use mathlib.Core.Bool.{Bool, true, false, ◌&&◌, and-true}
use mathlib.Core.List.{List, [], ◌∷◌, ◌++◌, map, map-append}
use Prim.Native.Nat.{ℕ, suc, ◌+◌, ◌%◌, ◌≤◌, ◌<◌}
use native.Mathlib.Numerals.{add-one}
use native.Mathlib.Omega.{arith}
use lib.ListN.{length, take, get_or, set, length-set, length-map}
use lib.Seq.{take_all, take-suc, length-take-le}
use lib.Dec.{ltb}
use Rattle.sketch.specs.Lists.{ite}
use Rattle.sketch.specs.Lookup.{noted}
use Rattle.sketch.specs.Valid.{list_fault}
use Rattle.sketch.proofs.Walks.{Walk, walk_start, walk_four, walk_five, walk_on, walk_end, walk_fault, id_and_sound, table_result, list_result}
use Rattle.image.specs.Image.{row_id}
use Rattle.rows.specs.Rows.{noted_from}
use Rattle.rows.specs.Clauses.{RowsTested}
use Rattle.rows.proofs.RunBytes.{take_map}

whole : (rows : List (List ℕ)) → take (length rows) rows ≡ rows
whole rows = take_all (length rows) rows (omega arith)

-- a record without references fits by its id alone
pub alone : (x : Bool) {t : Bool} → x ≡ t → (x && true) ≡ t
alone x e = and-true x ∙ e

-- ---- guesses

-- one more id is noted
noted_last : (near : List ℕ) (i : ℕ) (ids : List ℕ) (id : ℕ) → noted_from near i (ids ++ (id ∷ [])) ≡ noted (noted_from near i ids) id (i + length ids)
unfolding noted_from
noted_last near i [] id = let z : i + 0 ≡ i = omega arith in rw z
noted_last near i (j ∷ ids) id =
    let z : i + suc (length ids) ≡ suc i + length ids = omega arith in
    rw z (noted_last (noted near j i) (suc i) ids id)

length_noted : (near : List ℕ) (id i : ℕ) → length (noted near id i) ≡ length near
length_noted near id i = go (ltb (id % 1024) (length near))
  where
    go : (b : Bool) → length (ite b (set near (id % 1024) (i % 65536)) near) ≡ length near
    go true = length-set near (id % 1024) (i % 65536)
    go false = refl

-- ---- records with ids

module _ (good sound : List ℕ → Bool) (next : ℕ) where
  abbrev fits : ℕ → List ℕ → Bool
  fits = id_and_sound row_id sound next

  -- i records are passed, the last of them with the id `last`, and their places are noted
  pub record RowsWalk (rows : List (List ℕ)) (before near : List ℕ) (last i : ℕ) : Type 0 where
    pub walk : Walk good fits row_id rows (length rows) last i
    pub guesses : near ≡ noted_from before 0 (take i (map row_id rows))
    pub long : length near ≡ length before

  pub rows_start : (rows : List (List ℕ)) (near : List ℕ) → RowsWalk rows near near 0 0
  unfolding noted_from
  rows_start rows near = record { walk = walk_start good fits row_id rows (length rows) (omega arith); guesses = refl; long = refl }

  module _ {rows : List (List ℕ)} {before near : List ℕ} {last i : ℕ} (w : RowsWalk rows before near last i) where
    tested : (r : ℕ) → r ≡ walk_fault good fits row_id 0 (take (length rows) rows) → (r ≡ 0 → length rows ≤ i) → RowsTested good sound next rows before near r
    tested r e h =
        record {
          number = e ∙ ap (walk_fault good fits row_id 0) (whole rows) ∙ table_result row_id good sound next 0 rows;
          passed = i;
          noted_are = w.guesses;
          long = w.long;
          all_passed = λ z. omega (arith, h z, w.walk.within);
        }

    pub rows_end : length rows ≤ i → RowsTested good sound next rows before near 0
    rows_end h = tested 0 (walk_end good fits row_id rows (length rows) last i w.walk h) (λ z. h)

    module _ (h : i < length rows) {row : List ℕ} (at : row ≡ get_or rows i []) where
      pub rows_four : {t : Bool} → t ≡ good row → t ≡ false → RowsTested good sound next rows before near 4
      rows_four g e = tested 4 (walk_four good fits row_id [] rows (length rows) last i w.walk h (sym (g ∙ ap good at) ∙ e)) (λ z. absurd (omega arith))

      module _ {t : Bool} (g : t ≡ good row) (ok : t ≡ true) {s : Bool} (f : s ≡ sound row) {id : ℕ} (k : id ≡ row_id row) where
        good_row : good (get_or rows i []) ≡ true
        good_row = sym (g ∙ ap good at) ∙ ok

        fit_row : (ltb last id && ltb id next && s) ≡ fits last (get_or rows i [])
        fit_row = rw (f, k, at)

        pub rows_five : (ltb last id && ltb id next && s) ≡ false → RowsTested good sound next rows before near 5
        rows_five e = tested 5 (walk_five good fits row_id [] rows (length rows) last i w.walk h good_row (sym fit_row ∙ e)) (λ z. absurd (omega arith))

        pub rows_on : (ltb last id && ltb id next && s) ≡ true → {then : List ℕ} → then ≡ noted near id i → RowsWalk rows before then id (i + 1)
        rows_on e {then} n =
            let q : id ≡ row_id (get_or rows i []) = k ∙ ap row_id at in
            let m : take (i + 1) (map row_id rows) ≡ take i (map row_id rows) ++ (id ∷ []) =
            rw (add-one, take_map row_id (suc i) rows, take-suc rows i [] h, map-append, take_map row_id i rows, q) in
            let l : length (take i (map row_id rows)) ≡ i = ap length (take_map row_id i rows) ∙ rw length-map (length-take-le i rows (omega arith)) in
            let z : 0 + length (take i (map row_id rows)) ≡ i = omega arith in
            record {
              walk = rw q (walk_on good fits row_id [] rows (length rows) last i w.walk h good_row (sym fit_row ∙ e));
              guesses = n ∙ sym (ap (noted_from before 0) m ∙ noted_last before 0 (take i (map row_id rows)) id ∙ rw (z, w.guesses));
              long = ap length n ∙ length_noted near id i ∙ w.long;
            }

-- ---- records without ids

module _ (good sound : List ℕ → Bool) where
  pub record ListWalk (rows : List (List ℕ)) (i : ℕ) : Type 0 where
    pub walk : Walk good (λ last r. sound r) (λ r. 0) rows (length rows) 0 i

  pub list_start : (rows : List (List ℕ)) → ListWalk rows 0
  list_start rows = record { walk = walk_start good (λ last r. sound r) (λ r. 0) rows (length rows) (omega arith) }

  module _ {rows : List (List ℕ)} {i : ℕ} (w : ListWalk rows i) where
    say : (r : ℕ) → r ≡ walk_fault good (λ last r. sound r) (λ r. 0) 0 (take (length rows) rows) → r ≡ list_fault good sound rows
    say r e = e ∙ ap (walk_fault good (λ last r. sound r) (λ r. 0) 0) (whole rows) ∙ list_result (λ (r : List ℕ). r) good sound rows ∙ ap (list_fault good sound) (same rows)
      where
        same : (l : List (List ℕ)) → map (λ r. r) l ≡ l
        same [] = refl
        same (a ∷ l) = ap (λ (t : List (List ℕ)). a ∷ t) (same l)

    pub list_end : length rows ≤ i → 0 ≡ list_fault good sound rows
    list_end h = say 0 (walk_end good (λ last r. sound r) (λ r. 0) rows (length rows) 0 i w.walk h)

    module _ (h : i < length rows) {row : List ℕ} (at : row ≡ get_or rows i []) {t : Bool} (g : t ≡ good row) where
      pub list_four : t ≡ false → 4 ≡ list_fault good sound rows
      list_four e = say 4 (walk_four good (λ last r. sound r) (λ r. 0) [] rows (length rows) 0 i w.walk h (sym (g ∙ ap good at) ∙ e))

      module _ (ok : t ≡ true) {s : Bool} (f : s ≡ sound row) where
        pub list_five : s ≡ false → 5 ≡ list_fault good sound rows
        list_five e = say 5 (walk_five good (λ last r. sound r) (λ r. 0) [] rows (length rows) 0 i w.walk h (sym (g ∙ ap good at) ∙ ok) (sym (f ∙ ap sound at) ∙ e))

        pub list_on : s ≡ true → ListWalk rows (i + 1)
        list_on e = record { walk = walk_on good (λ last r. sound r) (λ r. 0) [] rows (length rows) 0 i w.walk h (sym (g ∙ ap good at) ∙ ok) (sym (f ∙ ap sound at) ∙ e) }
