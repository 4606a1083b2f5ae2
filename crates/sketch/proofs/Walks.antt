-- Walks over a table: the walk_fault on the whole is the walk_fault on what is left, and the columns hold what is done.
use mathlib.Core.Path.{◌≡◌, refl, sym, ap, ◌∙◌}
use mathlib.Core.Bool.{Bool, true, false, ◌&&◌}
use mathlib.Core.List.{List, [], ◌∷◌, ◌++◌, map}
use Prim.Native.Nat.{ℕ, ◌+◌, ◌≤◌, ◌<◌}
use native.Mathlib.Numerals.{add-one}
use native.Mathlib.Omega.{arith}
use lib.ListN.{length, take, drop, get_or, set, length-take, length-set, drop_of_length-le}
use lib.Seq.{slice-cons, take-suc, take-suc-set, drop-cons}
use lib.Dec.{ltb}
use Rattle.std.specs.List.{list_all}
use Rattle.sketch.specs.Lists.{every, guard_number}
use Rattle.sketch.specs.Valid.{table_fault, list_fault}

-- ---- a test of every entry, as a chain of iterators has it

pub every_by_all : {A : Type 0} (f : A → Bool) (l : List A) → every f l ≡ list_all f l
every_by_all f [] = refl
every_by_all f (a ∷ l) = ap (λ t. f a && t) (every_by_all f l)

-- ---- a test of every entry, from the i-th on

module _ {A : Type 0} (f : A → Bool) (l : List A) (i : ℕ) where
  every_next : (d : A) → i < length l → every f (drop i l) ≡ (f (get_or l i d) && every f (drop (i + 1) l))
  every_next d h = rw (add-one, drop-cons l i d h)

  pub every_fails : (d : A) → i < length l → f (get_or l i d) ≡ false → every f (drop i l) ≡ false
  every_fails d h e = every_next d h ∙ rw e

  pub every_passes : (d : A) → i < length l → f (get_or l i d) ≡ true → every f (drop i l) ≡ every f (drop (i + 1) l)
  every_passes d h e = every_next d h ∙ rw e

  pub every_done : length l ≤ i → every f (drop i l) ≡ true
  every_done h = rw (drop_of_length-le l h)

-- ---- the first broken rule of a table's records

module _ {A : Type 0} (ok : A → Bool) (fits : ℕ → A → Bool) (id : A → ℕ) where
  -- 4 where a record's values are wrong, 5 where it does not fit after the one before
  abbrev pub walk_fault : ℕ → List A → ℕ
  walk_fault last [] = 0
  walk_fault last (a ∷ l) = guard_number (ok a) 4 (guard_number (fits last a) 5 (walk_fault (id a) l))

  -- i records are passed, the last of them with the id `last`, and n are there
  pub record Walk (xs : List A) (n last i : ℕ) : Type 0 where
    pub within : i ≤ n
    pub enough : n ≤ length xs
    pub same : walk_fault 0 (take n xs) ≡ walk_fault last (drop i (take n xs))

  pub walk_start : (xs : List A) (n : ℕ) → n ≤ length xs → Walk xs n 0 0
  walk_start xs n h = record { within = omega arith; enough = h; same = refl }

  module _ (d : A) (xs : List A) (n last i : ℕ) (w : Walk xs n last i) where
    next_record : i < n → walk_fault 0 (take n xs) ≡ guard_number (ok (get_or xs i d)) 4 (guard_number (fits last (get_or xs i d)) 5 (walk_fault (id (get_or xs i d)) (drop (i + 1) (take n xs))))
    next_record h = w.same ∙ rw (add-one, slice-cons i n xs d h w.enough)

    pub walk_four : i < n → ok (get_or xs i d) ≡ false → 4 ≡ walk_fault 0 (take n xs)
    unfolding guard_number
    walk_four h e = sym (next_record h ∙ rw e)

    pub walk_five : i < n → ok (get_or xs i d) ≡ true → fits last (get_or xs i d) ≡ false → 5 ≡ walk_fault 0 (take n xs)
    unfolding guard_number
    walk_five h e f = sym (next_record h ∙ rw (e, f))

    pub walk_on : i < n → ok (get_or xs i d) ≡ true → fits last (get_or xs i d) ≡ true → Walk xs n (id (get_or xs i d)) (i + 1)
    unfolding guard_number
    walk_on h e f = record { within = omega arith; enough = w.enough; same = next_record h ∙ rw (e, f) }

  pub walk_end : (xs : List A) (n last i : ℕ) → Walk xs n last i → n ≤ i → 0 ≡ walk_fault 0 (take n xs)
  walk_end xs n last i w h =
      let e : length (take n xs) ≤ i = rw length-take (omega arith) in
      sym (w.same ∙ rw (drop_of_length-le (take n xs) e))

module _ {A : Type 0} where
  -- a record of a table with ids fits where its id is above the last and below the next, and its references are sound
  abbrev pub id_and_sound : (A → ℕ) → (A → Bool) → ℕ → ℕ → A → Bool
  id_and_sound id sound next last a = ltb last (id a) && ltb (id a) next && sound a

  pub table_result : (id : A → ℕ) (ok sound : A → Bool) (next last : ℕ) (l : List A) → walk_fault ok (id_and_sound id sound next) id last l ≡ table_fault id ok sound next last l 0
  table_result id ok sound next last [] = refl
  table_result id ok sound next last (a ∷ l) = ap (λ t. guard_number (ok a) 4 (guard_number (id_and_sound id sound next last a) 5 t)) (table_result id ok sound next (id a) l)

  -- a table without ids, of which each record stands in a slot
  pub list_result : {B : Type 0} (g : A → B) (ok sound : B → Bool) (l : List A) → walk_fault (λ a. ok (g a)) (λ last a. sound (g a)) (λ a. 0) 0 l ≡ list_fault ok sound (map g l)
  list_result g ok sound [] = refl
  list_result g ok sound (a ∷ l) = ap (λ t. guard_number (ok (g a)) 4 (guard_number (sound (g a)) 5 t)) (list_result g ok sound l)

-- ---- columns

module _ {A : Type 0} (f : A → ℕ) (xs : List A) where
  -- a column holds a number of each record that is done
  pub record Column (before column : List ℕ) (i : ℕ) : Type 0 where
    pub long : length column ≡ length before
    pub filled : take i column ≡ map f (take i xs)

  pub column_start : (column : List ℕ) → Column column column 0
  column_start column = record { long = refl; filled = refl }

  pub column_on : (d : A) (before column : List ℕ) (i v : ℕ) → i < length xs → i < length column → v ≡ f (get_or xs i d) → Column before column i → Column before (set column i v) (i + 1)
  column_on d before column i v h k e c =
      record {
        long = rw length-set c.long;
        filled = rw (add-one, take-suc-set, take-suc xs i d h, c.filled, e) (sym (snoc (take i xs)));
      }
    where
      snoc : (l : List A) → map f (l ++ get_or xs i d ∷ []) ≡ map f l ++ f (get_or xs i d) ∷ []
      snoc [] = refl
      snoc (a ∷ l) = ap (λ t. f a ∷ t) (snoc l)
