-- The first entry of a list that fails a test: what a search keeps, and what its answer says. Assumes nothing.
use mathlib.Core.Path.{◌≡◌, refl, sym, ap, ◌∙◌}
use mathlib.Core.Bool.{Bool, true, false, not, ◌&&◌}
use mathlib.Core.List.{List, [], ◌∷◌, ◌++◌, map}
use Prim.Native.Nat.{ℕ, zero, suc, ◌+◌, ◌≤◌, ◌<◌}
use native.Mathlib.Numerals.{add-one}
use native.Mathlib.Omega.{arith}
use lib.ListN.{length, take, drop, get_or, length-take, drop_of_length-le}
use lib.Seq.{drop-cons, get_or-take}
use lib.Dec.{leb}
use borrow.Author.Tests.{leb-true, leb-false}
use Rattle.sketch.specs.declared.Relation.{Relation}
use Rattle.sketch.specs.Lists.{ite, every}
use Rattle.sketch.proofs.Bools.{never}
use Rattle.sketch.specs.Drawing.{Drawing}
use Rattle.relations.specs.Met.{met, all_met, first_failing, first_unmet}

-- there is an entry at the place, and it fails the test
abbrev pub fails_at : {A : Type 0} → (A → Bool) → List A → ℕ → Bool
fails_at f [] k = false
fails_at f (a ∷ l) zero = not (f a)
fails_at f (a ∷ l) (suc k) = fails_at f l k

-- the relation at the place is not met
abbrev pub unmet_at : Drawing → ℕ → Bool
unmet_at d k = fails_at (met d.points d.curves) d.relations k

-- ---- the search

-- i entries are passed, of the n that count
pub record Passed {A B : Type 0} (f : B → Bool) (g : A → B) (n : ℕ) (xs : List A) (i : ℕ) : Type 0 where
  pub same : first_failing f (map g (take n xs)) ≡ i + first_failing f (map g (drop i (take n xs)))

module _ {A B : Type 0} {f : B → Bool} {g : A → B} {n : ℕ} {xs : List A} where
  pub search_start : Passed f g n xs 0
  search_start = record { same = omega arith }

  module _ {i : ℕ} (w : Passed f g n xs i) where
    abbrev first : ℕ
    first = first_failing f (map g (take n xs))

    abbrev later : ℕ → ℕ
    later k = first_failing f (map g (drop k (take n xs)))

    pub search_end : length (take n xs) ≤ i → i ≡ first
    search_end e = let z : later i ≡ 0 = rw (drop_of_length-le (take n xs) e) in omega (arith, w.same, z)

    module _ (d : A) (h : i < n) (k : i < length xs) where
      next : (b : Bool) → f (g (get_or xs i d)) ≡ b → later i ≡ ite b (suc (later (i + 1))) 0
      next b e =
          let q : i < length (take n xs) = rw length-take (omega arith) in
          rw (add-one, drop-cons (take n xs) i d q, get_or-take n xs i d h, e)

      pub search_here : f (g (get_or xs i d)) ≡ false → i ≡ first
      search_here e = let z = next false e in omega (arith, w.same, z)

      pub search_on : f (g (get_or xs i d)) ≡ true → Passed f g n xs (i + 1)
      search_on e = let z = next true e in record { same = omega (arith, w.same, z) }

-- ---- the answer

module _ {A : Type 0} (f : A → Bool) where
  pub none_fails : (l : List A) → length l ≤ first_failing f l → every f l ≡ true
  none_fails [] h = refl
  none_fails (a ∷ l) h = go (f a) refl (none_fails l)
    where
      go : (b : Bool) → f a ≡ b → (length l ≤ first_failing f l → every f l ≡ true) → every f (a ∷ l) ≡ true
      go true e k = let u : first_failing f (a ∷ l) ≡ suc (first_failing f l) = rw e in rw e (k (omega (arith, u)))
      go false e k = let u : first_failing f (a ∷ l) ≡ 0 = rw e in absurd (omega (arith, u))

  pub fails_there : (l : List A) → first_failing f l < length l → fails_at f l (first_failing f l) ≡ true
  fails_there [] h = absurd (omega arith)
  fails_there (a ∷ l) h = go (f a) refl (fails_there l)
    where
      go : (b : Bool) → f a ≡ b → (first_failing f l < length l → fails_at f l (first_failing f l) ≡ true) → fails_at f (a ∷ l) (first_failing f (a ∷ l)) ≡ true
      go true e k = let u : first_failing f (a ∷ l) ≡ suc (first_failing f l) = rw e in rw u (k (omega (arith, u)))
      go false e k = let u : first_failing f (a ∷ l) ≡ 0 = rw e in rw (u, e)

  pub some_fails : (l : List A) → first_failing f l < length l → every f l ≡ false
  some_fails [] h = absurd (omega arith)
  some_fails (a ∷ l) h = go (f a) refl (some_fails l)
    where
      go : (b : Bool) → f a ≡ b → (first_failing f l < length l → every f l ≡ false) → every f (a ∷ l) ≡ false
      go true e k = let u : first_failing f (a ∷ l) ≡ suc (first_failing f l) = rw e in rw e (k (omega (arith, u)))
      go false e k = rw e

  pub passed_first : (l : List A) (k : ℕ) → k < first_failing f l → fails_at f l k ≡ false
  passed_first [] k h = refl
  passed_first (a ∷ l) zero h = go (f a) h
    where
      go : (b : Bool) → 0 < ite b (suc (first_failing f l)) 0 → not b ≡ false
      go true h = refl
      go false h = absurd (omega arith)
  passed_first (a ∷ l) (suc k) h = go (f a) h (passed_first l k)
    where
      go : (b : Bool) → suc k < ite b (suc (first_failing f l)) 0 → (k < first_failing f l → fails_at f l k ≡ false) → fails_at f l k ≡ false
      go true h t = t (omega arith)
      go false h t = absurd (omega arith)

  pub first_within : (l : List A) → first_failing f l ≤ length l
  first_within [] = omega arith
  first_within (a ∷ l) = go (f a) (first_within l)
    where
      go : (b : Bool) → first_failing f l ≤ length l → ite b (suc (first_failing f l)) 0 ≤ length (a ∷ l)
      go true h = omega arith
      go false h = omega arith

  -- ---- of a list that others follow

  pub first_in_front : (xs ys : List A) → first_failing f xs < length xs → first_failing f (xs ++ ys) ≡ first_failing f xs
  first_in_front [] ys h = absurd (omega arith)
  first_in_front (x ∷ xs) ys h = go (f x) h (first_in_front xs ys)
    where
      go :
          (b : Bool) → ite b (suc (first_failing f xs)) 0 < length (x ∷ xs) → (first_failing f xs < length xs → first_failing f (xs ++ ys) ≡ first_failing f xs)
          → ite b (suc (first_failing f (xs ++ ys))) 0 ≡ ite b (suc (first_failing f xs)) 0
      go true h k = ap suc (k (omega arith))
      go false h k = refl

  pub first_behind : (xs ys : List A) → every f xs ≡ true → first_failing f (xs ++ ys) ≡ length xs + first_failing f ys
  first_behind [] ys h = omega arith
  first_behind (x ∷ xs) ys h = go (f x) h (first_behind xs ys)
    where
      go :
          (b : Bool) → (b && every f xs) ≡ true → (every f xs ≡ true → first_failing f (xs ++ ys) ≡ length xs + first_failing f ys)
          → ite b (suc (first_failing f (xs ++ ys))) 0 ≡ length (x ∷ xs) + first_failing f ys
      go true h k = let u = k h in omega arith
      go false h k = never h

-- ---- what is told of a drawing's relations

module _ (d : Drawing) where
  abbrev test : Relation → Bool
  test = met d.points d.curves

  -- where not all are met, the relation at the place told is not met
  pub first_unmet_fails : all_met d ≡ false → unmet_at d (first_unmet d) ≡ true
  first_unmet_fails h = go (leb (length d.relations) (first_unmet d)) refl
    where
      go : (b : Bool) → leb (length d.relations) (first_unmet d) ≡ b → unmet_at d (first_unmet d) ≡ true
      go true e = never (sym h ∙ none_fails test d.relations (leb-true _ _ e))
      go false e = fails_there test d.relations (leb-false _ _ e)

  -- and those before it are met
  pub first_unmet_first : (k : ℕ) → k < first_unmet d → unmet_at d k ≡ false
  first_unmet_first k h = passed_first test d.relations k h
