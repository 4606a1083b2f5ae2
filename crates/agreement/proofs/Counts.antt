-- How often an id is in a list: beside whether it is there, in a list of one, and in what is kept of a list. Assumes nothing.
use mathlib.Core.Path.{◌≡◌, refl, sym, ap, ◌∙◌}
use mathlib.Core.Bool.{Bool, true, false, ◌||◌}
use mathlib.Core.List.{List, [], ◌∷◌}
use Prim.Native.Nat.{ℕ, ◌+◌, ◌≤◌, ◌<◌}
use native.Mathlib.Omega.{arith}
use native.Mathlib.Decide.{ℕ_discrete}
use lib.Dec.{ltb, eqb}
use borrow.Author.Tests.{ltb-true, ltb-false, lt-ltb, le-ltb}
use Rattle.sketch.specs.Lists.{ite, keep}
use Rattle.sketch.specs.Lookup.{among}
use Rattle.sketch.proofs.Bools.{never}
use Rattle.edit_plan.specs.Counts.{occurrences}
use Rattle.edit_plan.proofs.Tables.{occ_same, occ_other}

pub among_count : (i : ℕ) (l : List ℕ) → among i l ≡ ltb 0 (occurrences i l)
among_count i [] = refl
among_count i (x ∷ l) = go (eqb i x) (among_count i l)
  where
    go : (b : Bool) → among i l ≡ ltb 0 (occurrences i l) → b || among i l ≡ ltb 0 (ite b 1 0 + occurrences i l)
    go true h = sym (lt-ltb 0 (1 + occurrences i l) (omega arith))
    go false h = let e : occurrences i l ≡ 0 + occurrences i l = omega arith in h ∙ ap (ltb 0) e

pub among_as : (i : ℕ) (xs ys : List ℕ) → occurrences i xs ≡ occurrences i ys → among i xs ≡ among i ys
among_as i xs ys e = among_count i xs ∙ ap (ltb 0) e ∙ sym (among_count i ys)

pub there : (i : ℕ) (l : List ℕ) → 0 < occurrences i l → among i l ≡ true
there i l h = among_count i l ∙ lt-ltb 0 (occurrences i l) h

pub away : (i : ℕ) (l : List ℕ) → occurrences i l ≡ 0 → among i l ≡ false
away i l h = among_count i l ∙ le-ltb 0 (occurrences i l) (omega arith)

pub there_count : (i : ℕ) (l : List ℕ) → among i l ≡ true → 0 < occurrences i l
there_count i l h = ltb-true 0 (occurrences i l) (sym (among_count i l) ∙ h)

pub away_count : (i : ℕ) (l : List ℕ) → among i l ≡ false → occurrences i l ≡ 0
away_count i l h = let q = ltb-false 0 (occurrences i l) (sym (among_count i l) ∙ h) in omega arith

pub one_is : (i x : ℕ) → 0 < occurrences i (x ∷ []) → i ≡ x
one_is i x h = go (ℕ_discrete i x)
  where
    go : Dec (i ≡ x) → i ≡ x
    go (yes e) = e
    go (no ne) = absurd (omega (arith, occ_other i x [] ne))

pub at_most : (i x : ℕ) → occurrences i (x ∷ []) ≤ 1
at_most i x = go (ℕ_discrete i x)
  where
    go : Dec (i ≡ x) → occurrences i (x ∷ []) ≤ 1
    go (yes q) = omega (arith, ap (λ (j : ℕ). occurrences j (x ∷ [])) q, occ_same x [])
    go (no ne) = omega (arith, occ_other i x [] ne)

pub kept : (f : ℕ → Bool) (i : ℕ) (l : List ℕ) → f i ≡ true → occurrences i (keep f l) ≡ occurrences i l
kept f i [] h = refl
kept f i (x ∷ l) h = go (f x) refl (kept f i l h)
  where
    go : (b : Bool) → f x ≡ b → occurrences i (keep f l) ≡ occurrences i l → occurrences i (ite b (x ∷ keep f l) (keep f l)) ≡ occurrences i (x ∷ l)
    go true q ih = omega arith
    go false q ih = ih ∙ sym (occ_other i x l (λ e. never (sym q ∙ ap f (sym e) ∙ h)))

pub dropped : (f : ℕ → Bool) (i : ℕ) (l : List ℕ) → f i ≡ false → occurrences i (keep f l) ≡ 0
dropped f i [] h = refl
dropped f i (x ∷ l) h = go (f x) refl (dropped f i l h)
  where
    go : (b : Bool) → f x ≡ b → occurrences i (keep f l) ≡ 0 → occurrences i (ite b (x ∷ keep f l) (keep f l)) ≡ 0
    go true q ih = occ_other i x (keep f l) (λ e. never (sym h ∙ ap f e ∙ q)) ∙ ih
    go false q ih = ih
