-- Cuts sorted by their parameters: to filter them is to sort those that are left, and where one cut more goes. Assumes nothing.
use mathlib.Core.Path.{◌≡◌, refl, sym, ◌∙◌}
use mathlib.Core.Bool.{Bool, true, false, cond}
use mathlib.Core.List.{List, [], ◌∷◌, ◌++◌}
use Prim.Native.Nat.{ℕ, ◌+◌, ◌≤◌, ◌<◌}
use native.Mathlib.Omega.{arith}
use borrow.Author.Tests.{ltb-true, ltb-false, lt-ltb}
use lib.Dec.{ltb}
use lib.ListN.{length}
use Rattle.float.specs.Order.{before}
use Rattle.float.proofs.TotalOrder.{key, before_key}
use Rattle.sketch.specs.Lists.{ite, keep}
use Rattle.cuts.specs.declared.Cut.{Cut}
use Rattle.cuts.specs.Lists.{last_or}
use Rattle.cuts.specs.Bracket.{insert_cut, sort_cuts}
use Rattle.cuts.specs.Nearest.{Good, Fit}

-- ---- the order, by ranks
abbrev rank : Cut → ℕ
rank k = key k.t

-- none of l stands before k
abbrev After : Cut → List Cut → Type 0
After k [] = Unit {0}
After k (m ∷ l) = (rank k ≤ rank m) × Good m × After k l

abbrev pub Sorted : List Cut → Type 0
Sorted [] = Unit {0}
Sorted (k ∷ l) = Good k × After k l × Sorted l

module _ (k j : Cut) (gk : Good k) (gj : Good j) where
  ranked : before k.t j.t ≡ ltb (rank k) (rank j)
  ranked = before_key k.t j.t gk gj

  sooner : before k.t j.t ≡ true → rank k < rank j
  sooner e = ltb-true (rank k) (rank j) (sym ranked ∙ e)

  not_sooner : before k.t j.t ≡ false → rank j ≤ rank k
  not_sooner e = ltb-false (rank k) (rank j) (sym ranked ∙ e)

  is_sooner : rank k < rank j → before k.t j.t ≡ true
  is_sooner h = ranked ∙ lt-ltb (rank k) (rank j) h

after_less : (k j : Cut) (l : List Cut) → rank k ≤ rank j → After j l → After k l
after_less k j [] h a = tt
after_less k j (m ∷ l) h a = (omega (arith, a.0), a.1, after_less k j l h a.2)

insert_after : (j k : Cut) (l : List Cut) → rank j ≤ rank k → Good k → After j l → After j (insert_cut k l)
unfolding insert_cut
insert_after j k [] h gk a = (h, gk, tt)
insert_after j k (m ∷ l) h gk a = go (before k.t m.t) (insert_after j k l h gk a.2)
  where
    go : (b : Bool) → After j (insert_cut k l) → After j (cond b (k ∷ m ∷ l) (m ∷ insert_cut k l))
    go true r = (h, gk, a)
    go false r = (a.0, a.1, r)

pub insert_sorted : (k : Cut) (s : List Cut) → Good k → Sorted s → Sorted (insert_cut k s)
unfolding insert_cut
insert_sorted k [] gk h = (gk, tt, tt)
insert_sorted k (j ∷ l) gk h = go (before k.t j.t) refl (insert_sorted k l gk h.2)
  where
    go : (b : Bool) → before k.t j.t ≡ b → Sorted (insert_cut k l) → Sorted (cond b (k ∷ j ∷ l) (j ∷ insert_cut k l))
    go true e r = let w = sooner k j gk h.0 e in (gk, (omega arith, h.0, after_less k j l (omega arith) h.1), h)
    go false e r = (h.0, insert_after j k l (not_sooner k j gk h.0 e) gk h.1, r)

pub sort_sorted : (s l : List Cut) → Fit l → Sorted s → Sorted (sort_cuts s l)
unfolding sort_cuts
sort_sorted s [] f h = h
sort_sorted s (k ∷ l) f h = sort_sorted (insert_cut k s) l f.1 (insert_sorted k s f.0 h)

pub sort_append : (s l m : List Cut) → sort_cuts s (l ++ m) ≡ sort_cuts (sort_cuts s l) m
unfolding sort_cuts
sort_append s [] m = refl
sort_append s (k ∷ l) m = sort_append (insert_cut k s) l m

-- ---- as many as there were
insert_length : (k : Cut) (l : List Cut) → length (insert_cut k l) ≡ 1 + length l
unfolding insert_cut
insert_length k [] = refl
insert_length k (j ∷ l) = go (before k.t j.t) (insert_length k l)
  where
    go : (b : Bool) → length (insert_cut k l) ≡ 1 + length l → length (cond b (k ∷ j ∷ l) (j ∷ insert_cut k l)) ≡ 1 + length (j ∷ l)
    go true e = omega arith
    go false e = omega arith

pub sort_length : (s l : List Cut) → length (sort_cuts s l) ≡ length s + length l
unfolding sort_cuts
sort_length s [] = omega arith
sort_length s (k ∷ l) = let e = sort_length (insert_cut k s) l in let f = insert_length k s in omega arith

-- ---- a filter of what is sorted
insert_ahead : (p : Cut → Bool) (k j : Cut) (l : List Cut) → Good k → rank k < rank j → After j l → insert_cut k (keep p l) ≡ k ∷ keep p l
unfolding insert_cut
insert_ahead p k j [] gk h a = refl
insert_ahead p k j (m ∷ l) gk h a = go (p m) (insert_ahead p k j l gk h a.2)
  where
    go : (b : Bool) → insert_cut k (keep p l) ≡ k ∷ keep p l → insert_cut k (ite b (m ∷ keep p l) (keep p l)) ≡ k ∷ ite b (m ∷ keep p l) (keep p l)
    go true e = let o = is_sooner k m gk a.1 (omega (arith, a.0)) in rw o
    go false e = e

insert_behind : (k j : Cut) (l : List Cut) (b d : Bool) → before k.t j.t ≡ false
    → ite d (j ∷ ite b (insert_cut k l) l) (ite b (insert_cut k l) l) ≡ ite b (insert_cut k (ite d (j ∷ l) l)) (ite d (j ∷ l) l)
unfolding insert_cut
insert_behind k j l true true e = rw e
insert_behind k j l false true e = refl
insert_behind k j l b false e = refl

pub keep_insert : (p : Cut → Bool) (k : Cut) (s : List Cut) → Good k → Sorted s → keep p (insert_cut k s) ≡ ite (p k) (insert_cut k (keep p s)) (keep p s)
unfolding insert_cut
keep_insert p k [] gk h = refl
keep_insert p k (j ∷ l) gk h = go (before k.t j.t) refl (keep_insert p k l gk h.2)
  where
    go : (b : Bool) → before k.t j.t ≡ b → keep p (insert_cut k l) ≡ ite (p k) (insert_cut k (keep p l)) (keep p l)
        → keep p (cond b (k ∷ j ∷ l) (j ∷ insert_cut k l)) ≡ ite (p k) (insert_cut k (keep p (j ∷ l))) (keep p (j ∷ l))
    go true e r =
        let a : After j (j ∷ l) = (omega arith, h.0, h.1) in
        rw (insert_ahead p k j (j ∷ l) gk (sooner k j gk h.0 e) a)
    go false e r = rw r (insert_behind k j (keep p l) (p k) (p j) e)

pub keep_sort : (p : Cut → Bool) (s l : List Cut) → Fit l → Sorted s → keep p (sort_cuts s l) ≡ sort_cuts (keep p s) (keep p l)
unfolding sort_cuts
keep_sort p s [] f h = refl
keep_sort p s (k ∷ l) f h = keep_sort p (insert_cut k s) l f.1 (insert_sorted k s f.0 h) ∙ rw (keep_insert p k s f.0 h) (go (p k))
  where
    go : (b : Bool) → sort_cuts (ite b (insert_cut k (keep p s)) (keep p s)) (keep p l) ≡ sort_cuts (keep p s) (ite b (k ∷ keep p l) (keep p l))
    go true = refl
    go false = refl

-- ---- the last of what is sorted
last_in : (j z : Cut) (l : List Cut) → rank j ≤ rank z → Good z → After j l → (rank j ≤ rank (last_or z l)) × Good (last_or z l)
unfolding last_or
last_in j z [] h g a = (h, g)
last_in j z (m ∷ l) h g a = last_in j m l a.0 a.1 a.2

-- one that stands before the first stands before the last
pub last_sooner : (k j : Cut) (l : List Cut) → Good k → Sorted (j ∷ l) → before k.t j.t ≡ true → before k.t (last_or j l).t ≡ true
last_sooner k j l gk h e =
    let u = last_in j j l (omega arith) h.0 h.1 in
    let v = sooner k j gk h.0 e in
    is_sooner k (last_or j l) gk u.1 (omega (arith, u.0))

pub last_insert : (k j : Cut) (l : List Cut) → Good k → Sorted (j ∷ l) → before k.t j.t ≡ false → last_or j (insert_cut k l) ≡ cond (before k.t (last_or j l).t) (last_or j l) k
unfolding insert_cut last_or
last_insert k j [] gk h e = rw e
last_insert k j (m ∷ l) gk h e = go (before k.t m.t) refl (λ c. last_insert k m l gk h.2 c)
  where
    go : (b : Bool) → before k.t m.t ≡ b → (before k.t m.t ≡ false → last_or m (insert_cut k l) ≡ cond (before k.t (last_or m l).t) (last_or m l) k)
        → last_or j (cond b (k ∷ m ∷ l) (m ∷ insert_cut k l)) ≡ cond (before k.t (last_or m l).t) (last_or m l) k
    go true c r = let o = last_sooner k m l gk h.2 c in rw o
    go false c r = r c
