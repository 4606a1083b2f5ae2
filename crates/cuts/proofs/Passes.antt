-- One pass over some cuts finds the first or the last of those that sorting finds. Assumes nothing.
use mathlib.Core.Path.{◌≡◌, refl, sym, ap, ◌∙◌}
use mathlib.Core.Bool.{Bool, true, false, cond, beq}
use mathlib.Core.List.{List, [], ◌∷◌, ◌++◌}
use Rattle.std.specs.Prelude.{Option, Some, None, option_to_list}
use Prim.Native.Nat.{ℕ, ◌+◌, ◌<◌}
use native.Mathlib.Numerals.{add-one}
use lib.ListN.{length, take, get_or}
use lib.Seq.{take-suc}
use lib.Ieee.{Float}
use Rattle.float.specs.Order.{before}
use Rattle.sketch.specs.Lists.{ite, keep}
use Rattle.cuts.specs.declared.Cut.{Cut}
use Rattle.cuts.specs.Lists.{last_or}
use Rattle.cuts.specs.Bracket.{insert_cut, sort_cuts, last_one, first_one}
use Rattle.cuts.specs.Nearest.{Good, Fit, nearer, end_of, sorted, nearest}
use Rattle.sketch.proofs.Lists.{keep_append}
use Rattle.cuts.proofs.Sorting.{Sorted, sort_append, sort_sorted, last_sooner, last_insert}

-- ---- the first or the last of a sorted list, after one cut more
unfoldable better : Bool → Cut → List Cut → List Cut
better last k [] = k ∷ []
better last k (f ∷ l) = cond (beq (before k.t f.t) last) (f ∷ []) (k ∷ [])

pub end_none : (last : Bool) → end_of last [] ≡ []
unfolding end_of last_one first_one
end_none true = refl
end_none false = refl

first_insert : (k : Cut) (s : List Cut) → first_one (insert_cut k s) ≡ better false k (first_one s)
unfolding insert_cut first_one better
first_insert k [] = refl
first_insert k (j ∷ l) = go (before k.t j.t)
  where
    go : (b : Bool) → first_one (cond b (k ∷ j ∷ l) (j ∷ insert_cut k l)) ≡ cond (beq b false) (j ∷ []) (k ∷ [])
    go true = refl
    go false = refl

last_better : (k : Cut) (s : List Cut) → Good k → Sorted s → last_one (insert_cut k s) ≡ better true k (last_one s)
unfolding insert_cut last_one last_or better
last_better k [] gk h = refl
last_better k (j ∷ l) gk h = go (before k.t j.t) refl
  where
    one : (b : Bool) (f : Cut) → cond b f k ∷ [] ≡ cond (beq b true) (f ∷ []) (k ∷ [])
    one true f = refl
    one false f = refl

    go : (b : Bool) → before k.t j.t ≡ b → last_one (cond b (k ∷ j ∷ l) (j ∷ insert_cut k l)) ≡ cond (beq (before k.t (last_or j l).t) true) (last_or j l ∷ []) (k ∷ [])
    go true e = rw (last_sooner k j l gk h e)
    go false e = ap (λ (m : Cut). m ∷ []) (last_insert k j l gk h e) ∙ one (before k.t (last_or j l).t) (last_or j l)

end_insert : (last : Bool) (k : Cut) (s : List Cut) → Good k → Sorted s → end_of last (insert_cut k s) ≡ better last k (end_of last s)
unfolding end_of
end_insert true k s gk h = last_better k s gk h
end_insert false k s gk h = first_insert k s

-- the better of two, as the code takes it
better_nearer : (last : Bool) (best : Option Cut) (k : Cut) → better last k (option_to_list best) ≡ nearer last best k ∷ []
unfolding better nearer
better_nearer last None k = refl
better_nearer last (Some b) k = go (beq (before k.t b.t) last)
  where
    go : (x : Bool) → cond x (b ∷ []) (k ∷ []) ≡ cond x b k ∷ []
    go true = refl
    go false = refl

pub nearer_first : (last : Bool) {best : Option Cut} (k : Cut) → best ≡ None → k ≡ nearer last best k
unfolding nearer
nearer_first last k e = rw e

module _ (last : Bool) {best : Option Cut} {b : Cut} (k : Cut) (e : best ≡ Some b) (x : Bool) (ex : x ≡ before k.t b.t) where
  pub nearer_stays : beq x last ≡ true → b ≡ nearer last best k
  unfolding nearer
  nearer_stays h = rw (e, ← ex, h)

  pub nearer_moves : beq x last ≡ false → k ≡ nearer last best k
  unfolding nearer
  nearer_moves h = rw (e, ← ex, h)

-- ---- the pass
sorted_more : (q : Cut → Bool) (l : List Cut) (k : Cut) → sorted q (l ++ k ∷ []) ≡ ite (q k) (insert_cut k (sorted q l)) (sorted q l)
unfolding sort_cuts
sorted_more q l k = rw (keep_append q l (k ∷ [])) (sort_append [] (keep q l) (keep q (k ∷ [])) ∙ go (q k))
  where
    go : (b : Bool) → sort_cuts (sorted q l) (ite b (k ∷ []) []) ≡ ite b (insert_cut k (sorted q l)) (sorted q l)
    go true = refl
    go false = refl

pub fit_append : (l m : List Cut) → Fit l → Fit m → Fit (l ++ m)
fit_append [] m f g = g
fit_append (k ∷ l) m f g = (f.0, fit_append l m f.1 g)

pub fit_keep : (q : Cut → Bool) (l : List Cut) → Fit l → Fit (keep q l)
fit_keep q [] f = tt
fit_keep q (k ∷ l) f = go (q k) (fit_keep q l f.1)
  where
    go : (b : Bool) → Fit (keep q l) → Fit (ite b (k ∷ keep q l) (keep q l))
    go true r = (f.0, r)
    go false r = r

pub fit_more : (cuts : List Cut) (i : ℕ) (z : Cut) → i < length cuts → Fit (take i cuts) → Good (get_or cuts i z) → Fit (take (i + 1) cuts)
fit_more cuts i z h f g = rw (add-one, take-suc cuts i z h) (fit_append (take i cuts) (get_or cuts i z ∷ []) f (g, tt))

module _ (last : Bool) (p : Float → Bool) where
  pub pass_start : [] ≡ nearest last p []
  unfolding sort_cuts
  pass_start = sym (end_none last)

  module _ (cuts : List Cut) (i : ℕ) (fit : Fit (take i cuts)) (h : i < length cuts) (best : Option Cut) (w : option_to_list best ≡ nearest last p (take i cuts)) (k z : Cut) (e : k ≡ get_or cuts i z) (g : Good k) where
    next : (b : Bool) → p k.t ≡ b → nearest last p (take (i + 1) cuts) ≡ ite b (better last k (option_to_list best)) (option_to_list best)
    next b q =
        let test : Cut → Bool = λ c. p c.t in
        let front : List Cut = take i cuts in
        let f : Fit (keep test front) = fit_keep test front fit in
        rw (add-one, take-suc cuts i z h, ← e, sorted_more test front k, q) (go b (sort_sorted [] (keep test front) f tt))
      where
        go : (b : Bool) → Sorted (sorted (λ c. p c.t) (take i cuts)) → end_of last (ite b (insert_cut k (sorted (λ c. p c.t) (take i cuts))) (sorted (λ c. p c.t) (take i cuts))) ≡ ite b (better last k (option_to_list best)) (option_to_list best)
        go true o = end_insert last k _ g o ∙ ap (better last k) (sym w)
        go false o = sym w

    pub pass_takes : (after : Cut) → p k.t ≡ true → after ≡ nearer last best k → option_to_list (Some after) ≡ nearest last p (take (i + 1) cuts)
    pass_takes after q a = ap (λ (c : Cut). c ∷ []) a ∙ sym (better_nearer last best k) ∙ sym (next true q)

    pub pass_skips : p k.t ≡ false → option_to_list best ≡ nearest last p (take (i + 1) cuts)
    pass_skips q = sym (next false q)
