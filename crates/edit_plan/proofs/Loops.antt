-- For the code: what a test leaves is `concat_map` (and `keep`); a place is a look-up; a store at the place of an id is `map`. Assumes nothing.
use mathlib.Core.Path.{◌≡◌, refl, ap, sym, ◌∙◌}
use mathlib.Core.Bool.{Bool, true, false, ◌||◌}
use mathlib.Core.List.{List, [], ◌∷◌, ◌++◌, map}
use mathlib.Core.Option.{some}
use Prim.Native.Nat.{ℕ, zero, suc, ◌≤◌, ◌<◌, ◌+◌}
use native.Mathlib.Omega.{arith}
use native.Mathlib.Numerals.{add-one}
use lib.Dec.{eqb}
use lib.ListN.{length, take, get_or, set, length-take, drop, drop_of_length-le}
use lib.Seq.{get_or-take, take-set-lt, drop-cons}
use borrow.Author.Tests.{eq-eqb, ne_eqb}
use Rattle.std.proofs.lemmas.Bool.Decides.{nat_tests}
use Rattle.std.specs.List.{list_any}
use Rattle.sketch.specs.declared.Curve.{Curve}
use Rattle.sketch.specs.declared.CurveKind.{CurveKind}
use Rattle.sketch.specs.Lists.{ite, keep, concat_map}
use Rattle.sketch.specs.Lookup.{among}
use Rattle.sketch.specs.Drawing.{curve_ids, curve_in}
use Rattle.sketch.specs.Blanks.{no_curve}
use Rattle.sketch.specs.Facts.{Rising}
use Rattle.edit_plan.specs.Tables.{rekind}
use Rattle.edit_plan.specs.Changes.{recut}

pub map_append : {A B : Type 0} (f : A → B) (xs ys : List A) → map f (xs ++ ys) ≡ map f xs ++ map f ys
map_append f [] ys = refl
map_append f (x ∷ xs) ys = ap (λ t. f x ∷ t) (map_append f xs ys)

-- ---- what a test leaves

abbrev pub single : {A : Type 0} → (A → Bool) → A → List A
single f a = ite (f a) (a ∷ []) []

-- `keep` is a `concat_map`, so that one law serves both
pub keep_is : {A : Type 0} (f : A → Bool) (l : List A) → concat_map (single f) l ≡ keep f l
keep_is f [] = refl
keep_is f (a ∷ l) = go (f a) (keep_is f l)
  where
    go : (b : Bool) → concat_map (single f) l ≡ keep f l → ite b (a ∷ []) [] ++ concat_map (single f) l ≡ ite b (a ∷ keep f l) (keep f l)
    go true h = ap (λ t. a ∷ t) h
    go false h = h

-- ---- a search

module _ (p n i : ℕ) (l : List ℕ) where
  pub among_next : i < n → i < length l → among p (drop i (take n l)) ≡ (eqb p (get_or l i 0) || among p (drop (i + 1) (take n l)))
  among_next h k =
      let e : i < length (take n l) = rw length-take (omega arith) in
      rw (add-one, drop-cons (take n l) i 0 e, get_or-take n l i 0 h)

  pub among_end : n ≤ i → among p (drop i (take n l)) ≡ false
  among_end h =
      let e : length (take n l) ≤ i = rw length-take (omega arith) in
      rw (drop_of_length-le (take n l) e)

  pub among_past : length l ≤ i → among p (drop i (take n l)) ≡ false
  among_past h =
      let e : length (take n l) ≤ i = rw length-take (omega arith) in
      rw (drop_of_length-le (take n l) e)

eqb_flip : (a b : ℕ) → eqb a b ≡ eqb b a
eqb_flip a b = grind (arith, nat_tests)

pub any_among : (p : ℕ) (l : List ℕ) → list_any (λ q. eqb q p) l ≡ among p l
any_among p [] = refl
any_among p (q ∷ l) = rw (eqb_flip q p, any_among p l)

-- ---- ids rise, so the place of an id is the only one

module _ {A : Type 0} (id : A → ℕ) (z : A) where
  above : (n b : ℕ) (l : List A) (k : ℕ) → Rising n b (map id l) → k < length l → b < id (get_or l k z)
  above n b [] k h q = absurd (omega arith)
  above n b (a ∷ l) zero h q = h.0
  above n b (a ∷ l) (suc k) h q = let i = above n (id a) l k h.2 (omega arith) in omega (arith, h.0)

  module _ (t : ℕ) (f : A → A) (f-other : (a : A) → (id a ≡ t → ⊥) → f a ≡ a) where
    map_none : (n b : ℕ) (l : List A) → Rising n b (map id l) → t ≤ b → map f l ≡ l
    map_none n b [] h q = refl
    map_none n b (a ∷ l) h q = rw (f-other a (λ e. omega (arith, h.0))) (ap (λ r. a ∷ r) (map_none n (id a) l h.2 (omega (arith, h.0))))

    -- a store at the place of t
    set_is_map : (n b : ℕ) (l : List A) (k : ℕ) → Rising n b (map id l) → k < length l → id (get_or l k z) ≡ t → set l k (f (get_or l k z)) ≡ map f l
    set_is_map n b [] k h q e = absurd (omega arith)
    set_is_map n b (a ∷ l) zero h q e = ap (λ r. f a ∷ r) (sym (map_none n (id a) l h.2 (omega arith)))
    set_is_map n b (a ∷ l) (suc k) h q e =
        let u = above n (id a) l k h.2 (omega arith) in
        rw (f-other a (λ i. omega arith)) (ap (λ r. a ∷ r) (set_is_map n (id a) l k h.2 (omega arith) e))

-- what a look-up by place finds is what `curve_in` finds
pub look_at : (z : Curve) (n b : ℕ) (cs : List Curve) (k : ℕ) → Rising n b (curve_ids cs) → k < length cs → curve_in cs (get_or cs k z).id ≡ some (get_or cs k z)
unfolding curve_in
look_at z n b [] k h q = absurd (omega arith)
look_at z n b (c ∷ cs) zero h q = rw (eq-eqb c.id c.id refl)
look_at z n b (c ∷ cs) (suc k) h q =
    let u = above (λ (x : Curve). x.id) z n c.id cs k h.2 (omega arith) in
    rw (ne_eqb (get_or cs k z).id c.id (λ e. omega arith)) (look_at z n c.id cs k h.2 (omega arith))

-- another kind, stored at a curve's place
pub recut_is_map :
    (m n : ℕ) (l : List Curve) (k : ℕ) (q : CurveKind) → k < n → n ≤ length l → Rising m 0 (curve_ids (take n l))
    → take n (set l k (recut (get_or l k no_curve) q)) ≡ map (rekind (get_or l k no_curve).id q) (take n l)
recut_is_map m n l k q h b r =
    let c = get_or l k no_curve in
    let e : get_or (take n l) k no_curve ≡ c = get_or-take n l k no_curve h in
    let u : rekind c.id q c ≡ recut c q = rw (eq-eqb c.id c.id refl) in
    take-set-lt n l k (recut c q) h
    ∙ ap (set (take n l) k) (sym u ∙ ap (rekind c.id q) (sym e))
    ∙ set_is_map (λ (x : Curve). x.id) no_curve c.id (rekind c.id q) (λ x ne. rw (ne_eqb c.id x.id (λ z. ne (sym z)))) m 0 (take n l) k r (rw length-take (omega arith)) (ap (λ (x : Curve). x.id) e)
