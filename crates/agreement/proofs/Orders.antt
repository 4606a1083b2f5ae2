-- Lists by place: what stands at a place, what is taken up to it and what comes after. And what comes in order. Assumes nothing.
use mathlib.Core.Path.{◌≡◌, refl, sym, ap, ◌∙◌, subst}
use mathlib.Core.List.{List, [], ◌∷◌, ◌++◌, map, Memᴰ}
use mathlib.Core.Option.{some}
use Prim.Native.Nat.{ℕ, zero, suc, ◌+◌, ◌-◌, ◌≤◌, ◌<◌}
use native.Mathlib.Omega.{arith}
use lib.ListN.{length, take, drop, get_elem?}
use lib.Seq.{length-take-le, take-add, drop_at}
use Rattle.agreement.specs.Agreement.{Subsequence, subsequence_nil, subsequence_skip, subsequence_match}

module _ {A : Type 0} where
  pub some_inj : {a b : A} → some a ≡ some b → a ≡ b
  some_inj e = cc

  pub lookup_below : (l : List A) (k : ℕ) (a : A) → get_elem? l k ≡ some a → k < length l
  lookup_below [] k a e = let z : ◌≡◌ {A = ℕ} 0 1 = cc in omega arith
  lookup_below (x ∷ xs) zero a e = omega arith
  lookup_below (x ∷ xs) (suc k) a e = let h = lookup_below xs k a e in omega arith

  pub take_more : (l : List A) (k : ℕ) (a : A) → get_elem? l k ≡ some a → (r : List A) → take k l ++ (a ∷ r) ≡ take (suc k) l ++ r
  take_more [] k a e r = let z : ◌≡◌ {A = ℕ} 0 1 = cc in absurd (omega arith)
  take_more (x ∷ xs) zero a e r = ap (λ (y : A). y ∷ r) (some_inj (sym e))
  take_more (x ∷ xs) (suc k) a e r = ap (λ (y : List A). x ∷ y) (take_more xs k a e r)

  drop_more : (l : List A) (k : ℕ) (a : A) → get_elem? l k ≡ some a → drop k l ≡ a ∷ drop (suc k) l
  drop_more [] k a e = let z : ◌≡◌ {A = ℕ} 0 1 = cc in absurd (omega arith)
  drop_more (x ∷ xs) zero a e = ap (λ (y : A). y ∷ xs) (some_inj e)
  drop_more (x ∷ xs) (suc k) a e = drop_more xs k a e

  pub drop_end : (l : List A) (k : ℕ) → drop k l ≡ [] → length l ≤ k
  drop_end [] k e = omega arith
  drop_end (x ∷ xs) zero e = let z : ◌≡◌ {A = ℕ} 0 1 = cc in absurd (omega arith)
  drop_end (x ∷ xs) (suc k) e = let h = drop_end xs k e in omega arith

  drop_head : (l : List A) (k : ℕ) (a : A) (r : List A) → drop k l ≡ a ∷ r → get_elem? l k ≡ some a
  drop_head [] zero a r e = let z : ◌≡◌ {A = ℕ} 0 1 = cc in absurd (omega arith)
  drop_head [] (suc k) a r e = let z : ◌≡◌ {A = ℕ} 0 1 = cc in absurd (omega arith)
  drop_head (x ∷ xs) zero a r e = cc
  drop_head (x ∷ xs) (suc k) a r e = drop_head xs k a r e

  order_tail : (xs ys : List A) (a : A) → Subsequence (a ∷ xs) ys → Subsequence xs ys
  order_tail xs ys a h = go (a ∷ xs) ys h refl
    where
      go : (zs ys : List A) → Subsequence zs ys → zs ≡ a ∷ xs → Subsequence xs ys
      go zs ys subsequence_nil e = let z : ◌≡◌ {A = ℕ} 0 1 = cc in absurd (omega arith)
      go zs ys (subsequence_skip {y = y} h) e = subsequence_skip (go zs _ h e)
      go zs ys (subsequence_match {xs = t} {ys = us} q h) e = let p : t ≡ xs = cc in subsequence_skip (subst (λ (v : List A). Subsequence v us) p h)

  pub order_nil : (zs ys : List A) → Subsequence zs ys → ys ≡ [] → zs ≡ []
  order_nil zs ys subsequence_nil e = refl
  order_nil zs ys (subsequence_skip h) e = let z : ◌≡◌ {A = ℕ} 0 1 = cc in absurd (omega arith)
  order_nil zs ys (subsequence_match q h) e = let z : ◌≡◌ {A = ℕ} 0 1 = cc in absurd (omega arith)

  -- past a first element that is not looked for
  pub order_stay : (l : List A) (k : ℕ) (y : A) (ys : List A) → Subsequence (drop k l) (y ∷ ys) → (get_elem? l k ≡ some y → ⊥) → Subsequence (drop k l) ys
  order_stay l k y ys h ne = go (drop k l) (y ∷ ys) h refl refl
    where
      go : (zs us : List A) → Subsequence zs us → zs ≡ drop k l → us ≡ y ∷ ys → Subsequence (drop k l) ys
      go zs us subsequence_nil e f = subst (λ (v : List A). Subsequence v ys) e subsequence_nil
      go zs us (subsequence_skip {xs = t} {ys = vs} h) e f = let p : vs ≡ ys = cc in subst (λ (v : List A). Subsequence v ys) e (subst (λ (v : List A). Subsequence t v) p h)
      go zs us (subsequence_match {xs = t} {ys = vs} {x = a} {y = b} q h) e f =
          let p : a ≡ y = cc in
          let r : drop k l ≡ y ∷ t = sym e ∙ ap (λ (c : A). c ∷ t) p in
          absurd (ne (drop_head l k y t r))

  -- past a first element that is the one looked for
  pub order_next : (l : List A) (k : ℕ) (y : A) (ys : List A) → Subsequence (drop k l) (y ∷ ys) → get_elem? l k ≡ some y → Subsequence (drop (suc k) l) ys
  order_next l k y ys h at = go (drop k l) (y ∷ ys) h (drop_more l k y at) refl
    where
      go : (zs us : List A) → Subsequence zs us → zs ≡ y ∷ drop (suc k) l → us ≡ y ∷ ys → Subsequence (drop (suc k) l) ys
      go zs us subsequence_nil e f = let z : ◌≡◌ {A = ℕ} 0 1 = cc in absurd (omega arith)
      go zs us (subsequence_skip {xs = t} {ys = vs} h) e f =
          let p : vs ≡ ys = cc in
          order_tail (drop (suc k) l) ys y (subst (λ (v : List A). Subsequence v ys) e (subst (λ (v : List A). Subsequence t v) p h))
      go zs us (subsequence_match {xs = t} {ys = vs} q h) e f =
          let p : vs ≡ ys = cc in
          let r : t ≡ drop (suc k) l = cc in
          subst (λ (v : List A). Subsequence v ys) r (subst (λ (v : List A). Subsequence t v) p h)

  pub subsequence_same : (xs : List A) → Subsequence xs xs
  subsequence_same [] = subsequence_nil
  subsequence_same (x ∷ xs) = subsequence_match refl (subsequence_same xs)

  -- what comes after some place comes in the list
  pub member_dropped : (l : List A) (k : ℕ) (x : A) → Memᴰ x (drop k l) → Memᴰ x l
  member_dropped l zero x h = h
  member_dropped [] (suc k) x h = h
  member_dropped (y ∷ l) (suc k) x h = Memᴰ.tail (member_dropped l k x h)

  -- what follows the first n elements
  pub after_first : (l r : List A) (n k : ℕ) → n ≤ k → k ≤ length l → take n l ++ r ≡ take k l → r ≡ take (k - n) (drop n l)
  after_first l r n k a b e =
      let s : n + (k - n) ≡ k = omega arith in
      let size = length-take-le n l (omega arith) in
      sym (drop_at (take n l) r n size) ∙ ap (drop n) (e ∙ ap (λ (m : ℕ). take m l) (sym s) ∙ take-add n (k - n) l) ∙ drop_at (take n l) (take (k - n) (drop n l)) n size

module _ {A B : Type 0} (f : A → B) where
  pub map_take : (l : List A) (k : ℕ) → map f (take k l) ≡ take k (map f l)
  map_take l zero = refl
  map_take [] (suc k) = refl
  map_take (x ∷ xs) (suc k) = ap (λ (r : List B). f x ∷ r) (map_take xs k)

  pub map_drop : (l : List A) (k : ℕ) → map f (drop k l) ≡ drop k (map f l)
  map_drop l zero = refl
  map_drop [] (suc k) = refl
  map_drop (x ∷ xs) (suc k) = map_drop xs k
