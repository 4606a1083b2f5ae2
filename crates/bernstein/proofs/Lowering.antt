-- Laws of de Casteljau's scheme: four steps of it in one walk, its last few steps written out, and its parts put together. Assumes nothing.
use mathlib.Core.Path.{◌≡◌, refl, ap, ◌∙◌}
use mathlib.Core.List.{List, [], ◌∷◌, ◌++◌}
use Prim.Native.Nat.{ℕ, zero, suc, ◌+◌, ◌-◌, ◌≤◌, ◌<◌}
use native.Mathlib.Omega.{arith}
use borrow.Author.Tests.{lt-ltb, le-ltb}
use lib.ListN.{length, get_or, take, drop, set, length-set, length-take}
use lib.Seq.{take_at}
use lib.Ieee.{Float, nan}
use Rattle.float.specs.Numbers.{0f}
use Rattle.bernstein.specs.Evaluate.{mix, casteljau_step, casteljau_steps, value_of, evaluate_of}
use Rattle.bernstein.proofs.Lists.{front_more, front_all}

casteljau_length : (t : Float) (c : List Float) → length (casteljau_step t c) ≡ length c - 1
unfolding casteljau_step
casteljau_length t [] = omega arith
casteljau_length t (x ∷ []) = omega arith
casteljau_length t (x ∷ y ∷ r) = omega (arith, casteljau_length t (y ∷ r))

pub lowered_length : (t : Float) (n : ℕ) (c : List Float) → length (casteljau_steps t n c) ≡ length c - n
unfolding casteljau_steps
lowered_length t zero c = omega arith
lowered_length t (suc n) c = omega (arith, lowered_length t n (casteljau_step t c), casteljau_length t c)

lowered_add : (t : Float) (m n : ℕ) (c : List Float) → casteljau_steps t m (casteljau_steps t n c) ≡ casteljau_steps t (n + m) c
unfolding casteljau_steps
lowered_add t m zero c = let e : 0 + m ≡ m = omega arith in rw e
lowered_add t m (suc n) c = let e : suc n + m ≡ suc (n + m) = omega arith in rw e (lowered_add t m n (casteljau_step t c))

-- two neighbours mixed, j being the place behind i
mixed : (t : Float) (c : List Float) (i j : ℕ) → j ≡ i + 1 → j < length c → mix t (get_or c i nan) (get_or c j nan) ≡ get_or (casteljau_step t c) i nan
unfolding casteljau_step
mixed t [] i j e h = absurd (omega arith)
mixed t (x ∷ []) i j e h = absurd (omega arith)
mixed t (x ∷ y ∷ r) zero zero e h = absurd (omega arith)
mixed t (x ∷ y ∷ r) zero (suc zero) e h = refl
mixed t (x ∷ y ∷ r) zero (suc (suc j)) e h = absurd (omega arith)
mixed t (x ∷ y ∷ r) (suc i) zero e h = absurd (omega arith)
mixed t (x ∷ y ∷ r) (suc i) (suc j) e h = mixed t (y ∷ r) i j (omega arith) (omega arith)

-- ---- four steps in one walk

-- i places of v are done, and each step's last number is at hand
pub record Walk (t : Float) (u v₀ : List Float) (n i : ℕ) (v : List Float) (last0 last1 last2 last3 : Float) : Type 0 where
  pub within : i ≤ n
  pub count : n + 4 ≡ length u
  pub room : n ≤ length v
  pub same : length v ≡ length v₀
  pub at0 : last0 ≡ get_or u (i + 3) nan
  pub at1 : last1 ≡ get_or (casteljau_step t u) (i + 2) nan
  pub at2 : last2 ≡ get_or (casteljau_step t (casteljau_step t u)) (i + 1) nan
  pub at3 : last3 ≡ get_or (casteljau_step t (casteljau_step t (casteljau_step t u))) i nan
  pub done : v ≡ take i (casteljau_steps t 4 u) ++ drop i v₀

module _ (t : Float) (u : List Float) where
  abbrev u₁ : List Float
  u₁ = casteljau_step t u

  abbrev u₂ : List Float
  u₂ = casteljau_step t u₁

  abbrev u₃ : List Float
  u₃ = casteljau_step t u₂

  one_less : length u₁ ≡ length u - 1
  one_less = casteljau_length t u

  two_less : length u₂ ≡ length u - 2
  two_less = omega (arith, casteljau_length t u₁, casteljau_length t u)

  three_less : length u₃ ≡ length u - 3
  three_less = omega (arith, casteljau_length t u₂, two_less)

  pub start : (n : ℕ) (v : List Float) (second last0 last1 last2 l₁ l₂ last3 : Float) → n + 4 ≡ length u → 4 < length u → n ≤ length v
      → second ≡ mix t (get_or u 1 nan) (get_or u 2 nan) → last0 ≡ get_or u 3 nan → last1 ≡ mix t (get_or u 2 nan) last0 → last2 ≡ mix t second last1
      → l₁ ≡ mix t (get_or u 0 nan) (get_or u 1 nan) → l₂ ≡ mix t l₁ second → last3 ≡ mix t l₂ last2
      → Walk t u v n 0 v last0 last1 last2 last3
  start n v second last0 last1 last2 l₁ l₂ last3 hn hu hv es e0 e1 e2 f1 f2 e3 =
      let a₀ : l₁ ≡ get_or u₁ 0 nan = f1 ∙ mixed t u 0 1 (omega arith) (omega arith) in
      let a₁ : second ≡ get_or u₁ 1 nan = es ∙ mixed t u 1 2 (omega arith) (omega arith) in
      let a₂ : last1 ≡ get_or u₁ 2 nan = e1 ∙ ap (λ (x : Float). mix t (get_or u 2 nan) x) e0 ∙ mixed t u 2 3 (omega arith) (omega arith) in
      let h₁ : 2 < length u₁ = omega (arith, one_less) in
      let b₀ : l₂ ≡ get_or u₂ 0 nan = f2 ∙ rw (a₀, a₁) (mixed t u₁ 0 1 (omega arith) (omega arith)) in
      let b₁ : last2 ≡ get_or u₂ 1 nan = e2 ∙ rw (a₁, a₂) (mixed t u₁ 1 2 (omega arith) (omega arith)) in
      let h₂ : 1 < length u₂ = omega (arith, two_less) in
      let d₀ : last3 ≡ get_or u₃ 0 nan = e3 ∙ rw (b₀, b₁) (mixed t u₂ 0 1 (omega arith) (omega arith)) in
      record { within = omega arith; count = hn; room = hv; same = refl; at0 = e0; at1 = a₂; at2 = b₁; at3 = d₀; done = refl }

  module _ (v₀ v : List Float) (n i : ℕ) (last0 last1 last2 last3 : Float) (w : Walk t u v₀ n i v last0 last1 last2 last3) where
    pub turn : i < n → (next0 next1 next2 next3 out : Float) → next0 ≡ get_or u (i + 4) nan → next1 ≡ mix t last0 next0 → next2 ≡ mix t last1 next1
        → next3 ≡ mix t last2 next2 → out ≡ mix t last3 next3 → Walk t u v₀ n (i + 1) (set v i out) next0 next1 next2 next3
    unfolding casteljau_steps
    turn h next0 next1 next2 next3 out e0 e1 e2 e3 eo =
        let c : n + 4 ≡ length u = w.count in
        let a₀ : next0 ≡ get_or u (i + 1 + 3) nan = e0 ∙ ap (λ (j : ℕ). get_or u j nan) (omega arith) in
        let a₁ : next1 ≡ get_or u₁ (i + 3) nan = e1 ∙ rw (w.at0, e0) (mixed t u (i + 3) (i + 4) (omega arith) (omega arith)) in
        let h₁ : i + 3 < length u₁ = omega (arith, one_less) in
        let a₂ : next2 ≡ get_or u₂ (i + 2) nan = e2 ∙ rw (w.at1, a₁) (mixed t u₁ (i + 2) (i + 3) (omega arith) h₁) in
        let h₂ : i + 2 < length u₂ = omega (arith, two_less) in
        let a₃ : next3 ≡ get_or u₃ (i + 1) nan = e3 ∙ rw (w.at2, a₂) (mixed t u₂ (i + 1) (i + 2) (omega arith) h₂) in
        let h₃ : i + 1 < length u₃ = omega (arith, three_less) in
        let a₄ : out ≡ get_or (casteljau_steps t 4 u) i nan = eo ∙ rw (w.at3, a₃) (mixed t u₃ i (i + 1) refl h₃) in
        let g : i < length (casteljau_steps t 4 u) = omega (arith, lowered_length t 4 u) in
        let r : n ≤ length v = w.room in
        let s : length v ≡ length v₀ = w.same in
        let k : length (set v i out) ≡ length v = length-set v i out in
        record {
          within = omega arith;
          count = c;
          room = omega arith;
          same = k ∙ s;
          at0 = a₀;
          at1 = a₁ ∙ ap (λ (j : ℕ). get_or u₁ j nan) (omega arith);
          at2 = a₂ ∙ ap (λ (j : ℕ). get_or u₂ j nan) (omega arith);
          at3 = a₃;
          done = rw a₄ (front_more v₀ (casteljau_steps t 4 u) v i nan w.done (omega arith) g);
        }

    pub finish : n ≤ i → v ≡ casteljau_steps t 4 u ++ drop (length u - 4) v₀
    finish h =
        let b : i ≤ n = w.within in
        let c : n + 4 ≡ length u = w.count in
        let e : i ≡ length (casteljau_steps t 4 u) = omega (arith, lowered_length t 4 u) in
        rw (← lowered_length t 4 u) (front_all v₀ (casteljau_steps t 4 u) v i w.done e)

-- ---- the last few steps

pub none : (t : Float) (c : List Float) → length c ≡ 0 → 0f ≡ value_of c t
unfolding casteljau_steps
none t [] e = refl
none t (x ∷ c) e = absurd (omega arith)

pub single : (t : Float) (c : List Float) → length c ≡ 1 → get_or c 0 nan ≡ value_of c t
unfolding casteljau_steps
single t [] e = absurd (omega arith)
single t (x ∷ []) e = refl
single t (x ∷ y ∷ c) e = absurd (omega arith)

pub pair : (t : Float) (c : List Float) → length c ≡ 2 → mix t (get_or c 0 nan) (get_or c 1 nan) ≡ value_of c t
unfolding casteljau_steps casteljau_step
pair t [] e = absurd (omega arith)
pair t (x ∷ []) e = absurd (omega arith)
pair t (x ∷ y ∷ []) e = refl
pair t (x ∷ y ∷ z ∷ c) e = absurd (omega arith)

pub triple : (t : Float) (c : List Float) → length c ≡ 3 → mix t (mix t (get_or c 0 nan) (get_or c 1 nan)) (mix t (get_or c 1 nan) (get_or c 2 nan)) ≡ value_of c t
unfolding casteljau_steps casteljau_step
triple t [] e = absurd (omega arith)
triple t (x ∷ []) e = absurd (omega arith)
triple t (x ∷ y ∷ []) e = absurd (omega arith)
triple t (x ∷ y ∷ z ∷ []) e = refl
triple t (x ∷ y ∷ z ∷ w ∷ c) e = absurd (omega arith)

pub four : (t : Float) (c : List Float) → length c ≡ 4
    → mix t (mix t (mix t (get_or c 0 nan) (get_or c 1 nan)) (mix t (get_or c 1 nan) (get_or c 2 nan))) (mix t (mix t (get_or c 1 nan) (get_or c 2 nan)) (mix t (get_or c 2 nan) (get_or c 3 nan)))
    ≡ value_of c t
unfolding casteljau_steps casteljau_step
four t [] e = absurd (omega arith)
four t (x ∷ []) e = absurd (omega arith)
four t (x ∷ y ∷ []) e = absurd (omega arith)
four t (x ∷ y ∷ z ∷ []) e = absurd (omega arith)
four t (x ∷ y ∷ z ∷ w ∷ []) e = refl
four t (x ∷ y ∷ z ∷ w ∷ v ∷ c) e = absurd (omega arith)

-- ---- the whole

pub few : (t : Float) (c : List Float) → length c ≤ 15 → value_of c t ≡ evaluate_of c t
unfolding evaluate_of
few t c h = rw (le-ltb 15 (length c) h)

pub many : (t : Float) (c : List Float) → 15 < length c → 0f ≡ evaluate_of c t
unfolding evaluate_of
many t c h = rw (lt-ltb 15 (length c) h)

-- the front k of a buffer over which four steps were laid
module _ (t : Float) (u v v₀ : List Float) (k : ℕ) (hu : 4 < length u) (e : v ≡ casteljau_steps t 4 u ++ drop (length u - 4) v₀) (ek : k + 4 ≡ length u) where
  front : take k v ≡ casteljau_steps t 4 u
  front =
      let l : length (casteljau_steps t 4 u) ≡ k = omega (arith, lowered_length t 4 u) in
      rw (e, take_at (casteljau_steps t 4 u) (drop (length u - 4) v₀) k l)

  pub front_length : k ≡ length (take k v)
  front_length = omega (arith, ap length front, lowered_length t 4 u)

  pub front_fits : k ≤ length v
  front_fits = omega (arith, front_length, length-take k v)

  pub front_value : value_of (take k v) t ≡ value_of u t
  front_value =
      let n : length (casteljau_steps t 4 u) - 1 ≡ length u - 5 = omega (arith, lowered_length t 4 u) in
      let m : 4 + (length u - 5) ≡ length u - 1 = omega arith in
      rw (front, n, lowered_add t (length u - 5) 4 u, m)
