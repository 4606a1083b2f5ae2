-- Laws of one level and of the search over levels: what each way out answers and leaves. Assumes nothing.
use mathlib.Core.Path.{◌≡◌, refl, sym, ap, ◌∙◌}
use mathlib.Core.List.{List, [], ◌∷◌, ◌++◌}
use mathlib.Core.Bool.{Bool, true, false}
use Prim.Native.Nat.{ℕ, zero, suc, ◌+◌, ◌-◌, ◌≤◌, ◌<◌}
use native.Mathlib.Omega.{arith}
use borrow.Author.Tests.{ne_eqb, lt-ltb, le-ltb}
use lib.ListN.{length, take, drop, length-append, length-take}
use lib.Seq.{take_at, take-append-le}
use lib.Ieee.{Float, lt}
use Rattle.float.specs.Numbers.{◌⊗◌, 0f, 1f, 1e-28, 2e-13, 1e-13, 1e-10}
use Rattle.float.specs.Magnitude.{all_finite, largest_of, Largest, NotFinite, magnitude_of}
use Rattle.float.proofs.LargestMagnitude.{magnitude_largest, magnitude_not_finite}
use Rattle.bernstein.specs.Roots.{RootsResult, found, refused, tiny, tolerance_of, derivative_of, sort_onto, dedup_of, knots_of, zeros_of, bisect_between, gathered, sorted_dedup, level_of, on_level, roots_at, roots_of, search_of, answer_of, left_in, Searched}
use Rattle.bernstein.specs.Clauses.{list_of, RootsAtFront}
use Rattle.bernstein.specs.Answers.{Answer, Found, Refused}
use Rattle.bernstein.proofs.Counts.{count, level_count, roots_count, derivative_length}

-- ---- what a call answers and leaves, once its outcome is known

pub refuses : (o : RootsResult) (w b : ℕ) (lent : List Float) → o ≡ refused w b → Searched o lent lent (Refused w b)
unfolding answer_of left_in
refuses o w b lent e = rw e (record { answer = refl; buffer = refl })

pub finds_none : (o : RootsResult) (b : ℕ) (lent : List Float) → o ≡ found [] b → Searched o lent lent (Found 0 b)
unfolding answer_of left_in
finds_none o b lent e = rw e (record { answer = refl; buffer = refl })

pub finds : (o : RootsResult) (l : List Float) (n b : ℕ) (lent later : List Float) → o ≡ found l b → n ≡ length l → later ≡ l ++ drop (length l) lent → Searched o lent later (Found n b)
unfolding answer_of left_in
finds o l n b lent later e en el = rw e (record { answer = ap (λ (m : ℕ). Found m b) en; buffer = el })

refusal_is : (o : RootsResult) (w b : ℕ) → Refused w b ≡ answer_of o → o ≡ refused w b
unfolding answer_of
refusal_is (found ts b') w b e = let z : ◌≡◌ {A = ℕ} 0 1 = cc in absurd (omega arith)
refusal_is (refused w' b') w b e = cc

-- ---- one level

-- the derivative's roots and the ends, tidied in place: j is the buffer before, t its part afterwards, and m how many are kept
module _ (ts j t : List Float) (m : ℕ) (ej : take (length ts + 2) j ≡ ts ++ (0f ∷ 1f ∷ [])) where
  pub part_length : length ts + 2 ≡ length (take (length ts + 2) j)
  part_length = sym (ap length ej ∙ length-append ts (0f ∷ 1f ∷ []))

  module _ (et : take m t ≡ dedup_of 1e-13 (sort_onto [] (take (length ts + 2) j))) (em : m ≡ length (dedup_of 1e-13 (sort_onto [] (take (length ts + 2) j))))
      (lt : length t ≡ length (take (length ts + 2) j)) where
    kept_length : m ≡ length (take m t)
    kept_length = em ∙ sym (ap length et)

    kept_fits : m ≤ length t
    kept_fits = omega (arith, kept_length, length-take m t)

    front : take m (t ++ drop (length ts + 2) j) ≡ take m t
    front = take-append-le m t (drop (length ts + 2) j) kept_fits

    pub knots_are : take m (t ++ drop (length ts + 2) j) ≡ knots_of ts
    unfolding knots_of
    knots_are = front ∙ et ∙ ap (λ (l : List Float). dedup_of 1e-13 (sort_onto [] l)) ej

    pub knots_fit : m ≤ length (t ++ drop (length ts + 2) j)
    knots_fit = simp length-append (omega (arith, kept_fits))

    pub knots_counted : m ≡ length (take m (t ++ drop (length ts + 2) j))
    knots_counted = kept_length ∙ ap length (sym front)

    pub knots_few : length (take m (t ++ drop (length ts + 2) j)) ≤ length ts + 2
    knots_few = omega (arith, knots_counted, kept_fits, lt, part_length)

-- what lies between the zeros and their tidying: k the knots, z the zeros and s the largest coefficient
module _ (c ts k z : List Float) (b : ℕ) (s : Float) (ek : k ≡ knots_of ts) (es : s ≡ largest_of 0f c) (ez : z ≡ zeros_of c (s ⊗ 2e-13) k) where
  pub level_is : level_of c ts b ≡ sorted_dedup (gathered z (bisect_between c (s ⊗ 2e-13) k b))
  unfolding level_of tolerance_of
  level_is = rw (ez, ek, es)

module _ (c ts : List Float) (b : ℕ) (o : RootsResult) (el : level_of c ts b ≡ sorted_dedup o) (f : List Float) (r : Answer) (at_front : RootsAtFront o f r) where
  pub level_refused : (w left : ℕ) → r ≡ Refused w left → level_of c ts b ≡ refused w left
  unfolding sorted_dedup
  level_refused w left e = el ∙ ap sorted_dedup (refusal_is o w left (sym e ∙ at_front.answer))

  module _ (q left : ℕ) (e : r ≡ Found q left) where
    found_is : (o : RootsResult) → Found q left ≡ answer_of o → take (length (list_of o)) f ≡ list_of o → (o ≡ found (take q f) left) × (q ≡ length (take q f))
    unfolding answer_of list_of
    found_is (found l b') a g =
        let e₁ : length l ≡ q = cc in
        let e₂ : b' ≡ left = cc in
        let e₃ : l ≡ take q f = sym g ∙ ap (λ (n : ℕ). take n f) e₁ in
        (rw e₂ (ap (λ (x : List Float). found x left) e₃), sym e₁ ∙ ap length e₃)
    found_is (refused w b') a g = let z : ◌≡◌ {A = ℕ} 0 1 = cc in absurd (omega arith)

    pub level_found : level_of c ts b ≡ found (dedup_of 1e-10 (sort_onto [] (take q f))) left
    unfolding sorted_dedup
    level_found = el ∙ ap sorted_dedup (found_is o (sym e ∙ at_front.answer) at_front.front).0

    pub q_counted : q ≡ length (take q f)
    q_counted = (found_is o (sym e ∙ at_front.answer) at_front.front).1

    pub q_fits : q ≤ length f
    q_fits = omega (arith, q_counted, length-take q f)

    pub level_few : length (dedup_of 1e-10 (sort_onto [] (take q f))) ≤ length ts + 2
    level_few = omega (arith, level_count c ts b, ap count level_found)

-- ---- the search, by its first test that decides

pub none_given : (c : List Float) (b : ℕ) → length c ≡ 0 → roots_of c b ≡ refused 20 b
unfolding roots_of roots_at
none_given [] b e = refl
none_given (x ∷ c) b e = absurd (omega arith)

pub too_many : (c : List Float) (b : ℕ) → 15 < length c → roots_of c b ≡ refused 20 b
unfolding roots_of
too_many c b h = rw (lt-ltb 15 (length c) h)

module _ (c : List Float) (b : ℕ) (h : length c ≤ 15) where
  pub not_finite : 0 < length c → (k : ℕ) → magnitude_of c ≡ NotFinite k → roots_of c b ≡ refused 20 b
  unfolding roots_of roots_at
  not_finite g k e = rw (le-ltb 15 (length c) h) (at (length c) g)
    where
      at : (n : ℕ) → 0 < n → roots_at n c b ≡ refused 20 b
      at zero g = absurd (omega arith)
      at (suc n) g = rw (magnitude_not_finite c k e).0

  module _ (m : Float) (e : magnitude_of c ≡ Largest m) where
    all_finite_lem : all_finite c ≡ true
    all_finite_lem = (magnitude_largest c m e).0

    tiny_is : (t : Bool) → lt m 1e-28 ≡ t → tiny c ≡ t
    unfolding tiny
    tiny_is t l = rw (← (magnitude_largest c m e).1) l

    pub all_tiny : 0 < length c → lt m 1e-28 ≡ true → roots_of c b ≡ found [] b
    unfolding roots_of roots_at
    all_tiny g t = rw (le-ltb 15 (length c) h) (at (length c) g)
      where
        at : (n : ℕ) → 0 < n → roots_at n c b ≡ found [] b
        at zero g = absurd (omega arith)
        at (suc n) g = rw (all_finite_lem, tiny_is true t)

    module _ (t : lt m 1e-28 ≡ false) where
      pub constant : length c ≡ 1 → roots_of c b ≡ found [] b
      unfolding roots_of roots_at
      constant g = rw (le-ltb 15 (length c) h, g, all_finite_lem, tiny_is false t)

      steps : 1 < length c → roots_of c b ≡ on_level c (roots_of (derivative_of c) b)
      unfolding roots_of roots_at
      steps g =
          let k : length c - 1 ≤ 15 = omega arith in
          rw (derivative_length c, le-ltb 15 (length c) h, le-ltb 15 (length c - 1) k) (at (length c) g)
        where
          at : (n : ℕ) → 1 < n → roots_at n c b ≡ on_level c (roots_at (n - 1) (derivative_of c) b)
          at zero g = absurd (omega arith)
          at (suc zero) g = absurd (omega arith)
          at (suc (suc n)) g =
              let k : suc (suc n) - 1 ≡ suc n = omega arith in
              rw (k, all_finite_lem, tiny_is false t, ne_eqb (suc n) 0 (λ x. omega arith))

-- ---- after the call of itself: d holds the derivative, r is the answer, and k what z became

module _ (c d k z : List Float) (b : ℕ) (r : Answer) (hc : 1 < length c) (h : length c ≤ 15) (ed : take (length c - 1) d ≡ derivative_of c)
    (es : Searched (roots_of (take (length c - 1) d) b) z k r) where
  below : roots_of (take (length c - 1) d) b ≡ roots_of (derivative_of c) b
  below = ap (λ (x : List Float). roots_of x b) ed

  module _ (m left : ℕ) (e : r ≡ Found m left) where
    found_is_below : (o : RootsResult) → Found m left ≡ answer_of o → k ≡ left_in o z → (o ≡ found (take m k) left) × (m ≡ length (take m k))
    unfolding answer_of left_in
    found_is_below (found ts b') a f =
        let e₁ : length ts ≡ m = cc in
        let e₂ : b' ≡ left = cc in
        let e₃ : take m k ≡ ts = ap (take m) f ∙ take_at ts (drop (length ts) z) m e₁ in
        (rw (e₂, e₃), sym e₁ ∙ ap length (sym e₃))
    found_is_below (refused w b') a f = let z : ◌≡◌ {A = ℕ} 0 1 = cc in absurd (omega arith)

    sub_found : roots_of (derivative_of c) b ≡ found (take m k) left
    sub_found = sym below ∙ (found_is_below _ (sym e ∙ es.answer) es.buffer).0

    pub sub_length : m ≡ length (take m k)
    sub_length = (found_is_below _ (sym e ∙ es.answer) es.buffer).1

    pub sub_fits : m ≤ length k
    sub_fits = omega (arith, sub_length, length-take m k)

    pub sub_few : length (take m k) ≤ 26
    sub_few = omega (arith, roots_count (derivative_of c) b, ap count sub_found, derivative_length c)

    pub sub_level : (top : Float) → magnitude_of c ≡ Largest top → lt top 1e-28 ≡ false → roots_of c b ≡ level_of c (take m k) left
    unfolding on_level
    sub_level top f t = steps c b h top f t hc ∙ ap (on_level c) sub_found

  pub sub_refused : (w left : ℕ) → r ≡ Refused w left → (top : Float) → magnitude_of c ≡ Largest top → lt top 1e-28 ≡ false → roots_of c b ≡ refused w left
  unfolding on_level
  sub_refused w left e top f t = steps c b h top f t hc ∙ ap (on_level c) (sym below ∙ refusal_is _ w left (sym e ∙ es.answer))

-- ---- the room

pub room_short : (room : ℕ) (c : List Float) (b : ℕ) → room < 28 → search_of room c b ≡ refused 25 b
unfolding search_of
room_short room c b h = rw (lt-ltb room 28 h)

pub room_enough : (room : ℕ) (c : List Float) (b : ℕ) → 28 ≤ room → search_of room c b ≡ roots_of c b
unfolding search_of
room_enough room c b h = rw (le-ltb room 28 h)

-- a search of an outcome is one of any equal outcome
pub renamed : (o p : RootsResult) (lent later : List Float) (r : Answer) → o ≡ p → Searched p lent later r → Searched o lent later r
renamed o p lent later r e s = rw e s
