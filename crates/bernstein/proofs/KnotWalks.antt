-- Laws of the walks over the knots: their ends put in, the zeros among them, and the roots between neighbours. Assumes nothing.
use mathlib.Core.Path.{◌≡◌, refl, sym, ap, ◌∙◌}
use mathlib.Core.List.{List, [], ◌∷◌, ◌++◌, append-nil, append_assoc}
use mathlib.Core.Bool.{Bool, true, false}
use Prim.Native.Nat.{ℕ, suc, ◌+◌, ◌≤◌, ◌<◌}
use native.Mathlib.Numerals.{add-one}
use native.Mathlib.Omega.{arith}
use lib.ListN.{length, take, drop, get_or, set, length-set, drop_of_length-le}
use lib.Seq.{drop-cons, take-suc-set, length-take-le, take_at}
use lib.Ieee.{Float, nan}
use Rattle.bernstein.specs.Evaluate.{evaluate_of}
use Rattle.bernstein.specs.Bisect.{same_sign, bisect_of}
use Rattle.bernstein.specs.Roots.{RootsResult, found, refused, is_zero, zeros_of, no_sign_change, with_root, and_then, bisect_from, bisect_between, gathered, answer_of}
use Rattle.bernstein.specs.Clauses.{list_of, RootsAtFront}
use Rattle.bernstein.specs.declared.Bisected.{Bisected}
use Rattle.bernstein.specs.Answers.{Found, Refused}
use Rattle.std.specs.Prelude.{Option, Some, None}
use Rattle.bernstein.proofs.Lists.{pushed, front_all}

-- ---- the two ends

pub ends_put : (d ts k : List Float) (i : ℕ) (a b : Float) → k ≡ take i ts ++ drop i d → i ≡ length ts → length ts + 1 < length k
    → take (length ts + 2) (set (set k (length ts) a) (length ts + 1) b) ≡ ts ++ (a ∷ b ∷ [])
ends_put d ts k i a b e h g =
    let n = length ts in
    let g₀ : n < length k = omega arith in
    let g₁ : n + 1 < length (set k n a) = rw length-set g in
    let q : k ≡ ts ++ drop n d = front_all d ts k i e h in
    let q₂ : n + 2 ≡ suc (n + 1) = omega arith in
    rw q₂ (take-suc-set (set k n a) (n + 1) b g₁
    ∙ ap (λ (l : List Float). l ++ (b ∷ [])) (ap (λ (j : ℕ). take j (set k n a)) (add-one n) ∙ take-suc-set k n a g₀)
    ∙ append_assoc (take n k) (a ∷ []) (b ∷ [])
    ∙ ap (λ (l : List Float). l ++ (a ∷ b ∷ [])) (ap (take n) q ∙ take_at ts (drop n d) n refl))

-- ---- zeros

-- of i knots m are zeros, at the front of f
pub record Sieving (c knots : List Float) (eps : Float) (f₀ f : List Float) (m i : ℕ) : Type 0 where
  pub behind : m ≤ i
  pub within : i ≤ length knots
  pub room : length knots ≤ length f
  pub same : length f ≡ length f₀
  pub done : take m f ++ zeros_of c eps (drop i knots) ≡ zeros_of c eps knots

module _ (c knots : List Float) (eps : Float) (f₀ f : List Float) (m i : ℕ) (s : Sieving c knots eps f₀ f m i) where
  module _ (h : i < length knots) (v : Float) (ev : v ≡ evaluate_of c (get_or knots i nan)) (b : Bool) (eb : b ≡ is_zero eps v) (f' : List Float) (m' : ℕ) where
    test_at : (t : Bool) → b ≡ t → is_zero eps (evaluate_of c (get_or knots i nan)) ≡ t
    test_at t e = ap (is_zero eps) (sym ev) ∙ sym eb ∙ e

    zero_next : b ≡ true → zeros_of c eps (get_or knots i nan ∷ drop (suc i) knots) ≡ get_or knots i nan ∷ zeros_of c eps (drop (suc i) knots)
    unfolding zeros_of
    zero_next e = rw (test_at true e)

    other_next : b ≡ false → zeros_of c eps (get_or knots i nan ∷ drop (suc i) knots) ≡ zeros_of c eps (drop (suc i) knots)
    unfolding zeros_of
    other_next e = rw (test_at false e)

    pub sieved : b ≡ true → f' ≡ set f m (get_or knots i nan) → m' ≡ m + 1 → Sieving c knots eps f₀ f' m' (i + 1)
    sieved t ef em =
        let g : m ≤ i = s.behind in
        let r : length knots ≤ length f = s.room in
        let k : m < length f = omega arith in
        let l : length f' ≡ length f = ap length ef ∙ length-set f m (get_or knots i nan) in
        record {
          behind = omega arith;
          within = omega arith;
          room = omega arith;
          same = l ∙ s.same;
          done = rw (ef, em) (pushed (zeros_of c eps (drop (i + 1) knots)) f m (get_or knots i nan) k ∙ rw (add-one i, ← zero_next t, ← drop-cons knots i nan h) s.done);
        }

    pub passed_by : b ≡ false → f' ≡ f → m' ≡ m → Sieving c knots eps f₀ f' m' (i + 1)
    passed_by t ef em =
        let g : m ≤ i = s.behind in
        let r : length knots ≤ length f = s.room in
        let l : length f' ≡ length f = ap length ef in
        record {
          behind = omega arith;
          within = omega arith;
          room = omega arith;
          same = l ∙ s.same;
          done = rw (ef, em, add-one i, ← other_next t, ← drop-cons knots i nan h) s.done;
        }

  pub all_sieved : length knots ≤ i → (take m f ≡ zeros_of c eps knots) × (m ≤ length knots)
  unfolding zeros_of
  all_sieved h =
      let g : m ≤ i = s.behind in
      let k : i ≤ length knots = s.within in
      (sym (append-nil (take m f)) ∙ (rw (drop_of_length-le knots h) at s.done), omega arith)

-- ---- brackets

module _ (eps fl fh : Float) where
  pub left_zero : is_zero eps fl ≡ true → true ≡ no_sign_change eps fl fh
  unfolding no_sign_change
  left_zero e = rw e

  pub right_zero : is_zero eps fl ≡ false → is_zero eps fh ≡ true → true ≡ no_sign_change eps fl fh
  unfolding no_sign_change
  right_zero e f = rw (e, f)

  pub neither : is_zero eps fl ≡ false → is_zero eps fh ≡ false → same_sign fl fh ≡ no_sign_change eps fl fh
  unfolding no_sign_change
  neither e f = rw (e, f)

pub roots_at_front_found : (o : RootsResult) (f : List Float) (q left : ℕ) → found (take q f ++ []) left ≡ o → q ≤ length f → RootsAtFront o f (Found q left)
unfolding answer_of list_of
roots_at_front_found o f q left e h =
    let n : length (take q f ++ []) ≡ q = simp append-nil (length-take-le q f h) in
    rw (← e) (record { answer = ap (λ (m : ℕ). Found m left) (sym n); front = rw n (sym (append-nil (take q f))) })

pub roots_at_front_refused : (o : RootsResult) (f : List Float) → refused 21 0 ≡ o → RootsAtFront o f (Refused 21 0)
unfolding answer_of list_of
roots_at_front_refused o f e = rw (← e) (record { answer = refl; front = refl })

pub no_knots : (c : List Float) (eps : Float) (knots z : List Float) (b : ℕ) → length knots ≡ 0 → found (z ++ []) b ≡ gathered z (bisect_between c eps knots b)
unfolding gathered bisect_between
no_knots c eps [] z b h = refl
no_knots c eps (k ∷ knots) z b h = absurd (omega arith)

first_knot : (c : List Float) (eps : Float) (knots : List Float) (b : ℕ) → 0 < length knots → bisect_from c eps (get_or knots 0 nan) (drop 1 knots) b ≡ bisect_between c eps knots b
unfolding bisect_between
first_knot c eps [] b h = absurd (omega arith)
first_knot c eps (k ∷ knots) b h = refl

with_root_lem : (z : List Float) (r : Float) (o : RootsResult) → gathered z (with_root r o) ≡ gathered (z ++ (r ∷ [])) o
unfolding gathered with_root
with_root_lem z r (found l b) = ap (λ (x : List Float). found x b) (sym (append_assoc z (r ∷ []) l))
with_root_lem z r (refused w b) = refl

-- the knots before place i are searched, lo with the value fl being the last of them, and q roots lie at the front of f
pub record Searching (c knots : List Float) (eps : Float) (f₀ : List Float) (z budget : ℕ) (f : List Float) (q left : ℕ) (lo fl : Float) (i : ℕ) : Type 0 where
  pub within : i ≤ length knots
  pub few : q + 1 ≤ z + i
  pub room : z + length knots ≤ length f
  pub same : length f ≡ length f₀
  pub value : fl ≡ evaluate_of c lo
  pub done : gathered (take q f) (bisect_from c eps lo (drop i knots) left) ≡ gathered (take z f₀) (bisect_between c eps knots budget)

pub search_first : (c knots : List Float) (eps : Float) (f : List Float) (z budget : ℕ) (fl : Float) → 0 < length knots → z + length knots ≤ length f
    → fl ≡ evaluate_of c (get_or knots 0 nan) → Searching c knots eps f z budget f z budget (get_or knots 0 nan) fl 1
search_first c knots eps f z budget fl h g e =
    record { within = omega arith; few = omega arith; room = g; same = refl; value = e; done = ap (gathered (take z f)) (first_knot c eps knots budget h) }

module _ (c knots : List Float) (eps : Float) (f₀ : List Float) (z budget : ℕ) (f : List Float) (q left : ℕ) (lo fl : Float) (i : ℕ)
    (s : Searching c knots eps f₀ z budget f q left lo fl i) where
  abbrev whole : RootsResult
  whole = gathered (take z f₀) (bisect_between c eps knots budget)

  module _ (h : i < length knots) (fh : Float) (eh : fh ≡ evaluate_of c (get_or knots i nan)) (n : Bool) (en : n ≡ no_sign_change eps fl fh) where
    abbrev hi : Float
    hi = get_or knots i nan

    abbrev rest : ℕ → RootsResult
    rest b = bisect_from c eps hi (drop (suc i) knots) b

    test : (t : Bool) → n ≡ t → no_sign_change eps (evaluate_of c lo) (evaluate_of c hi) ≡ t
    test t e = rw (← eh, ← s.value) (sym en ∙ e)

    ahead : gathered (take q f) (bisect_from c eps lo (hi ∷ drop (suc i) knots) left) ≡ whole
    ahead = rw (← drop-cons knots i nan h) s.done

    halves : n ≡ false → bisect_from c eps lo (hi ∷ drop (suc i) knots) left ≡ and_then rest (bisect_of c 64 lo hi fl left)
    unfolding bisect_from
    halves e = rw (test false e, s.value)

    pub out_of : (x : Option Bisected) → x ≡ bisect_of c 64 lo hi fl left → x ≡ None → n ≡ false → refused 21 0 ≡ whole
    unfolding gathered and_then
    out_of x ex eo e = ap (gathered (take q f)) (sym (halves e ∙ ap (and_then rest) (sym ex ∙ eo))) ∙ ahead

    module _ (f' : List Float) (q' left' : ℕ) where
      pub passed : n ≡ true → f' ≡ f → q' ≡ q → left' ≡ left → Searching c knots eps f₀ z budget f' q' left' hi fh (i + 1)
      unfolding bisect_from
      passed e ef eq el =
          let w : q + 1 ≤ z + i = s.few in
          let r : z + length knots ≤ length f = s.room in
          let l : length f' ≡ length f = ap length ef in
          let step : bisect_from c eps lo (hi ∷ drop (suc i) knots) left ≡ rest left = rw (test true e) in
          record { within = omega arith; few = omega arith; room = omega arith; same = l ∙ s.same; value = eh; done = rw (ef, eq, el, add-one, ← step) ahead }

      pub bracketed : (r : Bisected) (x : Option Bisected) → x ≡ bisect_of c 64 lo hi fl left → x ≡ Some r → n ≡ false → f' ≡ set f q r.at → q' ≡ q + 1 → left' ≡ r.budget
          → Searching c knots eps f₀ z budget f' q' left' hi fh (i + 1)
      unfolding and_then
      bracketed r x ex ea e ef eq el =
          let w : q + 1 ≤ z + i = s.few in
          let u : z + length knots ≤ length f = s.room in
          let k : q < length f = omega arith in
          let l : length f' ≡ length f = ap length ef ∙ length-set f q r.at in
          let step : bisect_from c eps lo (hi ∷ drop (suc i) knots) left ≡ with_root r.at (rest r.budget) = halves e ∙ ap (and_then rest) (sym ex ∙ ea) in
          record {
            within = omega arith;
            few = omega arith;
            room = omega arith;
            same = l ∙ s.same;
            value = eh;
            done = rw (ef, eq, el, add-one, add-one, take-suc-set f q r.at k, ← with_root_lem (take q f) r.at (rest r.budget), ← step) ahead;
          }

  pub all_searched : length knots ≤ i → RootsAtFront whole f (Found q left)
  unfolding gathered bisect_from
  all_searched h =
      let w : q + 1 ≤ z + i = s.few in
      let g : i ≤ length knots = s.within in
      let u : z + length knots ≤ length f = s.room in
      roots_at_front_found whole f q left (rw (drop_of_length-le knots h) at s.done) (omega arith)
