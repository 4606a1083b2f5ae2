-- How many roots there are at most: two more a level, since a pair of neighbouring knots is searched only where neither is a root itself. Assumes nothing.
use mathlib.Core.Path.{◌≡◌, refl}
use mathlib.Core.List.{List, [], ◌∷◌, ◌++◌}
use mathlib.Core.Bool.{Bool, true, false, cond}
use Prim.Native.Nat.{ℕ, zero, suc, ◌+◌, ◌-◌, ◌*◌, ◌≤◌}
use native.Mathlib.Omega.{arith}
use lib.ListN.{length, length-append}
use lib.Dec.{eqb, ltb}
use lib.Ieee.{Float, lt}
use Rattle.float.specs.Numbers.{◌⊖◌, 0f, 1f, 1e-13, 1e-10}
use Rattle.float.specs.Sign.{abs}
use Rattle.bernstein.specs.Evaluate.{evaluate_of}
use Rattle.bernstein.specs.Bisect.{bisect_of}
use Rattle.float.specs.Magnitude.{all_finite}
use Rattle.bernstein.specs.Roots.{RootsResult, found, refused, tiny, tolerance_of, slopes, derivative_of, sort_onto, insert, dedup_after, dedup_of, knots_of, is_zero, zeros_of, no_sign_change, with_root, and_then, bisect_from, bisect_between, gathered, sorted_dedup, level_of, on_level, roots_at, roots_of}
use Rattle.std.specs.Prelude.{Option, Some, None}
use Rattle.bernstein.specs.declared.Bisected.{Bisected}
use Rattle.bernstein.proofs.OrderWalks.{insert_length}

abbrev pub count : RootsResult → ℕ
count (found l b) = length l
count (refused w b) = 0

slopes_length : (k : Float) (c : List Float) → length (slopes k c) ≡ length c - 1
unfolding slopes
slopes_length k [] = omega arith
slopes_length k (x ∷ []) = omega arith
slopes_length k (x ∷ y ∷ r) = omega (arith, slopes_length k (y ∷ r))

pub derivative_length : (c : List Float) → length (derivative_of c) ≡ length c - 1
unfolding derivative_of
derivative_length c = slopes_length _ c

cond_length : (t : Bool) (a b : List Float) (n : ℕ) → length a ≤ n → length b ≤ n → length (cond t a b) ≤ n
cond_length true a b n h k = h
cond_length false a b n h k = k

pub sort_length : (s l : List Float) → length (sort_onto s l) ≡ length s + length l
unfolding sort_onto
sort_length s [] = omega arith
sort_length s (x ∷ l) = omega (arith, sort_length (insert x s) l, insert_length x s)

after_length : (w k : Float) (l : List Float) → length (dedup_after w k l) ≤ length l
unfolding dedup_after
after_length w k [] = omega arith
after_length w k (x ∷ l) =
    cond_length (lt (abs (x ⊖ k)) w) (dedup_after w k l) (x ∷ dedup_after w x l) _ (omega (arith, after_length w k l)) (omega (arith, after_length w x l))

pub dedup_length : (w : Float) (l : List Float) → length (dedup_of w l) ≤ length l
unfolding dedup_of
dedup_length w [] = omega arith
dedup_length w (x ∷ l) = omega (arith, after_length w x l)

pub knots_length : (ts : List Float) → length (knots_of ts) ≤ length ts + 2
unfolding knots_of
knots_length ts =
    let e = 0f ∷ 1f ∷ [] in
    omega (arith, dedup_length 1e-13 (sort_onto [] (ts ++ e)), sort_length [] (ts ++ e), length-append ts e)

sorted_dedup_count : (z : List Float) (o : RootsResult) → count (sorted_dedup (gathered z o)) ≤ length z + count o
unfolding sorted_dedup gathered
sorted_dedup_count z (found l b) = omega (arith, dedup_length 1e-10 (sort_onto [] (z ++ l)), sort_length [] (z ++ l), length-append z l)
sorted_dedup_count z (refused w b) = omega arith

with_count_lem : (r : Float) (o : RootsResult) → count (with_root r o) ≤ suc (count o)
unfolding with_root
with_count_lem r (found l b) = omega arith
with_count_lem r (refused w b) = omega arith

then_count : (rest : ℕ → RootsResult) (x : Option Bisected) (n : ℕ) → ((b : ℕ) → count (rest b) ≤ n) → count (and_then rest x) ≤ suc n
unfolding and_then
then_count rest (Some r) n h = omega (arith, with_count_lem r.at (rest r.budget), h r.budget)
then_count rest None n h = omega arith

-- a knot is a zero, or the right end of a bracket, or neither
one_each : (n z o₁ o₂ : ℕ) → z + o₁ ≤ n → z + o₂ ≤ suc n → (t b : Bool) → (t ≡ true → b ≡ true) → cond t (suc z) z + cond b o₁ o₂ ≤ suc n
one_each n z o₁ o₂ h k true true f = omega arith
one_each n z o₁ o₂ h k true false f = let e : false ≡ true = f refl in let x : ◌≡◌ {A = ℕ} 0 1 = cc in absurd (omega arith)
one_each n z o₁ o₂ h k false true f = omega arith
one_each n z o₁ o₂ h k false false f = omega arith

cond_cons : (t : Bool) (x : Float) (l : List Float) → length (cond t (x ∷ l) l) ≡ cond t (suc (length l)) (length l)
cond_cons true x l = refl
cond_cons false x l = refl

cond_count : (t : Bool) (o p : RootsResult) → count (cond t o p) ≡ cond t (count o) (count p)
cond_count true o p = refl
cond_count false o p = refl

always : (t : Bool) → cond t true true ≡ true
always true = refl
always false = refl

zero_no_bracket : (eps fl fh : Float) → is_zero eps fh ≡ true → no_sign_change eps fl fh ≡ true
unfolding no_sign_change
zero_no_bracket eps fl fh e = rw e (always (is_zero eps fl))

module _ (c : List Float) (eps : Float) where
  after_count : (lo : Float) (l : List Float) (b : ℕ) → length (zeros_of c eps l) + count (bisect_from c eps lo l b) ≤ length l
  unfolding zeros_of bisect_from
  after_count lo [] b = omega arith
  after_count lo (hi ∷ l) b =
      let z = length (zeros_of c eps l) in
      let x = bisect_of c 64 lo hi (evaluate_of c lo) b in
      let rest : ℕ → RootsResult = λ b'. bisect_from c eps hi l b' in
      let k : count (and_then rest x) ≤ suc (length l - z) = then_count rest x (length l - z) (λ b'. omega (arith, after_count hi l b')) in
      let m : z + count (rest b) ≤ length l = after_count hi l b in
      rw (cond_cons (is_zero eps (evaluate_of c hi)) hi (zeros_of c eps l), cond_count (no_sign_change eps (evaluate_of c lo) (evaluate_of c hi)) (rest b) (and_then rest x))
      (one_each (length l) z (count (rest b)) (count (and_then rest x)) m (omega arith)
      (is_zero eps (evaluate_of c hi)) (no_sign_change eps (evaluate_of c lo) (evaluate_of c hi)) (zero_no_bracket eps (evaluate_of c lo) (evaluate_of c hi)))

  all_count : (l : List Float) (b : ℕ) → length (zeros_of c eps l) + count (bisect_between c eps l b) ≤ length l
  unfolding zeros_of bisect_between
  all_count [] b = omega arith
  all_count (k ∷ l) b =
      let h : length (cond (is_zero eps (evaluate_of c k)) (k ∷ zeros_of c eps l) (zeros_of c eps l)) ≤ suc (length (zeros_of c eps l))
      = cond_length (is_zero eps (evaluate_of c k)) (k ∷ zeros_of c eps l) (zeros_of c eps l) _ (omega arith) (omega arith) in
      omega (arith, after_count k l b)

-- two more than the derivative has
pub level_count : (c ts : List Float) (b : ℕ) → count (level_of c ts b) ≤ length ts + 2
unfolding level_of
level_count c ts b =
    let eps = tolerance_of c in
    omega (arith, sorted_dedup_count (zeros_of c eps (knots_of ts)) (bisect_between c eps (knots_of ts) b), all_count c eps (knots_of ts) b, knots_length ts)

on_count : (c : List Float) (o : RootsResult) (n : ℕ) → count o ≤ n → count (on_level c o) ≤ n + 2
unfolding on_level
on_count c (found ts b) n h = omega (arith, level_count c ts b)
on_count c (refused w b) n h = omega arith

cond_bound : (t : Bool) (o p : RootsResult) (n : ℕ) → count o ≤ n → count p ≤ n → count (cond t o p) ≤ n
cond_bound true o p n h k = h
cond_bound false o p n h k = k

pub at_count : (n : ℕ) (c : List Float) (b : ℕ) → count (roots_at n c b) ≤ 2 * (n - 1)
unfolding roots_at
at_count zero c b = omega arith
at_count (suc zero) c b =
    cond_bound (all_finite c) _ (refused 20 b) _ (cond_bound (tiny c) (found [] b) _ _ (omega arith) (omega arith)) (omega arith)
at_count (suc (suc n)) c b =
    let h : count (on_level c (roots_at (suc n) (derivative_of c) b)) ≤ 2 * (suc (suc n) - 1)
    = omega (arith, on_count c (roots_at (suc n) (derivative_of c) b) _ (at_count (suc n) (derivative_of c) b)) in
    cond_bound (all_finite c) _ (refused 20 b) _
    (cond_bound (tiny c) (found [] b) _ _ (omega arith) (cond_bound (eqb (suc n) 0) (found [] b) _ _ (omega arith) h))
    (omega arith)

-- Of d + 1 coefficients there are at most 2 * d roots.
pub roots_count : (c : List Float) (b : ℕ) → count (roots_of c b) ≤ 2 * (length c - 1)
unfolding roots_of
roots_count c b = cond_bound (ltb 15 (length c)) (refused 20 b) (roots_at (length c) c b) _ (omega arith) (at_count (length c) c b)
