-- How many steps are spent at most: 64 between two neighbouring knots, so at each level 64 for every root of the derivative and 64 more;
-- together 64 times the square of the degree. What is spent is what of the budget is not left. Assumes nothing.
use mathlib.Core.Path.{◌≡◌, refl}
use mathlib.Core.List.{List, [], ◌∷◌}
use mathlib.Core.Bool.{Bool, true, false, cond}
use Prim.Native.Nat.{ℕ, zero, suc, ◌+◌, ◌-◌, ◌*◌, ◌≤◌}
use native.Mathlib.Nat.{suc-mul, mul-suc}
use native.Mathlib.Omega.{arith}
use borrow.Author.Tests.{eqb-true}
use lib.Dec.{eqb, ltb}
use lib.ListN.{length}
use lib.Ieee.{Float}
use Rattle.bernstein.specs.Evaluate.{evaluate_of}
use Rattle.bernstein.specs.Bisect.{middle, narrow, same_sign, bisect_of}
use Rattle.float.specs.Magnitude.{all_finite}
use Rattle.bernstein.specs.Roots.{RootsResult, found, refused, tiny, tolerance_of, derivative_of, knots_of, zeros_of, no_sign_change, with_root, and_then, bisect_from, bisect_between, gathered, sorted_dedup, level_of, on_level, roots_at, roots_of}
use Rattle.std.specs.Prelude.{Option, Some, None}
use Rattle.bernstein.specs.declared.Bisected.{Bisected}
use Rattle.bernstein.proofs.Counts.{count, knots_length, at_count}

abbrev pub left : RootsResult → ℕ
left (found l b) = b
left (refused w b) = b

abbrev remains : Option Bisected → ℕ
remains (Some r) = r.budget
remains None = 0

-- ---- between two knots

cond_remains : (t : Bool) (x y : Option Bisected) (b n : ℕ) → b ≤ remains x + n → b ≤ remains y + n → b ≤ remains (cond t x y) + n
cond_remains true x y b n h k = h
cond_remains false x y b n h k = k

bisect_spends : (c : List Float) (k : ℕ) (lo hi fl : Float) (b : ℕ) → b ≤ remains (bisect_of c k lo hi fl b) + k
unfolding bisect_of
bisect_spends c zero lo hi fl b = omega arith
bisect_spends c (suc k) lo hi fl b =
    let m = middle lo hi in
    let f = evaluate_of c m in
    let above = bisect_of c k m hi f (b - 1) in
    let below = bisect_of c k lo m fl (b - 1) in
    let h : b ≤ remains above + suc k = omega (arith, bisect_spends c k m hi f (b - 1)) in
    let g : b ≤ remains below + suc k = omega (arith, bisect_spends c k lo m fl (b - 1)) in
    let ended : Option Bisected = Some (record { at = m; budget = b - 1 }) in
    let i : b ≤ (b - 1) + suc k = omega arith in
    start (eqb b 0) refl (cond (narrow lo hi) ended (cond (same_sign f fl) above below))
    (cond_remains (narrow lo hi) ended (cond (same_sign f fl) above below) b (suc k) i (cond_remains (same_sign f fl) above below b (suc k) h g))
  where
    start : (t : Bool) → eqb b 0 ≡ t → (x : Option Bisected) → b ≤ remains x + suc k → b ≤ remains (cond t None x) + suc k
    start true e x h = omega (arith, eqb-true b 0 e)
    start false e x h = h

-- ---- a level

with_left : (r : Float) (o : RootsResult) → left (with_root r o) ≡ left o
unfolding with_root
with_left r (found l b) = refl
with_left r (refused w b) = refl

cond_left : (t : Bool) (o p : RootsResult) (b n : ℕ) → b ≤ left o + n → b ≤ left p + n → b ≤ left (cond t o p) + n
cond_left true o p b n h k = h
cond_left false o p b n h k = k

then_spends : (rest : ℕ → RootsResult) (x : Option Bisected) (b n : ℕ) → b ≤ remains x + 64 → ((b' : ℕ) → b' ≤ left (rest b') + n) → b ≤ left (and_then rest x) + (n + 64)
unfolding and_then
then_spends rest (Some r) b n h k = omega (arith, k r.budget, with_left r.at (rest r.budget))
then_spends rest None b n h k = omega arith

module _ (c : List Float) (eps : Float) where
  pairs_spend : (lo : Float) (l : List Float) (b : ℕ) → b ≤ left (bisect_from c eps lo l b) + 64 * length l
  unfolding bisect_from
  pairs_spend lo [] b = omega arith
  pairs_spend lo (hi ∷ l) b =
      let rest : ℕ → RootsResult = λ b'. bisect_from c eps hi l b' in
      let x = bisect_of c 64 lo hi (evaluate_of c lo) b in
      let n : 64 * suc (length l) ≡ 64 * length l + 64 = omega arith in
      let h : b ≤ left (rest b) + (64 * length l + 64) = omega (arith, pairs_spend hi l b) in
      rw n (cond_left (no_sign_change eps (evaluate_of c lo) (evaluate_of c hi)) (rest b) (and_then rest x) b (64 * length l + 64) h
      (then_spends rest x b (64 * length l) (bisect_spends c 64 lo hi (evaluate_of c lo) b) (λ b'. pairs_spend hi l b')))

  brackets_spend : (l : List Float) (b n : ℕ) → length l ≤ n + 1 → b ≤ left (bisect_between c eps l b) + 64 * n
  unfolding bisect_between
  brackets_spend [] b n h = omega arith
  brackets_spend (k ∷ l) b n h = omega (arith, pairs_spend k l b)

sorted_dedup_left : (z : List Float) (o : RootsResult) → left (sorted_dedup (gathered z o)) ≡ left o
unfolding sorted_dedup gathered
sorted_dedup_left z (found l b) = refl
sorted_dedup_left z (refused w b) = refl

-- with these roots of the derivative
pub level_spends : (c ts : List Float) (b : ℕ) → b ≤ left (level_of c ts b) + 64 * (length ts + 1)
unfolding level_of
level_spends c ts b =
    let eps = tolerance_of c in
    let o = bisect_between c eps (knots_of ts) b in
    rw (sorted_dedup_left (zeros_of c eps (knots_of ts)) o) (brackets_spend c eps (knots_of ts) b (length ts + 1) (omega (arith, knots_length ts)))

-- ---- all levels

on_spends : (c : List Float) (o : RootsResult) (n : ℕ) → count o ≤ n → left o ≤ left (on_level c o) + 64 * (n + 1)
unfolding on_level
on_spends c (found ts b) n h = omega (arith, level_spends c ts b)
on_spends c (refused w b) n h = omega arith

square : (n : ℕ) → suc n * suc n ≡ n * n + 2 * n + 1
square n = omega (arith, suc-mul n (suc n), mul-suc n n)

pub at_spends : (n : ℕ) (c : List Float) (b : ℕ) → b ≤ left (roots_at n c b) + 64 * ((n - 1) * (n - 1))
unfolding roots_at
at_spends zero c b = omega arith
at_spends (suc zero) c b = cond_left (all_finite c) _ (refused 20 b) b _ (cond_left (tiny c) (found [] b) (found [] b) b _ (omega arith) (omega arith)) (omega arith)
at_spends (suc (suc n)) c b =
    let e : suc (suc n) - 1 ≡ suc n = omega arith in
    let k : suc n - 1 ≡ n = omega arith in
    let d = roots_at (suc n) (derivative_of c) b in
    let s : b ≤ left d + 64 * (n * n) = rw k at (at_spends (suc n) (derivative_of c) b) in
    let q : count d ≤ 2 * n = rw k at (at_count (suc n) (derivative_of c) b) in
    let t : left d ≤ left (on_level c d) + 64 * (2 * n + 1) = on_spends c d (2 * n) q in
    let h : b ≤ left (on_level c d) + 64 * (suc n * suc n) = rw (square n) (omega arith) in
    rw e (cond_left (all_finite c) _ (refused 20 b) b _
    (cond_left (tiny c) (found [] b) _ b _ (omega arith) (cond_left (eqb (suc n) 0) (found [] b) (on_level c d) b _ (omega arith) h))
    (omega arith))

pub roots_spend : (c : List Float) (b : ℕ) → b ≤ left (roots_of c b) + 64 * ((length c - 1) * (length c - 1))
unfolding roots_of
roots_spend c b = cond_left (ltb 15 (length c)) (refused 20 b) (roots_at (length c) c b) b _ (omega arith) (at_spends (length c) c b)
