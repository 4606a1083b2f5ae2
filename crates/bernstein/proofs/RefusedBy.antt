-- By which numbers the search for roots is refused: 20, of its coefficients, and 21, of its budget. Assumes nothing.
use mathlib.Core.List.{List, [], ◌∷◌}
use mathlib.Core.Bool.{Bool, true, false, cond}
use Prim.Native.Nat.{ℕ, zero, suc, ◌≤◌}
use native.Mathlib.Omega.{arith}
use lib.Dec.{eqb, ltb}
use lib.ListN.{length}
use lib.Ieee.{Float}
use Rattle.bernstein.specs.Evaluate.{evaluate_of}
use Rattle.bernstein.specs.Bisect.{bisect_of}
use Rattle.float.specs.Magnitude.{all_finite}
use Rattle.bernstein.specs.Roots.{RootsResult, found, refused, tiny, tolerance_of, derivative_of, knots_of, zeros_of, no_sign_change, with_root, and_then, bisect_from, bisect_between, gathered, sorted_dedup, level_of, on_level, roots_at, roots_of}
use Rattle.std.specs.Prelude.{Option, Some, None}
use Rattle.bernstein.specs.declared.Bisected.{Bisected}

abbrev pub By20Or21 : RootsResult → Type 0
By20Or21 (found l b) = Unit {0}
By20Or21 (refused n b) = (20 ≤ n) × (n ≤ 21)

by_either : (t : Bool) (x y : RootsResult) → By20Or21 x → By20Or21 y → By20Or21 (cond t x y)
by_either true x y h k = h
by_either false x y h k = k

by_20 : (b : ℕ) → By20Or21 (refused 20 b)
by_20 b = (omega arith, omega arith)

with_root_lem : (r : Float) (o : RootsResult) → By20Or21 o → By20Or21 (with_root r o)
unfolding with_root
with_root_lem r (found l b) h = tt
with_root_lem r (refused n b) h = h

and_then_lem : (f : ℕ → RootsResult) (x : Option Bisected) → ((b : ℕ) → By20Or21 (f b)) → By20Or21 (and_then f x)
unfolding and_then
and_then_lem f (Some r) h = with_root_lem r.at (f r.budget) (h r.budget)
and_then_lem f None h = (omega arith, omega arith)

between : (c : List Float) (eps lo : Float) (l : List Float) (b : ℕ) → By20Or21 (bisect_from c eps lo l b)
unfolding bisect_from
between c eps lo [] b = tt
between c eps lo (hi ∷ l) b =
    by_either (no_sign_change eps (evaluate_of c lo) (evaluate_of c hi)) (bisect_from c eps hi l b) (and_then (λ b'. bisect_from c eps hi l b') (bisect_of c 64 lo hi (evaluate_of c lo) b))
    (between c eps hi l b) (and_then_lem (λ b'. bisect_from c eps hi l b') (bisect_of c 64 lo hi (evaluate_of c lo) b) (λ b'. between c eps hi l b'))

between_all : (c : List Float) (eps : Float) (l : List Float) (b : ℕ) → By20Or21 (bisect_between c eps l b)
unfolding bisect_between
between_all c eps [] b = tt
between_all c eps (k ∷ l) b = between c eps k l b

in_order_lem : (z : List Float) (o : RootsResult) → By20Or21 o → By20Or21 (sorted_dedup (gathered z o))
unfolding sorted_dedup gathered
in_order_lem z (found l b) h = tt
in_order_lem z (refused n b) h = h

on_level_lem : (c : List Float) (o : RootsResult) → By20Or21 o → By20Or21 (on_level c o)
unfolding on_level level_of
on_level_lem c (found ts b) h = in_order_lem (zeros_of c (tolerance_of c) (knots_of ts)) (bisect_between c (tolerance_of c) (knots_of ts) b) (between_all c (tolerance_of c) (knots_of ts) b)
on_level_lem c (refused n b) h = h

at_level : (n : ℕ) (c : List Float) (b : ℕ) → By20Or21 (roots_at n c b)
unfolding roots_at
at_level zero c b = by_20 b
at_level (suc n) c b =
    by_either (all_finite c) (cond (tiny c) (found [] b) (cond (eqb n 0) (found [] b) (on_level c (roots_at n (derivative_of c) b)))) (refused 20 b)
    (by_either (tiny c) (found [] b) (cond (eqb n 0) (found [] b) (on_level c (roots_at n (derivative_of c) b))) tt
    (by_either (eqb n 0) (found [] b) (on_level c (roots_at n (derivative_of c) b)) tt (on_level_lem c (roots_at n (derivative_of c) b) (at_level n (derivative_of c) b)))) (by_20 b)

pub roots_refused : (c : List Float) (b : ℕ) → By20Or21 (roots_of c b)
unfolding roots_of
roots_refused c b = by_either (ltb 15 (length c)) (refused 20 b) (roots_at (length c) c b) (by_20 b) (at_level (length c) c b)
