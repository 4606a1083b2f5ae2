-- The roots from 0 to 1 of a polynomial in Bernstein form, within a budget of halvings. Definitions only.
use Rattle.std.specs.Prelude.{ℕ, zero, suc, ◌-◌, List, [], ◌∷◌, ◌++◌, Bool, true, cond, Option, Some, None, ◌≡◌, eqb, ltb, length, drop, Float}
use Rattle.std.specs.Float.Ieee.{lt, le}
use Rattle.float.specs.Numbers.{◌⊖◌, ◌⊗◌, as_float, 0f, 1f, 1e-28, 1e-13, 2e-13, 1e-10}
use Rattle.float.specs.Sign.{abs}
use Rattle.float.specs.Order.{before}
use Rattle.float.specs.Magnitude.{all_finite, largest_of}
use Rattle.bernstein.specs.Evaluate.{evaluate_of}
use Rattle.bernstein.specs.Bisect.{same_sign, bisect_of}
use Rattle.bernstein.specs.declared.Bisected.{Bisected}
use Rattle.bernstein.specs.Answers.{Answer, Found, Refused}

-- the roots in order, or a refusal's number; and the budget that is left
pub data RootsResult : Type 0 where
  found : List Float → ℕ → RootsResult
  refused : ℕ → ℕ → RootsResult

-- ---- the coefficients

-- so small that all of it counts as nothing
unfoldable pub tiny : List Float → Bool
tiny c = lt (largest_of 0f c) 1e-28

-- how near to 0 a value must be to count as a zero
unfoldable pub tolerance_of : List Float → Float
tolerance_of c = largest_of 0f c ⊗ 2e-13

-- each difference of neighbours, times k
unfoldable pub slopes : Float → List Float → List Float
slopes k [] = []
slopes k (x ∷ []) = []
slopes k (x ∷ y ∷ r) = (y ⊖ x) ⊗ k ∷ slopes k (y ∷ r)

unfoldable pub derivative_of : List Float → List Float
derivative_of c = slopes (as_float (length c - 1)) c

-- ---- order

-- x put in by the total order, and what it displaces put in behind it
unfoldable pub insert : Float → List Float → List Float
insert x [] = x ∷ []
insert x (y ∷ l) =
    let first = x ∷ insert y l in
    let later = y ∷ insert x l in
    cond (before x y) first later

-- the second list put into the first, which is in order
unfoldable pub sort_onto : List Float → List Float → List Float
sort_onto s [] = s
sort_onto s (x ∷ l) = sort_onto (insert x s) l

-- each that lies nearer than w to the last one kept is dropped; k is the last one kept so far
unfoldable pub dedup_after : Float → Float → List Float → List Float
dedup_after w k [] = []
dedup_after w k (x ∷ l) =
    let dropped = dedup_after w k l in
    let kept = x ∷ dedup_after w x l in
    cond (lt (abs (x ⊖ k)) w) dropped kept

unfoldable pub dedup_of : Float → List Float → List Float
dedup_of w [] = []
dedup_of w (x ∷ l) = x ∷ dedup_after w x l

-- ---- one level: the roots of c, given those of its derivative

-- the derivative's roots and both ends part the range so that c rises or falls throughout each part
unfoldable pub knots_of : List Float → List Float
knots_of ts = dedup_of 1e-13 (sort_onto [] (ts ++ (0f ∷ 1f ∷ [])))

unfoldable pub is_zero : Float → Float → Bool
is_zero eps f = le (abs f) eps

-- the knots at which c is zero: a touch is found here alone
unfoldable pub zeros_of : List Float → Float → List Float → List Float
zeros_of c eps [] = []
zeros_of c eps (t ∷ l) =
    let rest = zeros_of c eps l in
    cond (is_zero eps (evaluate_of c t)) (t ∷ rest) rest

-- no root lies between two knots with these values: one of them is a zero itself, or the signs agree
unfoldable pub no_sign_change : Float → Float → Float → Bool
no_sign_change eps fl fh = cond (is_zero eps fl) true (cond (is_zero eps fh) true (same_sign fl fh))

unfoldable pub with_root : Float → RootsResult → RootsResult
with_root r (found l b) = found (r ∷ l) b
with_root r (refused w b) = refused w b

-- the root that halving found and then the rest, or 21
unfoldable pub and_then : (ℕ → RootsResult) → Option Bisected → RootsResult
and_then rest (Some r) = with_root r.at (rest r.budget)
and_then rest None = refused 21 0

-- the roots between neighbours, from lo on
unfoldable pub bisect_from : List Float → Float → Float → List Float → ℕ → RootsResult
bisect_from c eps lo [] b = found [] b
bisect_from c eps lo (hi ∷ l) b =
    let passed = bisect_from c eps hi l b in
    let halved = and_then (λ b'. bisect_from c eps hi l b') (bisect_of c 64 lo hi (evaluate_of c lo) b) in
    cond (no_sign_change eps (evaluate_of c lo) (evaluate_of c hi)) passed halved

unfoldable pub bisect_between : List Float → Float → List Float → ℕ → RootsResult
bisect_between c eps [] b = found [] b
bisect_between c eps (k ∷ l) b = bisect_from c eps k l b

-- roots, and those of an outcome behind them
unfoldable pub gathered : List Float → RootsResult → RootsResult
gathered z (found l b) = found (z ++ l) b
gathered z (refused w b) = refused w b

-- in order, and of those near each other one only
unfoldable pub sorted_dedup : RootsResult → RootsResult
sorted_dedup (found l b) = found (dedup_of 1e-10 (sort_onto [] l)) b
sorted_dedup (refused w b) = refused w b

unfoldable pub level_of : List Float → List Float → ℕ → RootsResult
level_of c ts b = sorted_dedup (gathered (zeros_of c (tolerance_of c) (knots_of ts)) (bisect_between c (tolerance_of c) (knots_of ts) b))

-- ---- the search

unfoldable pub on_level : List Float → RootsResult → RootsResult
on_level c (found ts b) = level_of c ts b
on_level c (refused w b) = refused w b

-- of n coefficients: first the roots of the derivative, which has one coefficient fewer
unfoldable pub roots_at : ℕ → List Float → ℕ → RootsResult
roots_at zero c b = refused 20 b
roots_at (suc n) c b =
    cond (all_finite c) (cond (tiny c) (found [] b) (cond (eqb n 0) (found [] b) (on_level c (roots_at n (derivative_of c) b)))) (refused 20 b)

unfoldable pub roots_of : List Float → ℕ → RootsResult
roots_of c b = cond (ltb 15 (length c)) (refused 20 b) (roots_at (length c) c b)

-- the search with room for so many floats
unfoldable pub search_of : ℕ → List Float → ℕ → RootsResult
search_of room c b = cond (ltb room 28) (refused 25 b) (roots_of c b)

-- ---- what a call answers and leaves

unfoldable pub answer_of : RootsResult → Answer
answer_of (found l b) = Found (length l) b
answer_of (refused w b) = Refused w b

-- the refusal's number, or 0
abbrev pub number_of : RootsResult → ℕ
number_of (found l b) = 0
number_of (refused w b) = w

-- the lent floats afterwards: the roots at the front and the rest unchanged, or all of it unchanged
unfoldable pub left_in : RootsResult → List Float → List Float
left_in (found l b) lent = l ++ drop (length l) lent
left_in (refused w b) lent = lent

pub record Searched (o : RootsResult) (lent later : List Float) (r : Answer) : Type 0 where
  pub answer : r ≡ answer_of o
  pub buffer : later ≡ left_in o lent
