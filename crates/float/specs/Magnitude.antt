-- A list's largest magnitude, or where a number is not finite. Definitions only.
use Rattle.std.specs.Prelude.{ℕ, suc, List, [], ◌∷◌, Bool, true, false, cond, ◌≡◌, Result, Ok, Err, set, Float}
use Rattle.float.specs.Numbers.{0f}
use Rattle.float.specs.Sign.{abs, is_finite}
use Rattle.float.specs.Order.{max}
use Rattle.float.specs.declared.NotFinite.{NotFinite as FirstNotFinite}

-- the largest magnitude in a list; or the place, from 0, of the first number that is not finite
pub data Magnitude : Type 0 where
  Largest : Float → Magnitude
  NotFinite : ℕ → Magnitude

unfoldable pub all_finite : List Float → Bool
all_finite [] = true
all_finite (x ∷ xs) = cond (is_finite x) (all_finite xs) false

-- the largest magnitude, and m at least
unfoldable pub largest_of : Float → List Float → Float
largest_of m [] = m
largest_of m (x ∷ xs) = largest_of (max m (abs x)) xs

-- how many finite numbers stand at the front: the place, from 0, of the first that is not finite, where there is one
unfoldable pub finite_front : List Float → ℕ
finite_front [] = 0
finite_front (x ∷ xs) = cond (is_finite x) (suc (finite_front xs)) 0

-- the place of the first number that is not finite, else the largest magnitude, which is +0 for an empty list
unfoldable pub magnitude_of : List Float → Magnitude
magnitude_of c = cond (all_finite c) (Largest (largest_of 0f c)) (NotFinite (finite_front c))

-- what a call answers
abbrev pub magnitude_in : Result Float FirstNotFinite → Magnitude
magnitude_in (Ok m) = Largest m
magnitude_in (Err f) = NotFinite f.place

-- ---- the same as plain numbers

-- how many finite numbers stand at the front; lent memory holds their largest magnitude where they are all, and else what it held
pub record MagnitudeWritten (c lent later : List Float) (r : ℕ) : Type 0 where
  pub place : r ≡ finite_front c
  pub largest : later ≡ cond (all_finite c) (set lent 0 (largest_of 0f c)) lent
