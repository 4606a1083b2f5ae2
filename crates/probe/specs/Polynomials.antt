-- What a search answers, as plain numbers.
use Rattle.std.specs.Prelude.{◌≡◌, ℕ, List, length, slice_set, Float}
use Rattle.bernstein.specs.Roots.{RootsResult, found, refused, left_in, number_of}

abbrev pub count_of : RootsResult → ℕ
count_of (found l b) = length l
count_of (refused w b) = 0

abbrev pub budget_of : RootsResult → ℕ
budget_of (found l b) = b
budget_of (refused w b) = b

-- the number; the roots at the front of a buffer that is left as it was behind them; how many they are, and the budget that is left
pub record RootsAndBudgetWritten (o : RootsResult) (lent later : List Float) (before answer : List ℕ) (r : ℕ) : Type 0 where
  pub number : r ≡ number_of o
  pub buffer : later ≡ left_in o lent
  pub numbers : answer ≡ slice_set (slice_set before 0 (count_of o)) 1 (budget_of o)
