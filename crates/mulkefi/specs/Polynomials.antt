-- What a search for roots answers a host. Definitions only.
use Rattle.std.specs.Prelude.{ℕ, ◌≡◌, List, length, set, Float}
use Rattle.bernstein.specs.Roots.{RootsResult, found, refused, left_in, number_of}

-- how many roots, and the budget that is left; a refusal leaves the answer as it was
abbrev pub roots_answer_after : RootsResult → List ℕ → List ℕ
roots_answer_after (found l b) a = set (set a 0 (length l)) 1 b
roots_answer_after (refused k b) a = a

-- the number; the roots at the front of a buffer that is left as it was behind them; the answer
pub record RootsWritten (o : RootsResult) (lent later : List Float) (before answer : List ℕ) (r : ℕ) : Type 0 where
  pub number : r ≡ number_of o
  pub buffer : later ≡ left_in o lent
  pub numbers : answer ≡ roots_answer_after o before
