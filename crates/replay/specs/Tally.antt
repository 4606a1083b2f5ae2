-- What holds of the counts of a walk.
use Rattle.std.specs.Prelude.{ℕ, ◌+◌, ◌≤◌, List, [], ◌∷◌}
use Rattle.replay.specs.declared.tally.Tally.{Tally}

abbrev pub total : List ℕ → ℕ
total [] = 0
total (n ∷ ns) = n + total ns

-- No count exceeds that of the entries, of which each has at most one outcome.
pub record Kept (t : Tally) : Type 0 where
  pub agreed : t.alike ≤ t.entries
  pub leading : t.prefix ≤ t.entries
  pub sorted : total t.outcomes ≤ t.entries
