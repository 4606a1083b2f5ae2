-- Totals of counts.
use Prim.Native.Nat.{ℕ, zero, suc, ◌+◌, ◌≤◌}
use native.Mathlib.Omega.{arith}
use mathlib.Core.List.{List, [], ◌∷◌}
use lib.ListN.{get_or, set}
use Rattle.replay.specs.Tally.{total}

pub count_le : (ns : List ℕ) (k : ℕ) → get_or ns k 0 ≤ total ns
count_le [] k = omega arith
count_le (n ∷ ns) zero = omega arith
count_le (n ∷ ns) (suc k) = omega (arith, count_le ns k)

pub raised_le : (ns : List ℕ) (k : ℕ) → total (set ns k (get_or ns k 0 + 1)) ≤ total ns + 1
raised_le [] k = omega arith
raised_le (n ∷ ns) zero = omega arith
raised_le (n ∷ ns) (suc k) = omega (arith, raised_le ns k)
