-- `Tally::counting` keeps every count at or below that of the entries: one outcome's rises by one, or none does.
use Rattle.std.proofs.Common.{ℕ, ◌+◌, ◌≤◌, arith, ap, List, rules}
use Rattle.replay.specs.Tally.{total}
use Rattle.replay.proofs.Totals.{count_le, raised_le}
use Rattle.replay.proofs.tally.Tally.counting.Goals as goal
use Rattle.replay.proofs.tally.Tally.counting.Goals.{then-place-lt-OUTCOMES, else-place-lt-OUTCOMES}

pub overflow_add-outcomes : goal.overflow_add-outcomes
overflow_add-outcomes c = omega (arith, count_le c.args.self.outcomes c.from-place.result)

pub returns : goal.returns
returns c =
    let ns : List ℕ = c.args.self.outcomes in
    let k : ℕ = c.from-place.result in
    let bound : total c.if-place-lt-OUTCOMES.outcomes ≤ total ns + 1
    = elim c.if-place-lt-OUTCOMES.branch [
      | then-place-lt-OUTCOMES w ↦ omega (arith, ap total w.outcomes-is, raised_le ns k)
      | else-place-lt-OUTCOMES w ↦ omega (arith, ap total w.outcomes-is)
    ] in
    search rules
