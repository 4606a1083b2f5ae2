use Rattle.cuts.proofs.Steps.{FoundFrom}
use Rattle.cuts.proofs.gather.seen.Given as goal

abbrev pub invariant-loop-k : goal.invariant-loop-k
invariant-loop-k l = FoundFrom l.found l.q l.k-index
