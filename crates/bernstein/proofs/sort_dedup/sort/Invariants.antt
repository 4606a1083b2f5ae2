use Rattle.bernstein.proofs.OrderWalks.{Sorting}
use Rattle.bernstein.proofs.sort_dedup.sort.Given as goal

abbrev pub invariant-loop-k : goal.invariant-loop-k
invariant-loop-k l = Sorting l.initial.v l.v l.k
