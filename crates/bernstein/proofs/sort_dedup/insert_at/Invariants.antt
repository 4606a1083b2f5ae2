use Rattle.bernstein.proofs.OrderWalks.{Putting}
use Rattle.bernstein.proofs.sort_dedup.insert_at.Given as goal

abbrev pub invariant-loop-i : goal.invariant-loop-i
invariant-loop-i l = Putting l.initial.v l.k l.x l.v l.y l.i
