use Rattle.bernstein.proofs.OrderWalks.{Dropping}
use Rattle.bernstein.proofs.sort_dedup.dedup.Given as goal

abbrev pub invariant-loop-i : goal.invariant-loop-i
invariant-loop-i l = Dropping l.initial.v l.w l.n l.v l.last l.m l.i
