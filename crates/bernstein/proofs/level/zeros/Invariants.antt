use Rattle.bernstein.proofs.KnotWalks.{Sieving}
use Rattle.bernstein.proofs.level.zeros.Given as goal

abbrev pub invariant-loop-t : goal.invariant-loop-t
invariant-loop-t l = Sieving l.c l.knots l.eps l.initial.f l.f l.m l.t-index
