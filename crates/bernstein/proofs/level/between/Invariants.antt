use Rattle.bernstein.proofs.KnotWalks.{Searching}
use Rattle.bernstein.proofs.level.between.Given as goal

abbrev pub invariant-loop-i : goal.invariant-loop-i
invariant-loop-i l = Searching l.c l.knots l.eps l.initial.f l.z l.budget l.f l.count l.left l.lo l.fl l.i
