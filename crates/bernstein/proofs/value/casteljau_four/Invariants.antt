use Rattle.bernstein.proofs.Lowering.{Walk}
use Rattle.bernstein.proofs.value.casteljau_four.Given as goal

abbrev pub invariant-loop-i : goal.invariant-loop-i
invariant-loop-i l = Walk l.t l.u l.initial.v l.n l.i l.v l.last0 l.last1 l.last2 l.last3
