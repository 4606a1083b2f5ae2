use Rattle.float.proofs.ByDigits.{Digits}
use Rattle.float.proofs.root.digits.Given as goal

abbrev pub invariant-loop-digit : goal.invariant-loop-digit
invariant-loop-digit l = Digits l.m l.rest l.whole l.left l._digit
