use Rattle.std.proofs.Common.{◌-◌, ◌≡◌}
use Rattle.bernstein.specs.Bisect.{bisect_of}
use Rattle.bernstein.proofs.bisection.bisect.Given as goal

abbrev pub invariant-loop-step : goal.invariant-loop-step
invariant-loop-step l = bisect_of l.c (64 - l._step) l.lo l.hi l.fl l.left ≡ bisect_of l.c 64 l.a l.b l.fa l.budget
