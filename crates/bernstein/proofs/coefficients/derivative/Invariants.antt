use Rattle.std.proofs.Common.{◌+◌, ◌≤◌, ◌<◌, ◌≡◌, ◌++◌, length, take, drop}
use Rattle.bernstein.specs.Roots.{slopes}
use Rattle.bernstein.proofs.coefficients.derivative.Given as goal

abbrev pub invariant-loop-i : goal.invariant-loop-i
invariant-loop-i l = (l.i ≤ l.n) × (l.n < 15) × (l.n + 1 ≡ length l.c) × (length l.d ≡ 15) × (take l.i l.d ++ slopes l.degree (drop l.i l.c) ≡ slopes l.degree l.c)
