use Rattle.std.proofs.Common.{◌≡◌, ◌++◌, length, take}
use Rattle.support.proofs.Offsets.{off_from}
use Rattle.support.proofs.distance.off_each.Given as goal

abbrev pub invariant-loop-i : goal.invariant-loop-i
invariant-loop-i l = (length l.c ≡ 8) × (take l.i l.c ++ off_from l.d l.o l.scale l.top l.xs l.ys l.ws l.i ≡ off_from l.d l.o l.scale l.top l.xs l.ys l.ws 0)
