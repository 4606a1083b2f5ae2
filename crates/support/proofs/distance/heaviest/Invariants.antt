use Rattle.std.proofs.Common.{◌≡◌, drop}
use Rattle.float.specs.Numbers.{1f}
use Rattle.support.specs.Hits.{max_of}
use Rattle.support.proofs.distance.heaviest.Given as goal

abbrev pub invariant-loop-w : goal.invariant-loop-w
invariant-loop-w l = max_of l.m (drop l.w-index l.ws) ≡ max_of 1f l.ws
