use Rattle.std.proofs.Common.{take, ◌+◌, ◌≤◌, ◌++◌, ◌≡◌}
use Rattle.shape.specs.Intersections.{points}
use Rattle.cuts.specs.Cuts.{cuts_on}
use Rattle.cuts.proofs.gather.cuts_by.Given as goal

abbrev pub invariant-loop-k : goal.invariant-loop-k
invariant-loop-k l = record {
  upper_bound : l.m ≤ l.n + l.k;
  found : take l.m l.cuts ≡ cuts_on l.sh l.o (take l.n l.initial.cuts) (take l.k (points l.crossings ++ points l.ends));
}
