use Rattle.std.proofs.Common.{take, ◌≤◌, ◌*◌}
use Rattle.cuts.proofs.Cutters.{CutsUpTo}
use Rattle.cuts.proofs.image_cuts.cuts_in.Given as goal

abbrev pub invariant-loop-i : goal.invariant-loop-i
invariant-loop-i l = record {
  upper_bound : l.found ≤ 4 * l.i;
  cuts : CutsUpTo l.t.points.now l.t.curves.now l.sh l.id l.n l.i (take l.found l.cuts);
}
