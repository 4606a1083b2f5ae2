use Rattle.std.proofs.Common.{take, ◌≡◌}
use Rattle.std.specs.Prelude.{option_to_list}
use Rattle.cuts.specs.Nearest.{Fit, wanted, nearest}
use Rattle.cuts.proofs.nearest.nearest.Given as goal

abbrev pub invariant-loop-k : goal.invariant-loop-k
invariant-loop-k l = record {
  found : option_to_list l.best ≡ nearest l.last (wanted l.side l.low l.high l.tq) (take l.k-index l.cuts);
  numbers : Fit (take l.k-index l.cuts);
}
