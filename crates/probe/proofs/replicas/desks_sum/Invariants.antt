-- `probe::replicas::desks_sum` meets its contract. The invariant: the sum of those so far.
use Rattle.std.proofs.Common.{◌≡◌, length}
use Rattle.probe.specs.Replicas.{image_state, desk_adds}
use Rattle.probe.specs.Edits.{repeated}
use Rattle.probe.proofs.replicas.desks_sum.Given as goal

abbrev pub invariant-loop-i : goal.invariant-loop-i
invariant-loop-i l = (length l.buffer ≡ 21135) × (l.sum ≡ repeated l.i (desk_adds l.operation l.curve l.x l.y (image_state l.image l.count)))
