-- `probe::replicas::walls_sum` meets its contract. The invariant: the sum of those so far.
use Rattle.std.proofs.Common.{◌≡◌, length}
use Rattle.probe.specs.Replicas.{image_state, wall_adds}
use Rattle.probe.specs.Edits.{repeated}
use Rattle.probe.proofs.replicas.walls_sum.Given as goal

abbrev pub invariant-loop-i : goal.invariant-loop-i
invariant-loop-i l = (length l.buffer ≡ 21135) × (l.sum ≡ repeated l.i (wall_adds l.mark l.message (image_state l.image l.count)))
