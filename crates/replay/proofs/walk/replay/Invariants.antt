-- `walk::replay` counts at most one entry a byte, and ends: each entry takes bytes from the front of what is unread.
use Rattle.std.proofs.Common.{◌+◌, ◌≤◌, length}
use Rattle.replay.specs.Tally.{Kept}
use Rattle.replay.proofs.walk.replay.Given as goal

abbrev pub invariant-loop-entry : goal.invariant-loop-entry
invariant-loop-entry l = Kept l.tally × (l.tally.entries + length l.unread ≤ length l.list)

abbrev pub decreases-loop-entry : goal.decreases-loop-entry
decreases-loop-entry l = length l.unread
