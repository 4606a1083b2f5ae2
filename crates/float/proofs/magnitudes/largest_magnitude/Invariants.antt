use Rattle.std.proofs.Common.{◌≤◌, ◌≡◌, length, drop}
use Rattle.float.specs.Magnitude.{magnitude_of}
use Rattle.float.proofs.LargestMagnitude.{magnitude_from}
use Rattle.float.proofs.magnitudes.largest_magnitude.Given as goal

abbrev pub invariant-loop-place : goal.invariant-loop-place
invariant-loop-place l = (l.place ≤ length l.c) × (magnitude_from l.place l.largest (drop l.place l.c) ≡ magnitude_of l.c)
