use Rattle.std.proofs.Common.{◌≡◌, length}
use Rattle.support.specs.Pieces.{zip_points}
use Rattle.support.specs.Clauses.{farthest_of}
use Rattle.support.proofs.Offsets.{farthest_from}
use Rattle.support.proofs.distance.farthest.Given as goal

abbrev pub invariant-loop-x : goal.invariant-loop-x
invariant-loop-x l = farthest_from l.o l.xs l.ys (length l.yielded) l.m ≡ farthest_of l.o (zip_points l.xs l.ys)
