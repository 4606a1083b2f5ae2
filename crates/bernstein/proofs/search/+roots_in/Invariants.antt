use Rattle.std.proofs.Common.{length}
use Rattle.bernstein.proofs.search.+roots_in.Given as goal

abbrev pub decreases-roots_in : goal.decreases-roots_in
decreases-roots_in l = length l.c.now
