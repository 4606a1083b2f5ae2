use Rattle.std.proofs.Common.{arith}
use Rattle.std.proofs.lemmas.Bool.Decides.{nat_tests}
use Rattle.support.specs.Clauses.{at_most8}
use Rattle.support.proofs.points.at_most_8.Goals as goal

pub returns : goal.returns
unfolding at_most8
returns c = (grind (arith, nat_tests), omega arith)
