use Rattle.std.proofs.Common.{refl}
use Rattle.support.specs.Hits.{off}
use Rattle.support.proofs.distance.off.Goals as goal

pub returns : goal.returns
unfolding off
returns c = refl
