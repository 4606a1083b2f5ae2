use Rattle.std.proofs.Common.{◌∙◌, sym, ap}
use lib.Ieee.{lt}
use Rattle.float.specs.Thresholds.{at_1e-6}
use Rattle.float.proofs.Lengths.{exact_1e-6}
use Rattle.shape.proofs.Offsets.{dist_above}
use Rattle.cuts.proofs.bounded.is_off.Goals as goal

pub returns : goal.returns
returns c = ap (lt _) c.dist2.ensures ∙ sym (dist_above at_1e-6 exact_1e-6 _ _)
