use Rattle.std.proofs.Common.{ap, Float}
use lib.Ieee.{le}
use Rattle.bernstein.specs.Roots.{is_zero}
use Rattle.bernstein.proofs.level.is_zero.Goals as goal

pub returns : goal.returns
unfolding is_zero
returns c = ap (λ (a : Float). le a c.args.eps) c.abs.ensures
