-- `apply::Limited::of` meets its contract.
use Rattle.std.proofs.Common.{sym, ◌∙◌}
use Rattle.sketch.proofs.Bools.{never}
use Rattle.apply.proofs.limits.Limited.of.Goals as goal

pub returns-then-not-within_limits : goal.returns-then-not-within_limits
returns-then-not-within_limits c = λ w. never (sym c.if-not-within_limits.true ∙ c.within_limits.ensures.1 w)
