use Rattle.std.proofs.Common.{sym, ◌∙◌}
use Rattle.planning.proofs.TrimSplitPlans.{two_full, two_open}
use Rattle.planning.proofs.planning.first_of_two.Goals as goal

pub returns-then-is_full : goal.returns-then-is_full
returns-then-is_full c = two_full _ _ _ _ (sym c.is_full.ensures ∙ c.if-is_full.true)

pub returns : goal.returns
returns c = two_open _ _ _ _ (sym c.is_full.ensures ∙ c.if-is_full.false)
