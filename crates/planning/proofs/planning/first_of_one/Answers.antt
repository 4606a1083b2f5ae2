use Rattle.std.proofs.Common.{sym, ap, not, ◌∙◌}
use Rattle.planning.proofs.TrimSplitPlans.{one_full, one_open}
use Rattle.planning.proofs.planning.first_of_one.Goals as goal

pub returns-then-not-is_full : goal.returns-then-not-is_full
returns-then-not-is_full c = one_open _ _ _ (sym c.is_full.ensures ∙ c.if-not-is_full.true)

pub returns-else-not-is_full : goal.returns-else-not-is_full
returns-else-not-is_full c = ap not c.if-not-is_full.false ∙ one_full _ _ _ (sym c.is_full.ensures ∙ c.if-not-is_full.false)
