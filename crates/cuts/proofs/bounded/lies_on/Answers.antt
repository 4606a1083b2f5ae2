use Rattle.std.proofs.Common.{◌∙◌, sym}
use Rattle.cuts.proofs.Ends.{past, in_ends}
use Rattle.cuts.proofs.bounded.lies_on.Goals as goal

pub returns-then-in_range : goal.returns-then-in_range
returns-then-in_range c = in_ends _ _ _ (sym c.in_range.ensures ∙ c.if-in_range.true) c.is_off.ensures

pub returns-else-in_range : goal.returns-else-in_range
returns-else-in_range c = c.if-in_range.false ∙ past _ _ (sym c.in_range.ensures ∙ c.if-in_range.false)
