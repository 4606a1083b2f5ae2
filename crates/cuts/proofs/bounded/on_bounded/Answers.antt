use Rattle.std.proofs.Common.{◌∙◌, sym, ap, not}
use Rattle.cuts.proofs.Ends.{off, near}
use Rattle.cuts.proofs.bounded.on_bounded.Goals as goal

pub returns-then-not-is_off : goal.returns-then-not-is_off
returns-then-not-is_off c = c.in_range.ensures ∙ near _ _ (sym c.is_off.ensures ∙ c.if-not-is_off.true)

pub returns-else-not-is_off : goal.returns-else-not-is_off
returns-else-not-is_off c = ap not c.if-not-is_off.false ∙ off _ _ (sym c.is_off.ensures ∙ c.if-not-is_off.false)
