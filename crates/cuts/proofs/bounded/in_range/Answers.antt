use Rattle.std.proofs.Common.{◌∙◌, sym}
use Rattle.cuts.specs.Bounded.{in_range}
use Rattle.cuts.proofs.Ends.{between_ends}
use Rattle.cuts.proofs.bounded.in_range.Goals as goal

pub returns-then-is_full : goal.returns-then-is_full
unfolding in_range
returns-then-is_full c = simp (sym c.is_full.ensures ∙ c.if-is_full.true)

pub returns : goal.returns
returns c = between_ends _ _ _ _ _ (sym c.is_full.ensures ∙ c.if-is_full.false) c.param-t.ensures c.range-r.ensures c.requires
