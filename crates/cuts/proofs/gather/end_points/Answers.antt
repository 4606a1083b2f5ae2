use Rattle.std.proofs.Common.{◌∙◌, sym}
use Rattle.cuts.specs.Cuts.{end_points}
use Rattle.cuts.proofs.Ends.{no_tips, two_tips}
use Rattle.cuts.proofs.gather.end_points.Goals as goal

pub returns-then-is_full : goal.returns-then-is_full
returns-then-is_full c = no_tips _ _ _ _ _ c.in-Round.is (sym c.is_full.ensures ∙ c.if-is_full.true)

pub returns-in-Line : goal.returns-in-Line
unfolding end_points
returns-in-Line c = simp c.in-Line.is

pub returns-else-is_full : goal.returns-else-is_full
returns-else-is_full c = two_tips _ _ _ _ _ c.in-Round.is _ _ (sym c.is_full.ensures ∙ c.if-is_full.false) c.point.ensures c.point-in-Round.ensures
