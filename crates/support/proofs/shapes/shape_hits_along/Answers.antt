use Rattle.support.proofs.Answers.{met_refused, as_outcome, overlapping_along, clear_along}
use Rattle.support.proofs.shapes.shape_hits_along.Goals as goal

pub returns-then-overlaps : goal.returns-then-overlaps
returns-then-overlaps c = λ e. as_outcome (overlapping_along _ _ _ _ e c.overlaps.ensures c.if-overlaps.true) (met_refused _ _ _ _)

pub returns : goal.returns
returns c = λ e. as_outcome (clear_along _ _ _ _ e c.overlaps.ensures c.if-overlaps.false _ c.line_crossings-all.ensures) c.kept.ensures
