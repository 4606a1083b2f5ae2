use Rattle.std.proofs.Common.{sym, ◌∙◌}
use Rattle.support.proofs.Answers.{met_none, as_outcome, none_crosses, one_on, one_off, both_on, first_on, second_on, both_off}
use Rattle.support.proofs.shapes.kept.Goals as goal

pub returns-in-Zero : goal.returns-in-Zero
returns-in-Zero c = as_outcome (none_crosses _ _ _ c.in-Zero.is) (met_none _ _ _)

pub returns-then-on_piece : goal.returns-then-on_piece
returns-then-on_piece c = as_outcome (one_on _ _ _ _ c.in-One.is (sym c.on_piece.ensures ∙ c.if-on_piece.true)) c.one_hit.ensures

pub returns-else-on_piece : goal.returns-else-on_piece
returns-else-on_piece c = as_outcome (one_off _ _ _ _ c.in-One.is (sym c.on_piece.ensures ∙ c.if-on_piece.false)) (met_none _ _ _)

pub returns-in-true-true : goal.returns-in-true-true
returns-in-true-true c = as_outcome (both_on _ _ _ _ _ c.in-Two.is (sym c.in-true-true.ensures) (sym c.in-true-true.ensures')) c.two_hits.ensures

pub returns-in-true-false : goal.returns-in-true-false
returns-in-true-false c = as_outcome (first_on _ _ _ _ _ c.in-Two.is (sym c.in-true-false.ensures) (sym c.in-true-false.ensures')) c.one_hit-in-true-false.ensures

pub returns-in-false-true : goal.returns-in-false-true
returns-in-false-true c = as_outcome (second_on _ _ _ _ _ c.in-Two.is (sym c.in-false-true.ensures) (sym c.in-false-true.ensures')) c.one_hit-in-false-true.ensures

pub returns-in-false-false : goal.returns-in-false-false
returns-in-false-false c = as_outcome (both_off _ _ _ _ _ c.in-Two.is (sym c.in-false-false.ensures) (sym c.in-false-false.ensures')) (met_none _ _ _)
