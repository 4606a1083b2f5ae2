use Rattle.std.proofs.Common.{◌∙◌, sym}
use mathlib.Core.Bool.{true≢false}
use Rattle.bernstein.proofs.KnotWalks.{left_zero, right_zero, neither}
use Rattle.bernstein.proofs.level.no_sign_change.Goals as goal
use Rattle.bernstein.proofs.level.no_sign_change.Goals.{then-is_zero, else-is_zero}

pub returns-then-is_zero-2 : goal.returns-then-is_zero-2
returns-then-is_zero-2 c =
    c.if-is_zero-2.true
    ∙ elim c.if-is_zero.branch [
      | then-is_zero w ↦ left_zero _ _ _ (sym c.is_zero.ensures ∙ w.if-is_zero.true)
      | else-is_zero w ↦ right_zero _ _ _ (sym c.is_zero.ensures ∙ w.if-is_zero.false) (sym w.is_zero-else-is_zero.ensures ∙ sym w.value-is ∙ c.if-is_zero-2.true)
    ]

pub returns-else-is_zero-2 : goal.returns-else-is_zero-2
returns-else-is_zero-2 c =
    c.same_sign.ensures
    ∙ elim c.if-is_zero.branch [
      | then-is_zero w ↦ absurd (true≢false (sym w.if-is_zero.true ∙ sym w.value-is ∙ c.if-is_zero-2.false))
      | else-is_zero w ↦ neither _ _ _ (sym c.is_zero.ensures ∙ w.if-is_zero.false) (sym w.is_zero-else-is_zero.ensures ∙ sym w.value-is ∙ c.if-is_zero-2.false)
    ]
