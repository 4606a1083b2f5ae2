use Rattle.std.proofs.Common.{◌∙◌, sym}
use mathlib.Core.Bool.{false≢true}
use Rattle.bernstein.proofs.Bisecting.{nan_first, nan_second, signs}
use Rattle.bernstein.proofs.bisection.same_sign.Goals as goal
use Rattle.bernstein.proofs.bisection.same_sign.Goals.{then-f, else-f}

pub returns-then-g : goal.returns-then-g
returns-then-g c =
    rw (c.is_negative-then-g.ensures, c.is_negative.ensures)
    (elim c.if-f.branch [
      | then-f w ↦ signs _ _ w.if-f.true (sym w.value-is ∙ c.if-g.true)
      | else-f w ↦ absurd (false≢true (sym w.if-f.false ∙ sym w.value-is ∙ c.if-g.true))
    ])

pub returns-else-g : goal.returns-else-g
returns-else-g c =
    c.if-g.false
    ∙ elim c.if-f.branch [
      | then-f w ↦ nan_second _ _ (sym w.value-is ∙ c.if-g.false)
      | else-f w ↦ nan_first _ _ w.if-f.false
    ]
