use Rattle.shape.specs.Turn.{turn}
use Rattle.shape.proofs.turning.turn.Goals as goal

pub returns-then-s : goal.returns-then-s
unfolding turn
returns-then-s c = simp (simp (c.abs-2.ensures, c.abs.ensures) at c.if-s.true)

pub returns : goal.returns
unfolding turn
returns c =
    let p = c.abs.ensures in
    let q = c.abs-2.ensures in
    simp (simp (q, p) at c.if-s.false, c.below_4.ensures, c.in_quarter.ensures, q, p)
