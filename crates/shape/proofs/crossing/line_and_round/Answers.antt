use Rattle.shape.specs.Intersections.{by_sign, line_and_round}
use Rattle.shape.proofs.crossing.line_and_round.Goals as goal

pub returns-in_default : goal.returns-in_default
unfolding line_and_round
returns-in_default c = simp c.in_default.is

pub returns-then-h : goal.returns-then-h
unfolding line_and_round by_sign
returns-then-h c = simp (c.in-Some.is, simp (c.dot-2.ensures, c.from_points-w.ensures, c.add-m.ensures, c.mul.ensures, c.dot.ensures, c.from_points.ensures) at c.if-h.true)

pub returns-then-h-2 : goal.returns-then-h-2
unfolding line_and_round by_sign
returns-then-h-2 c = simp (c.in-Some.is, simp (c.dot-2.ensures, c.from_points-w.ensures, c.add-m.ensures, c.mul.ensures, c.dot.ensures, c.from_points.ensures) at c.if-h.false, simp (c.dot-2.ensures, c.from_points-w.ensures, c.add-m.ensures, c.mul.ensures, c.dot.ensures, c.from_points.ensures) at c.if-h-2.true, c.add-m.ensures, c.mul.ensures, c.dot.ensures, c.from_points.ensures)

pub returns : goal.returns
unfolding line_and_round by_sign
returns c =
    simp (
      c.in-Some.is,
      simp (c.dot-2.ensures, c.from_points-w.ensures, c.add-m.ensures, c.mul.ensures, c.dot.ensures, c.from_points.ensures) at c.if-h.false,
      simp (c.dot-2.ensures, c.from_points-w.ensures, c.add-m.ensures, c.mul.ensures, c.dot.ensures, c.from_points.ensures) at c.if-h-2.false,
      c.add.ensures,
      c.sub.ensures,
      c.mul-k.ensures,
      c.sqrt.ensures,
      c.dot-2.ensures,
      c.from_points-w.ensures,
      c.add-m.ensures,
      c.mul.ensures,
      c.dot.ensures,
      c.from_points.ensures,
    )
