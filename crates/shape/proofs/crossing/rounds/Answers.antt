use Rattle.shape.specs.Intersections.{by_sign, rounds}
use Rattle.shape.proofs.crossing.rounds.Goals as goal

pub returns-then-d : goal.returns-then-d
unfolding rounds
returns-then-d c = simp (simp (c.len-d.ensures, c.from_points-e.ensures) at c.if-d.true)

pub returns-then-h : goal.returns-then-h
unfolding rounds by_sign
returns-then-h c = simp (simp (c.len-d.ensures, c.from_points-e.ensures) at c.if-d.false, simp (c.len-d.ensures, c.from_points-e.ensures) at c.if-h.true)

pub returns-then-h-2 : goal.returns-then-h-2
unfolding rounds by_sign
returns-then-h-2 c = simp (simp (c.len-d.ensures, c.from_points-e.ensures) at c.if-d.false, simp (c.len-d.ensures, c.from_points-e.ensures) at c.if-h.false, simp (c.len-d.ensures, c.from_points-e.ensures) at c.if-h-2.true, c.add-m.ensures, c.mul.ensures, c.len-d.ensures, c.from_points-e.ensures)

pub returns : goal.returns
unfolding rounds by_sign
returns c =
    simp (
      simp (c.len-d.ensures, c.from_points-e.ensures) at c.if-d.false,
      simp (c.len-d.ensures, c.from_points-e.ensures) at c.if-h.false,
      simp (c.len-d.ensures, c.from_points-e.ensures) at c.if-h-2.false,
      c.sub.ensures,
      c.add.ensures,
      c.mul-k.ensures,
      c.sqrt.ensures,
      c.div.ensures,
      c.perp.ensures,
      c.add-m.ensures,
      c.mul.ensures,
      c.len-d.ensures,
      c.from_points-e.ensures,
    )
