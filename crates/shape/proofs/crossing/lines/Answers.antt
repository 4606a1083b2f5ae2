use Rattle.shape.specs.Intersections.{lines}
use Rattle.shape.proofs.crossing.lines.Goals as goal

pub returns-then-abs : goal.returns-then-abs
unfolding lines
returns-then-abs c = simp (simp (c.abs.ensures, c.cross-k.ensures) at c.if-abs.true)

pub returns : goal.returns
unfolding lines
returns c =
    simp (
      c.add.ensures,
      c.mul.ensures,
      c.cross.ensures,
      c.from_points.ensures,
      c.cross-k.ensures,
      simp (c.abs.ensures, c.cross-k.ensures) at c.if-abs.false,
    )
