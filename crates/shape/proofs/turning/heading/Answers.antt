use Rattle.std.proofs.Common.{◌∙◌, ap}
use Rattle.geom.specs.Plane.{perp}
use Rattle.shape.proofs.Headings.{heading_0, heading_1, heading_2, heading_3}
use Rattle.shape.proofs.turning.heading.Goals as goal

pub returns-then-s : goal.returns-then-s
returns-then-s c = c.first_quarter.ensures ∙ heading_0 _ c.if-s.true

pub returns-then-s-2 : goal.returns-then-s-2
returns-then-s-2 c = c.perp.ensures ∙ ap perp c.first_quarter-then-s-2.ensures ∙ heading_1 _ c.if-s.false c.if-s-2.true

pub returns-then-s-3 : goal.returns-then-s-3
returns-then-s-3 c = rw (c.perp-then-s-3-2.ensures, c.perp-then-s-3.ensures, c.first_quarter-then-s-3.ensures) (heading_2 _ c.if-s.false c.if-s-2.false c.if-s-3.true)

pub returns : goal.returns
returns c = rw (c.perp-4.ensures, c.perp-3.ensures, c.perp-2.ensures, c.first_quarter-2.ensures) (heading_3 _ c.if-s.false c.if-s-2.false c.if-s-3.false)
