use Rattle.std.proofs.Common.{sym, ap, ◌∙◌}
use Rattle.geom.specs.Plane.{normalized}
use Rattle.support.specs.Hits.{endless_along}
use Rattle.support.proofs.boundary.endless.Goals as goal

pub returns-in_default : goal.returns-in_default
unfolding endless_along
returns-in_default c = let e = sym (c.normalized.ensures ∙ ap normalized c.from_points.ensures) ∙ c.in_default.is in rw e

pub returns : goal.returns
unfolding endless_along
returns c = let e = sym (c.normalized.ensures ∙ ap normalized c.from_points.ensures) ∙ c.in-Some.is in simp (e, c.add.ensures, c.sub.ensures, c.mul-reach.ensures, c.add-m.ensures, c.mul.ensures, c.dot.ensures, c.from_points-2.ensures)
