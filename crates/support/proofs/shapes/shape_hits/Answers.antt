use Rattle.std.proofs.Common.{ap, ◌∙◌}
use Rattle.geom.specs.Plane.{normalized}
use Rattle.support.proofs.shapes.shape_hits.Goals as goal

pub returns : goal.returns
returns c = c.shape_hits_along.ensures (c.normalized-along.ensures ∙ ap normalized c.from_points.ensures)
