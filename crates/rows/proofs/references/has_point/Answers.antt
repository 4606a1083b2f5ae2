use Rattle.std.proofs.Common.{◌∙◌}
use Rattle.sketch.proofs.Bisection.{found_among}
use Rattle.rows.proofs.references.has_point.Goals as goal

pub returns : goal.returns
returns c = c.is_some.ensures ∙ found_among _ _ _ c.point_place.ensures c.requires
