use Rattle.std.proofs.Common.{map}
use Rattle.image.specs.Image.{drawing_of}
use Rattle.relations.specs.Met.{met}
use Rattle.edit_plan.specs.Tables.{moved}
use Rattle.extend.proofs.ImageMoves.{pin_adds_one}
use Rattle.extend.proofs.image_moves.is_pin_met.Goals as goal

pub returns-else-count_pinned-eq0 : goal.returns-else-count_pinned-eq0
returns-else-count_pinned-eq0 c =
    λ e.
    let a = c.args in
    let d = drawing_of a.t.now.image.now in
    pin_adds_one a.pin a.p (met (map (moved a.p a.v) d.points) d.curves) c.count_pinned.ensures c.if-count_pinned-eq0.false c.pin_relation.ensures (c.is_met_after.ensures e)
