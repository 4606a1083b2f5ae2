use lib.Ieee.{le}
use Rattle.extend.proofs.ImageExtend.{points_held, other_kind, line_end, line_planned}
use Rattle.extend.proofs.image_extend.plan_extend.Goals as goal

pub returns-in_default : goal.returns-in_default
returns-in_default c = λ e h m. let t = c.args.t.now in other_kind t.image.now e t.curves.now t.own_curves h c.curve_at-c.ensures _ c.in_default.not-Line

pub returns : goal.returns
returns c =
    λ e h m.
    let t = c.args.t.now in
    let s = t.image.now in
    let held = points_held s e t.points.now t.own_points in
    let kind = c.in-Line.is in
    let two = c.moving_end.ensures in
    let atb = le c.dist.result c.dist-2.result in
    let ended = c.plan_end.ensures e (line_end s e t.curves.now t.own_curves h c.curve_at-c.ensures c.args.at kind t.bytes atb two) in
    line_planned s e t.curves.now t.own_curves h c.curve_at-c.ensures _ kind m (c.position_of-a.ensures _ held) (c.position_of-b.ensures _ held) c.dist.ensures c.dist-2.ensures two c.plan_end.result ended
