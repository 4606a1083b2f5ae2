use Rattle.std.proofs.lemmas.Result.{err_from_is_err_and}
use Rattle.image.specs.Image.{drawing_of}
use Rattle.hit_search.specs.Values.{support}
use Rattle.extend.proofs.ExtendPlans.{end_used, end_stuck, end_by_nearest_hit, reached_stop, reached_best}
use Rattle.extend.proofs.ImageExtend.{used_in, end_there, fixed_row, free_row, moves_free}
use Rattle.extend.proofs.image_extend.plan_end.Goals as goal

pub returns-then-used_by_other : goal.returns-then-used_by_other
returns-then-used_by_other c =
    λ e h.
    let a = c.args in
    let t = a.t.now in
    let s = t.image.now in
    let d = drawing_of s in
    let l = support a.a a.b a.at_b in
    let u = used_in s e t.curves.now t.own_curves a.id a.end c.used_by_other.ensures in
    record { plan = end_used d a.id a.at l a.end u c.if-used_by_other.true; place = tt }

pub returns-in_default : goal.returns-in_default
returns-in_default c =
    λ e h. let a = c.args in let t = a.t.now in absurd (end_there t.image.now e t.points.now t.own_points a.end _ c.point_place.ensures c.in_default.is h)

pub returns-then-point_at : goal.returns-then-point_at
returns-then-point_at c =
    λ e h.
    let a = c.args in
    let t = a.t.now in
    let s = t.image.now in
    let d = drawing_of s in
    let l = support a.a a.b a.at_b in
    let u = used_in s e t.curves.now t.own_curves a.id a.end c.used_by_other.ensures in
    let fixed = fixed_row s e t.points.now t.own_points a.end _ c.point_place.ensures c.in-Some.is c.point_at.ensures in
    record { plan = end_stuck d a.id a.at l a.end u c.if-used_by_other.false fixed c.if-point_at.true; place = tt }

pub returns-in_err-nearest : goal.returns-in_err-nearest
returns-in_err-nearest c =
    λ e h.
    let a = c.args in
    let t = a.t.now in
    let s = t.image.now in
    let d = drawing_of s in
    let l = support a.a a.b a.at_b in
    let u = used_in s e t.curves.now t.own_curves a.id a.end c.used_by_other.ensures in
    let fixed = fixed_row s e t.points.now t.own_points a.end _ c.point_place.ensures c.in-Some.is c.point_at.ensures in
    let p = err_from_is_err_and c.from_residual.result c.from_residual.ensures.1 in
    rw (p.1, p.2)
    (record {
      plan = end_by_nearest_hit d a.id a.at l a.end u c.if-used_by_other.false fixed c.if-point_at.false c.from_line-line.ensures c.param.ensures c.point-foot.ensures (c.nearest_hit.ensures e) (reached_stop _ _ c.in_err-nearest.was);
      place = tt;
    })

pub returns : goal.returns
returns c =
    λ e h.
    let a = c.args in
    let t = a.t.now in
    let s = t.image.now in
    let d = drawing_of s in
    let l = support a.a a.b a.at_b in
    let u = used_in s e t.curves.now t.own_curves a.id a.end c.used_by_other.ensures in
    let fixed = fixed_row s e t.points.now t.own_points a.end _ c.point_place.ensures c.in-Some.is c.point_at.ensures in
    record {
      plan = end_by_nearest_hit d a.id a.at l a.end u c.if-used_by_other.false fixed c.if-point_at.false c.from_line-line.ensures c.param.ensures c.point-foot.ensures (c.nearest_hit.ensures e) (reached_best _ _ c.in_ok-nearest.was (c.plan_move.ensures.0 e));
      place = moves_free d a.id a.at_b a.end _ c.plan_move.result c.plan_move.ensures.1 (free_row s e t.points.now t.own_points a.end _ c.point_place.ensures c.in-Some.is c.point_at.ensures a.id u c.if-used_by_other.false c.if-point_at.false);
    }
