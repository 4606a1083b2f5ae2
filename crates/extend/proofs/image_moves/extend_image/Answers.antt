use Rattle.std.proofs.lemmas.Result.{err_from_is_err_and}
use Rattle.extend.proofs.ImageMoves.{image_no_line, image_unmet, image_plan_refused, image_moved_lem}
use Rattle.extend.proofs.image_moves.extend_image.Goals as goal

pub returns-in_default : goal.returns-in_default
returns-in_default c =
    λ e below.
    let a = c.args in
    let t = a.t.now in
    image_no_line t.image.now t.bytes a.place a.at e below t.own_curves c.curve_at-c.ensures a.out.now c.in_default.not-Line

pub returns-in-Some : goal.returns-in-Some
returns-in-Some c =
    λ e below.
    let a = c.args in
    let t = a.t.now in
    image_unmet t.image.now t.bytes a.place a.at e below t.own_curves c.curve_at-c.ensures (c.first_unmet.ensures e) a.out.now c.in-Line.is c.in-Some.is

pub returns-in_err-end : goal.returns-in_err-end
returns-in_err-end c =
    λ e below.
    let a = c.args in
    let t = a.t.now in
    let p = err_from_is_err_and c.from_residual.result c.from_residual.ensures.1 in
    rw (p.1, p.2) (image_plan_refused t.image.now t.bytes a.place a.at e below t.own_curves c.curve_at-c.ensures (c.first_unmet.ensures e) c.in_default-first_unmet.is c.plan_extend.ensures a.out.now c.in_err-end.was)

pub returns : goal.returns
returns c =
    λ e below.
    let a = c.args in
    let t = a.t.now in
    image_moved_lem t.image.now t.bytes a.place a.at e below t.own_curves c.curve_at-c.ensures (c.first_unmet.ensures e) c.in_default-first_unmet.is c.plan_extend.ensures c.in_ok-end.was a.out.now _ _ c.move_if_met.ensures
