use Rattle.std.proofs.Common.{sym, ap, refl, ◌∙◌}
use Rattle.std.proofs.lemmas.Result.{err_from_is_err_and}
use Rattle.refusal.specs.Refusals.{refusal_number}
use Rattle.image.specs.Image.{drawing_of}
use Rattle.apply.proofs.PlanNumbers.{vec_typed}
use Rattle.extend.proofs.ImageMoves.{move_refused_by, answer_unmet, answer_pin_unmet, answer_met}
use Rattle.extend.proofs.image_moves.move_if_met.Goals as goal

pub returns-in_err-move_refusal : goal.returns-in_err-move_refusal
returns-in_err-move_refusal c =
    let p = err_from_is_err_and c.from_residual.result c.from_residual.ensures.1 in
    let a = c.args in
    let t = a.t.now in
    let s = t.image.now in
    let v = vec_typed a.v _ c.well_formed.1.1.1.0 in
    (v.0, v.1, λ e all below alone. rw (p.1, p.2) (move_refused_by (drawing_of s) a.k a.v a.pin _ a.out.now (sym (ap refusal_number c.in_err-move_refusal.was) ∙ c.move_refusal.ensures e)))

pub returns-in-Some : goal.returns-in-Some
returns-in-Some c =
    let a = c.args in
    let t = a.t.now in
    let s = t.image.now in
    let v = vec_typed a.v _ c.well_formed.1.1.1.0 in
    (v.0, v.1, λ e all below alone. answer_unmet s t.bytes a.id a.k a.v a.pin e all below alone (c.move_refusal.ensures e) (ap refusal_number c.in_ok-move_refusal.was) t.own_points c.point_at-p.ensures t.own_relations refl (c.first_unmet_after.ensures e) a.out.now c.in-Some.is)

pub returns-then-not-is_pin_met : goal.returns-then-not-is_pin_met
returns-then-not-is_pin_met c =
    let a = c.args in
    let t = a.t.now in
    let s = t.image.now in
    let v = vec_typed a.v _ c.well_formed.1.1.1.0 in
    (v.0, v.1, λ e all below alone. answer_pin_unmet s t.bytes a.id a.k a.v a.pin e all below alone (c.move_refusal.ensures e) (ap refusal_number c.in_ok-move_refusal.was) t.own_points c.point_at-p.ensures t.own_relations c.relation_count.ensures (c.first_unmet_after.ensures e) c.in_default.is (c.is_pin_met.ensures e) a.out.now c.if-not-is_pin_met.true)

pub returns : goal.returns
returns c =
    let a = c.args in
    let t = a.t.now in
    let s = t.image.now in
    let v = vec_typed a.v _ c.well_formed.1.1.1.0 in
    (v.0, v.1, λ e all below alone. answer_met s t.bytes a.id a.k a.v a.pin e all below alone (c.move_refusal.ensures e) (ap refusal_number c.in_ok-move_refusal.was) t.own_points c.point_at-p.ensures t.own_relations refl (c.first_unmet_after.ensures e) c.in_default.is (c.is_pin_met.ensures e) c.if-not-is_pin_met.false a.out.now _ _ (c.apply_move.ensures e))
