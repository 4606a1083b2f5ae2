use Rattle.std.proofs.Common.{ap, ◌∙◌}
use Rattle.std.proofs.lemmas.Result.{err_from_is_err_and}
use Rattle.refusal.specs.Refusals.{numbered}
use Rattle.modify.proofs.ImageEdits.{planned_accepted, trim_refused, split_refused, trim_edited, split_edited, extend_edited}
use Rattle.modify.proofs.image_edits.edit_at.Goals as goal

pub returns-in_err-plan-in-Trim : goal.returns-in_err-plan-in-Trim
returns-in_err-plan-in-Trim c =
    λ e ok below.
    let a = c.args in
    let t = a.t.now in
    let p = err_from_is_err_and c.from_residual.result c.from_residual.ensures.1 in
    rw (p.1, p.2) (trim_refused t.image.now t.bytes a.place e below a.at ok c.in-Trim.is (c.plan_trim.ensures e below) _ (ap numbered c.in_err-plan-in-Trim.was) a.out.now)

pub returns-in_ok-plan-in-Trim : goal.returns-in_ok-plan-in-Trim
returns-in_ok-plan-in-Trim c =
    λ e ok below.
    let a = c.args in
    let t = a.t.now in
    let q = ap numbered c.in_ok-plan-in-Trim.was in
    trim_edited t.image.now t.bytes a.place e below a.at ok c.in-Trim.is (c.plan_trim.ensures e below) (λ su. planned_accepted t.image.now t.bytes a.place e below q (c.apply_to_image.ensures e below (λ plan x. su plan (q ∙ x))))

pub returns-in_err-plan-in-Split : goal.returns-in_err-plan-in-Split
returns-in_err-plan-in-Split c =
    λ e ok below.
    let a = c.args in
    let t = a.t.now in
    let p = err_from_is_err_and c.from_residual-in_err-plan-in-Split.result c.from_residual-in_err-plan-in-Split.ensures.1 in
    rw (p.1, p.2) (split_refused t.image.now t.bytes a.place e below a.at ok c.in-Split.is (c.plan_split.ensures e below) _ (ap numbered c.in_err-plan-in-Split.was) a.out.now)

pub returns-in_ok-plan-in-Split : goal.returns-in_ok-plan-in-Split
returns-in_ok-plan-in-Split c =
    λ e ok below.
    let a = c.args in
    let t = a.t.now in
    let q = ap numbered c.in_ok-plan-in-Split.was in
    split_edited t.image.now t.bytes a.place e below a.at ok c.in-Split.is (c.plan_split.ensures e below) (λ su. planned_accepted t.image.now t.bytes a.place e below q (c.apply_to_image-in-Split.ensures e below (λ plan x. su plan (q ∙ x))))

pub returns-in-Extend : goal.returns-in-Extend
returns-in-Extend c =
    λ e ok below.
    let a = c.args in
    let t = a.t.now in
    extend_edited t.image.now t.bytes a.place e below a.at ok c.in-Extend.is (c.extend_image.ensures e below)
