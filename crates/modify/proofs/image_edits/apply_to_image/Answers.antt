use Rattle.std.proofs.Common.{refl}
use Rattle.apply.proofs.PlanNumbers.{plan_typed}
use Rattle.modify.proofs.ImageEdits.{plan_edited}
use Rattle.modify.proofs.image_edits.apply_to_image.Goals as goal

pub returns : goal.returns
returns c =
    λ e below su.
    let a = c.args in
    let t = a.t.now in
    plan_edited t.image.now t.bytes a.place e below a.plan (su a.plan refl) (plan_typed a.plan _ c.well_formed.1.1.0) a.out.now _ _ c.apply_plan.ensures
