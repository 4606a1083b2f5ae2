use Rattle.std.proofs.Common.{arith}
use Rattle.planning.proofs.ImageCurves.{past_all, trim_here}
use Rattle.planning.proofs.image_plans.plan_trim.Goals as goal

pub returns-then-place-curve_count : goal.returns-then-place-curve_count
returns-then-place-curve_count c = λ e l. absurd (past_all _ c.args.t.now.own_curves c.curve_count.ensures _ c.if-place-curve_count.true e l)

pub returns : goal.returns
returns c = trim_here _ c.args.t.now.own_curves c.curve_count.ensures _ _ c.curve_at.ensures (omega arith) _ _ c.trim_curve.ensures
