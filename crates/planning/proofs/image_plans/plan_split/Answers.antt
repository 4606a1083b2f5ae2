use Rattle.std.proofs.Common.{arith}
use Rattle.planning.proofs.ImageCurves.{past_all, split_here}
use Rattle.planning.proofs.image_plans.plan_split.Goals as goal

pub returns-then-place-curve_count : goal.returns-then-place-curve_count
returns-then-place-curve_count c = λ e l. absurd (past_all _ c.args.t.now.own_curves c.curve_count.ensures _ c.if-place-curve_count.true e l)

pub returns : goal.returns
returns c = split_here _ c.args.t.now.own_curves c.curve_count.ensures _ _ c.curve_at.ensures (omega arith) _ _ c.split_curve.ensures
