use Rattle.std.proofs.Common.{refl}
use Rattle.planning.proofs.TrimSplitPlans.{picked, plan_whole, plan_one, plan_two}
use Rattle.planning.proofs.image_plans.trim_plan.Goals as goal

pub returns-in-Zero : goal.returns-in-Zero
returns-in-Zero c = λ e. plan_whole _ _ _ _ refl (picked _ _ c.param-tq.ensures c.project.ensures) _ (c.bracket.ensures e) c.in-Zero.is

pub returns-in-One : goal.returns-in-One
returns-in-One c = λ e. plan_one _ _ _ _ refl (picked _ _ c.param-tq.ensures c.project.ensures) _ (c.bracket.ensures e) c.in-One.is (c.pinned_point_of-p.ensures e) c.first_of_one.ensures

pub returns-in-Two : goal.returns-in-Two
returns-in-Two c = λ e. plan_two _ _ _ _ refl (picked _ _ c.param-tq.ensures c.project.ensures) _ (c.bracket.ensures e) c.in-Two.is (c.pinned_point_of-p-in-Two.ensures e) (c.pinned_point_of-q.ensures e) c.first_of_two.ensures
