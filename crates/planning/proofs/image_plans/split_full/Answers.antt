use Rattle.planning.proofs.TrimSplitPlans.{bracketed, full_few, full_two}
use Rattle.planning.proofs.image_plans.split_full.Goals as goal

pub returns-in_default : goal.returns-in_default
returns-in_default c = λ e. full_few _ c.bracket.result c.in_default.not-Two (bracketed _ _ _ _ c.param-tq.ensures c.project.ensures (c.bracket.ensures e))

pub returns : goal.returns
returns c = λ e. full_two _ c.in-Two.is (bracketed _ _ _ _ c.param-tq.ensures c.project.ensures (c.bracket.ensures e)) c.point.ensures c.point-2.ensures
