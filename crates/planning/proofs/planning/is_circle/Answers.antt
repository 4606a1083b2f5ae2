use Rattle.planning.proofs.TrimSplitPlans.{is_circle_lem, no_circle}
use Rattle.planning.proofs.planning.is_circle.Goals as goal

pub returns-in-Circle : goal.returns-in-Circle
returns-in-Circle c = is_circle_lem c.in-Circle.is

pub returns-in_default : goal.returns-in_default
returns-in_default c = no_circle c.args.kind c.in_default.not-Circle
