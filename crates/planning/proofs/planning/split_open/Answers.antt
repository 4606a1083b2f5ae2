use Rattle.planning.proofs.TrimSplitPlans.{open_at_an_end, open_inside}
use Rattle.planning.proofs.planning.split_open.Goals as goal

pub returns-then-t-r : goal.returns-then-t-r
returns-then-t-r c = open_at_an_end _ _ c.param-t.ensures c.project.ensures c.range-r.ensures c.if-t-r.true

pub returns : goal.returns
returns c = open_inside _ _ c.param-t.ensures c.project.ensures c.range-r.ensures c.if-t-r.false c.point.ensures
