use Rattle.cuts.proofs.Passes.{nearer_first, nearer_stays, nearer_moves}
use Rattle.cuts.proofs.nearest.nearer.Goals as goal

pub returns-in-Some : goal.returns-in-Some
returns-in-Some c = nearer_stays _ _ c.in-Some.is _ c.before_in_order.ensures c.if-before_in_order-last.true

pub returns-in_default : goal.returns-in_default
returns-in_default c = nearer_moves _ _ c.in-Some.is _ c.before_in_order.ensures c.if-before_in_order-last.false

pub returns-in_default-2 : goal.returns-in_default-2
returns-in_default-2 c = nearer_first _ _ c.in_default.is
