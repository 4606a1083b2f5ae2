use Rattle.float.proofs.Ordered.{max_less, max_nan, max_first}
use Rattle.float.proofs.order.max.Goals as goal

pub returns-then-a-b : goal.returns-then-a-b
returns-then-a-b c = max_less _ _ c.if-a-b.true

pub returns-then-a : goal.returns-then-a
returns-then-a c = max_nan c.args.a _ c.if-a.true

pub returns-else-a : goal.returns-else-a
returns-else-a c = max_first c.args.a _ c.if-a-b.false c.if-a.false
