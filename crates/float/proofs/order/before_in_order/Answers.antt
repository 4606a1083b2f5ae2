use Rattle.float.proofs.Ordered.{before_less, before_equal, before_else}
use Rattle.float.proofs.order.before_in_order.Goals as goal

pub returns-then-a-b : goal.returns-then-a-b
returns-then-a-b c = before_less _ _ c.if-a-b.true

pub returns-then-a-b-2 : goal.returns-then-a-b-2
returns-then-a-b-2 c = rw (c.is_negative-then-a-b-2.ensures, c.is_negative.ensures) (before_equal _ _ c.if-a-b.false c.if-a-b-2.true)

pub returns : goal.returns
returns c = before_else _ _ c.if-a-b.false c.if-a-b-2.false
