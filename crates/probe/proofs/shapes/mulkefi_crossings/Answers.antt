use Rattle.probe.proofs.Crossed.{crossed_none, crossed_once, crossed_twice}
use Rattle.probe.proofs.shapes.mulkefi_crossings.Goals as goal

pub returns-in-Zero : goal.returns-in-Zero
returns-in-Zero c = crossed_none _ _ (cc)

pub returns-in-One : goal.returns-in-One
returns-in-One c = rw c.put_point.ensures (crossed_once _ _ c.in-One.p (cc))

pub returns-in-Two : goal.returns-in-Two
returns-in-Two c = rw (c.put_point-in-Two-2.ensures, c.put_point-in-Two.ensures) (crossed_twice _ _ c.in-Two.p c.in-Two.q (cc))
