-- `sketch::note` meets its contract: the entry is written where the table has it.
use Rattle.std.proofs.Common.{lt-ltb, le-ltb}
use Rattle.sketch.proofs.lookup.note.Goals as goal

pub returns-then-k-near : goal.returns-then-k-near
returns-then-k-near c = rw (lt-ltb _ _ c.if-k-near.true)

pub returns-else-k-near : goal.returns-else-k-near
returns-else-k-near c = rw (le-ltb _ _ c.if-k-near.false)
