use Rattle.std.proofs.Common.{arith, lit<}
use Rattle.big_endian.specs.Fields.{field}
use Rattle.big_endian.proofs.get2.Goals as goal

pub returns : goal.returns
unfolding field
returns c = let h = c.bytes_at.ensures in omega (arith, c.from_be_bytes.ensures, h 0 (lit< tt), h 1 (lit< tt))
