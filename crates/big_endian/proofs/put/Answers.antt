use Rattle.std.proofs.Common.{◌∙◌, ap}
use Rattle.big_endian.specs.Fields.{over_if_fits}
use Rattle.big_endian.specs.Laws.{low_bytes}
use Rattle.big_endian.proofs.put.Goals as goal

pub returns : goal.returns
returns c = let a = c.args in c.put_bytes.ensures ∙ ap (over_if_fits a.buf.now a.at) (rw c.to_be_bytes.ensures (low_bytes 8 a.n a.v c.requires))
