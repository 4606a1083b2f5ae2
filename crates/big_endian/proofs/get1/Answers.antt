use Rattle.std.proofs.Common.{rules}
use Rattle.std.proofs.lemmas.Option.{unwrap_or-slice_get}
use Rattle.big_endian.specs.Laws.{field_one}
use Rattle.big_endian.proofs.get1.Goals as goal

pub returns : goal.returns
returns c = rw field_one (search (rules, unwrap_or-slice_get))
