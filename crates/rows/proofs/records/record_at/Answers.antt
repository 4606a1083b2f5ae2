use Rattle.std.proofs.Common.{sym, arith}
use Rattle.rows.proofs.Rows.{row_in_past}
use Rattle.rows.proofs.Search.{row_read}
use Rattle.rows.proofs.records.record_at.Goals as goal

pub as_chunks-requires : goal.as_chunks-requires
as_chunks-requires g c = omega arith

pub returns-then-i-rows : goal.returns-then-i-rows
returns-then-i-rows g c = row_read g.row.SIZE c.args.t.now _ c.as_chunks.ensures.front c.args.i _ c.if-i-rows.true c.index-rows-i.is

pub returns-else-i-rows : goal.returns-else-i-rows
returns-else-i-rows g c = sym (row_in_past g.row.SIZE c.args.t.now c.args.i (omega (arith, c.as_chunks.ensures.front_len)))
