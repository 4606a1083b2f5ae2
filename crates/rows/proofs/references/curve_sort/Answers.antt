use Rattle.std.proofs.Common.{arith}
use Rattle.rows.proofs.Sorts.{sort_line, sort_round, sort_freeform}
use Rattle.rows.proofs.references.curve_sort.Goals as goal

pub returns-in-1 : goal.returns-in-1
returns-in-1 c = sort_line _ c.get1.ensures c.in-1.is

pub returns-in-2 : goal.returns-in-2
returns-in-2 c = sort_round _ c.get1.ensures (omega arith) (omega arith)

pub returns-in_default : goal.returns-in_default
returns-in_default c = sort_freeform _ c.get1.ensures (omega arith) (omega arith) (omega arith)

pub returns-in_default-2 : goal.returns-in_default-2
returns-in_default-2 c = sort_freeform _ c.get1.ensures (omega arith) (omega arith) (omega arith)
