use Rattle.std.proofs.Common.{arith}
use Rattle.image.proofs.RecordChecks.{kind_is, unknown}
use Rattle.image.proofs.checks.curve_good.Goals as goal

pub returns-in-1 : goal.returns-in-1
returns-in-1 c = kind_is _ c.get1.ensures c.line_good.ensures c.in-1.is

pub returns-in-2 : goal.returns-in-2
returns-in-2 c = kind_is _ c.get1.ensures c.arc_good.ensures c.in-2.is

pub returns-in-3 : goal.returns-in-3
returns-in-3 c = kind_is _ c.get1.ensures c.circle_good.ensures c.in-3.is

pub returns-in-4 : goal.returns-in-4
returns-in-4 c = kind_is _ c.get1.ensures c.bezier_good.ensures c.in-4.is

pub returns-in-5 : goal.returns-in-5
returns-in-5 c = kind_is _ c.get1.ensures c.conic_good.ensures c.in-5.is

pub returns-in_default : goal.returns-in_default
returns-in_default c = unknown _ c.get1.ensures (omega arith) (omega arith) (omega arith) (omega arith) (omega arith)
