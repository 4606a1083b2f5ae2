use Rattle.std.proofs.Common.{length-set, arith}
use Rattle.support.proofs.Answers.{met_two}
use Rattle.support.proofs.shapes.two_hits.Goals as goal

pub bounds-hx-1 : goal.bounds-hx-1
bounds-hx-1 c = simp length-set (omega arith)

pub bounds-hy-1 : goal.bounds-hy-1
bounds-hy-1 c = simp length-set (omega arith)

pub returns : goal.returns
returns c = met_two _ _ _ c.requires.0 c.requires.1 _ _
