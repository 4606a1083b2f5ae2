use Rattle.std.proofs.Common.{sym}
use Rattle.support.specs.Hits.{overlaps}
use Rattle.support.proofs.Answers.{round_clear}
use Rattle.support.proofs.shapes.overlaps.Goals as goal

pub returns-in_default : goal.returns-in_default
unfolding overlaps
returns-in_default c = rw c.in_default.is-1

pub returns-in_default-2 : goal.returns-in_default-2
returns-in_default-2 c = sym (round_clear _ _ _ _ _ _ _ c.in_default.is-0)

pub returns : goal.returns
unfolding overlaps
returns c = simp (c.in-Line-Some.is-0, c.in-Line-Some.is-1, c.abs-second.ensures, c.cross-2.ensures, c.from_points-2.ensures, c.abs-first.ensures, c.cross.ensures, c.from_points.ensures)
