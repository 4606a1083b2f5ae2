use Rattle.shape.specs.Turn.{first_quarter}
use Rattle.shape.proofs.turning.first_quarter.Goals as goal

pub returns : goal.returns
unfolding first_quarter
returns c = simp (c.div.ensures, c.len.ensures, c.new-u.ensures)
