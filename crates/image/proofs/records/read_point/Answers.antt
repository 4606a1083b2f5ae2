use Rattle.image.proofs.records.read_point.Goals as goal

pub returns : goal.returns
returns c = simp (c.number_at-2.ensures, c.number_at.ensures, c.get1.ensures, c.get4.ensures)
