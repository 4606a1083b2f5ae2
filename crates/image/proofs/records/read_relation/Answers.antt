use Rattle.image.proofs.records.read_relation.Goals as goal

pub returns : goal.returns
returns c = simp (c.relation_by.ensures, c.number_at.ensures, c.get4-2.ensures, c.get4.ensures, c.get1.ensures)
