use Rattle.image.proofs.records.read_infinite.Goals as goal

pub returns : goal.returns
returns c = simp c.get1.ensures
