use Rattle.image.proofs.records.read_curve.Goals as goal

pub returns : goal.returns
returns c = simp (c.get4.ensures, c.kept_slots.ensures, c.read_kind.ensures, c.get1-flags.ensures)
