use Rattle.probe.proofs.shapes.mulkefi_is_full.Goals as goal

pub returns : goal.returns
returns c = simp (c.is_full.ensures, c.shape_from_numbers.ensures)
