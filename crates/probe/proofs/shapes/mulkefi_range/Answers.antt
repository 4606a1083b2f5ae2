use Rattle.probe.proofs.shapes.mulkefi_range.Goals as goal

pub returns : goal.returns
returns c = simp (c.range-r.ensures, c.shape_from_numbers.ensures)
