use Rattle.probe.proofs.shapes.mulkefi_param.Goals as goal

pub returns : goal.returns
returns c = simp (c.param.ensures, c.new.ensures, c.shape_from_numbers.ensures)
