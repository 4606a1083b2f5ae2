use Rattle.probe.proofs.shapes.mulkefi_dist.Goals as goal

pub returns : goal.returns
returns c = simp (c.dist.ensures, c.new.ensures, c.shape_from_numbers.ensures)
