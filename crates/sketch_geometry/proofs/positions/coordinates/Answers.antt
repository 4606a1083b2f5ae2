use Rattle.sketch_geometry.proofs.positions.coordinates.Goals as goal

pub returns : goal.returns
returns c = simp (c.new.ensures, c.read_y.ensures, c.read_x.ensures)
