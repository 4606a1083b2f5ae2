use Rattle.geom.proofs.Vec2.dist2.Goals as goal

pub returns : goal.returns
returns c = rw (c.dot.ensures, c.sub-d.ensures)
