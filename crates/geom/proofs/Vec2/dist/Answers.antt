use Rattle.geom.proofs.Vec2.dist.Goals as goal

pub returns : goal.returns
returns c = rw (c.len.ensures, c.sub.ensures)
