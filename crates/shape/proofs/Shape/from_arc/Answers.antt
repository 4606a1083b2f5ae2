use Rattle.shape.proofs.Shape.from_arc.Goals as goal

pub returns : goal.returns
returns c = simp (c.len.ensures, c.upward-sweep.ensures, c.turn.ensures, c.from_points.ensures, c.turn-start.ensures, c.from_points-u.ensures)
