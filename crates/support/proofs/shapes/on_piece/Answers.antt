use Rattle.support.specs.Hits.{on_piece}
use Rattle.support.proofs.shapes.on_piece.Goals as goal

pub returns-in-Line : goal.returns-in-Line
unfolding on_piece
returns-in-Line c = simp (c.param-t.ensures, c.in-Line.is)

pub returns-in-Round : goal.returns-in-Round
unfolding on_piece
returns-in-Round c = simp (c.param-t.ensures, c.in-Round.is)
