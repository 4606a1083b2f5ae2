use Rattle.sketch_geometry.proofs.Shapes.{of_line, of_arc, of_circle, of_freeform}
use Rattle.sketch_geometry.proofs.positions.shape_of.Goals as goal

pub returns-in-Line : goal.returns-in-Line
returns-in-Line c = λ ps w. of_line ps c.in-Line.is (c.position_of-p.ensures ps w) (c.position_of-q.ensures ps w) c.from_line.ensures

pub returns-in-Arc : goal.returns-in-Arc
returns-in-Arc c = λ ps w. of_arc ps c.in-Arc.is (c.position_of-o.ensures ps w) (c.position_of-p-in-Arc.ensures ps w) (c.position_of-q-in-Arc.ensures ps w) c.from_arc.ensures

pub returns-in-Circle : goal.returns-in-Circle
returns-in-Circle c = λ ps w. of_circle ps c.in-Circle.is (c.position_of-o-in-Circle.ensures ps w) c.from_circle.ensures

pub returns-in_default : goal.returns-in_default
returns-in_default c = let h = c.in_default in λ ps w. of_freeform ps c.args.kind h.not-Line h.not-Arc h.not-Circle
