use Rattle.relations.proofs.RowData.{whole_line, whole_arc, whole_circle, no_whole}
use Rattle.relations.proofs.whole_shapes.whole_of_kind.Goals as goal

pub returns-in-Line : goal.returns-in-Line
returns-in-Line c = λ ps w. whole_line _ _ c.in-Line.is (c.position_after-p.ensures ps w) (c.position_after-q.ensures ps w) c.from_line.ensures

pub returns-in-Arc : goal.returns-in-Arc
returns-in-Arc c = λ ps w. whole_arc _ _ c.in-Arc.is (c.position_after-o.ensures ps w) (c.position_after-p-in-Arc.ensures ps w) c.dist.ensures c.from_circle.ensures

pub returns-in-Circle : goal.returns-in-Circle
returns-in-Circle c = λ ps w. whole_circle _ _ c.in-Circle.is (c.position_after-o-in-Circle.ensures ps w) c.from_circle-in-Circle.ensures

pub returns-in_default : goal.returns-in_default
returns-in_default c = let h = c.in_default in λ ps w. no_whole _ c.args.kind h.not-Line h.not-Arc h.not-Circle
