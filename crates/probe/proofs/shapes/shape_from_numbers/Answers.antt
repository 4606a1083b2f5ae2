use Rattle.std.proofs.Common.{arith, ne_eqb}
use Rattle.probe.specs.Shapes.{shape_from_numbers}
use Rattle.probe.proofs.shapes.shape_from_numbers.Goals as goal

pub returns-in-0 : goal.returns-in-0
unfolding shape_from_numbers
returns-in-0 c = simp (c.from_line.ensures, c.new-q.ensures, c.new-p.ensures, c.in-0.is)

pub returns-in-1 : goal.returns-in-1
unfolding shape_from_numbers
returns-in-1 c = simp (c.from_arc.ensures, c.new.ensures, c.new-q.ensures, c.new-p.ensures, c.in-1.is)

pub returns-in_default : goal.returns-in_default
unfolding shape_from_numbers
returns-in_default c = simp (c.from_circle.ensures, c.new-p.ensures, ne_eqb c.args.kind 0 (omega arith), ne_eqb c.args.kind 1 (omega arith))
