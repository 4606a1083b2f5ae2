use Rattle.std.proofs.Common.{ap, sym}
use mathlib.Core.Bool.{and-true}
use Rattle.sketch.specs.Lists.{every}
use Rattle.sketch_geometry.specs.Positions.{shape_found}
use Rattle.relations.specs.Met.{on}
use Rattle.relations.proofs.CurveMeasures.{line_ends, round_no_ends, none_no_ends}
use Rattle.relations.proofs.measures.is_collinear.Goals as goal

pub returns-in-Line : goal.returns-in-Line
returns-in-Line c = simp (c.on.ensures, c.on-in-Line.ensures, line_ends c.in-Some.is c.in-Line.is, and-true)

pub returns-in-Round : goal.returns-in-Round
returns-in-Round c = ap (every (on (shape_found c.args.s))) (sym (round_no_ends c.in-Some.is c.in-Round.is))

pub returns-in-None : goal.returns-in-None
returns-in-None c = ap (every (on (shape_found c.args.s))) (sym (none_no_ends c.in-None.is))
