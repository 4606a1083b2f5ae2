use Rattle.std.proofs.Common.{ap, sym, ◌∙◌}
use Rattle.float.specs.Numbers.{½}
use Rattle.geom.specs.Plane.{◌·ᵥ◌}
use Rattle.geom.specs.declared.Vec2.{Vec2}
use Rattle.relations.specs.Met.{close}
use Rattle.relations.proofs.CurveMeasures.{never_close, line_middle, round_no_middle, none_no_middle}
use Rattle.relations.proofs.measures.is_midpoint.Goals as goal

pub returns-in-Line : goal.returns-in-Line
returns-in-Line c = c.close.ensures ∙ ap (close c.args.p) (c.mul.ensures ∙ ap (λ (v : Vec2). v ·ᵥ ½) c.add.ensures ∙ sym (line_middle c.in-Some.is c.in-Line.is))

pub returns-in-Round : goal.returns-in-Round
returns-in-Round c = never_close _ ∙ ap (close c.args.p) (sym (round_no_middle c.in-Some.is c.in-Round.is))

pub returns-in-None : goal.returns-in-None
returns-in-None c = never_close _ ∙ ap (close c.args.p) (sym (none_no_middle c.in-None.is))
