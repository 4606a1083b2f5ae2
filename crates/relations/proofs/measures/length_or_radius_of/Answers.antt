use Rattle.std.proofs.Common.{sym, ◌∙◌}
use Rattle.sketch_geometry.proofs.Found.{no_number}
use Rattle.relations.specs.Met.{length_or_radius_of}
use Rattle.relations.proofs.CurveMeasures.{line_length, round_radius}
use Rattle.relations.proofs.measures.length_or_radius_of.Goals as goal

pub returns-in-Line : goal.returns-in-Line
returns-in-Line c = c.dist.ensures ∙ sym (line_length c.in-Some.is c.in-Line.is)

pub returns-in-Round : goal.returns-in-Round
returns-in-Round c = sym (round_radius c.in-Some.is c.in-Round.is)

pub returns-in-None : goal.returns-in-None
unfolding length_or_radius_of
returns-in-None c = rw (c.in-None.is, no_number)
