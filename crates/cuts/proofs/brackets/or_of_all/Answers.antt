use Rattle.cuts.proofs.Sides.{or_there, or_all}
use Rattle.cuts.proofs.brackets.or_of_all.Goals as goal

pub returns-in-Some : goal.returns-in-Some
returns-in-Some c = record { found = or_there _ _ _ _ c.in-Some.ensures.found; numbers = c.nearest.ensures.numbers }

pub returns-in-None : goal.returns-in-None
returns-in-None c = record { found = or_all _ _ _ _ c.in-None.ensures.found c.nearest-in-None.ensures.found; numbers = c.nearest.ensures.numbers }
