use Rattle.cuts.proofs.Sides.{beside_law}
use Rattle.cuts.proofs.brackets.beside.Goals as goal

pub returns-in-Some-after : goal.returns-in-Some-after
returns-in-Some-after c = beside_law _ c.nearest-before.ensures.numbers _ _ _ c.requires c.range-r.ensures _ _ c.in-Some.ensures.found c.in-Some-after.ensures.found

pub returns-in-None-after : goal.returns-in-None-after
returns-in-None-after c = beside_law _ c.nearest-before.ensures.numbers _ _ _ c.requires c.range-r.ensures _ _ c.in-Some.ensures.found c.in-None-after.ensures.found

pub returns-in-Some-after-2 : goal.returns-in-Some-after-2
returns-in-Some-after-2 c = beside_law _ c.nearest-before.ensures.numbers _ _ _ c.requires c.range-r.ensures _ _ c.in-None.ensures.found c.in-Some-after-2.ensures.found

pub returns-in-None-after-2 : goal.returns-in-None-after-2
returns-in-None-after-2 c = beside_law _ c.nearest-before.ensures.numbers _ _ _ c.requires c.range-r.ensures _ _ c.in-None.ensures.found c.in-None-after-2.ensures.found
