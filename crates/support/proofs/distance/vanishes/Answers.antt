use Rattle.std.proofs.Common.{◌∙◌, rules, tests}
use Rattle.std.proofs.lemmas.Iterator.{YieldsList-from_slice}
use Rattle.std.proofs.lemmas.Iterator.Search.{all_from_yields_List}
use Rattle.support.proofs.Offsets.{tiny, every_is}
use Rattle.support.proofs.distance.vanishes.Goals as goal

pub returns : goal.returns
returns c = all_from_yields_List tiny _ _ _ c.all.ensures.ran (YieldsList-from_slice c.args.c.now cc) (λ x b q k. search (rules, tests)) ∙ every_is tiny c.args.c.now
