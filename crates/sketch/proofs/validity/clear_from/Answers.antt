-- `sketch::clear_from` meets its contract.
use Rattle.std.proofs.Common.{sym, ◌∙◌, eqb, drop, rules, tests}
use Rattle.std.proofs.lemmas.Iterator.{YieldsList-from_slice}
use Rattle.std.proofs.lemmas.Iterator.Adapters.{YieldsList-from_skip}
use Rattle.std.proofs.lemmas.Iterator.Search.{all_from_yields_List}
use Rattle.sketch.proofs.Walks.{every_by_all}
use Rattle.sketch.proofs.validity.clear_from.Goals as goal

pub returns : goal.returns
returns c =
    let a = c.args in
    all_from_yields_List (λ i. eqb i 0) _ _ _ c.all.ensures.ran (YieldsList-from_skip a.from (YieldsList-from_slice a.slots cc) cc) (λ x b q k. search (rules, tests))
    ∙ sym (every_by_all (λ i. eqb i 0) (drop a.from a.slots))
