-- `sketch::all_in` meets its contract.
use Rattle.std.proofs.Common.{sym, ◌∙◌, ℕ, Bool, rules, tests}
use Rattle.std.proofs.lemmas.Iterator.{YieldsList-from_slice}
use Rattle.std.proofs.lemmas.Iterator.Search.{all_from_yields_List}
use Rattle.sketch.specs.Lookup.{among}
use Rattle.sketch.proofs.Walks.{every_by_all}
use Rattle.sketch.proofs.validity.all_in.Goals as goal

pub returns : goal.returns
returns c =
    let a = c.args in
    let f : ℕ → Bool = λ p. among p a.ids.now in
    all_from_yields_List f _ _ _ c.all.ensures.ran (YieldsList-from_slice a.wanted.now cc) (λ x b q k. search (rules, tests))
    ∙ sym (every_by_all f a.wanted.now)
