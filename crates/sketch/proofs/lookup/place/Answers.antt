-- `sketch::place` meets its contract.
use Rattle.std.proofs.Common.{subst, sym, ℕ, Option}
use Rattle.sketch.specs.Lookup.{FoundAt}
use Rattle.sketch.proofs.Bisection.{found_by_search}
use Rattle.sketch.proofs.lookup.place.Goals as goal

pub returns : goal.returns
returns c =
    let a = c.args in
    let b = c.binary_search.ensures in
    let ids = a.ids.now in
    let id = a.id in
    subst (λ (r : Option ℕ). FoundAt id ids r) (sym c.ok.ensures.value) (found_by_search id ids c.binary_search.result b.bound b.ok b.position)
