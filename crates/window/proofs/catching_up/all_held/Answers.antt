-- `window::catching_up::all_held` meets its contract.
use Rattle.std.proofs.Common.{◌∙◌, ◌+◌, refl, arith, rules, tests}
use Rattle.std.proofs.lemmas.Iterator.{YieldsList-from_range}
use Rattle.std.proofs.lemmas.Iterator.Search.{all_from_yields_List}
use Rattle.window.specs.Window.{is_held}
use Rattle.window.proofs.CatchingUp.{each_held}
use Rattle.window.proofs.catching_up.all_held.Goals as goal

pub returns : goal.returns
returns c =
    let a = c.args in
    all_from_yields_List (λ i. is_held a.mark a.window.now (a.wall + (i + 1))) _ _ _ c.all.ensures.ran (YieldsList-from_range 0 a.n a.n refl (omega arith)) (λ x b q k. search (rules, tests))
    ∙ each_held a.mark a.window.now a.wall a.n
