-- `sketch::sort_at` meets its contract.
use Rattle.sketch.proofs.Sorts.{sort_missing, sort_got}
use Rattle.sketch.proofs.lookup.sort_at.Goals as goal

pub returns-in_err-k : goal.returns-in_err-k
returns-in_err-k g c = λ number e h. let a = c.args in rw c.from_residual.ensures (sort_missing number a.id a.ids.now a.sorts.now h c.in_err-k.ensures)

pub returns : goal.returns
returns g c =
    λ number e h. let a = c.args in rw c.copied.ensures (sort_got number a.id a.ids.now a.sorts.now h e c.in_ok-k.k c.in_ok-k.ensures c.get.result c.get.ensures.lookup.3)
