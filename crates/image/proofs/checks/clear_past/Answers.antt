use Rattle.std.proofs.Common.{refl, ◌∙◌, ◌+◌, ◌*◌, ◌-◌, eqb, rules, tests}
use Rattle.std.proofs.lemmas.Iterator.{YieldsList-from_range}
use Rattle.std.proofs.lemmas.Iterator.Search.{all_from_yields_List}
use Rattle.big_endian.specs.Fields.{field}
use Rattle.image.proofs.Slots.{slots_past}
use Rattle.image.proofs.checks.clear_past.Goals as goal

pub returns : goal.returns
returns c =
    let r = c.args.r.now in
    let n = c.args.n in
    all_from_yields_List (λ i. eqb (field r (7 + i * 4) 4) 0) _ _ _ c.all.ensures.ran (YieldsList-from_range n 8 (8 - n) refl refl) (λ x b q k. search (rules, tests))
    ∙ slots_past r (λ s. eqb s 0) n
