use Rattle.std.proofs.Common.{refl, ap, ◌∙◌, Bool, ℕ, ◌+◌, ◌*◌, arith, rules, tests}
use Rattle.std.specs.List.{list_all, range_with_len}
use Rattle.std.proofs.lemmas.Iterator.{YieldsList-from_range}
use Rattle.std.proofs.lemmas.Iterator.Search.{all_from_yields_List}
use Rattle.big_endian.specs.Fields.{field}
use Rattle.sketch.specs.Lookup.{among}
use Rattle.image.specs.Records.{point_size}
use Rattle.image.proofs.Slots.{slots_first}
use Rattle.rows.specs.Rows.{ids_in}
use Rattle.rows.proofs.references.slots_in.Goals as goal

pub returns : goal.returns
returns c =
    let r = c.args.r.now in
    let known : ℕ → Bool = λ p. among p (ids_in point_size c.args.points.now) in
    all_from_yields_List (λ i. known (field r (7 + i * 4) 4)) _ _ _ c.all.ensures.ran (YieldsList-from_range 0 c.min.result c.min.result refl (omega arith)) (λ x b q k. search (rules, tests))
    ∙ ap (λ (n : ℕ). list_all (λ i. known (field r (7 + i * 4) 4)) (range_with_len 0 n)) (search rules)
    ∙ slots_first r known c.args.n
