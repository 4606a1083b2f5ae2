use Rattle.std.proofs.Common.{◌∙◌, ◌+◌, ◌*◌, rules}
use Rattle.big_endian.specs.Fields.{field}
use Rattle.image.proofs.Slots.{made, slots_made}
use Rattle.image.proofs.records.slots_at.Goals as goal

pub returns : goal.returns
returns c =
    let r = c.args.r.now in
    made _ _ (λ i. field r (7 + i * 4) 4) (λ i y q k. search rules) _ 8 c.from_fn.ensures.items ∙ slots_made r
