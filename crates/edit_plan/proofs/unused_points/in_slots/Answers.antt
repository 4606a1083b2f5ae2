-- `edit_plan::in_slots` meets its contract.
use Rattle.std.proofs.Common.{ap, ◌∙◌, take}
use Rattle.std.proofs.lemmas.List.{take_min}
use Rattle.sketch.specs.Lookup.{among}
use Rattle.edit_plan.proofs.Loops.{any_among}
use Rattle.edit_plan.proofs.unused_points.in_slots.Goals as goal

pub returns : goal.returns
returns c =
    let a = c.args in
    c.contains.ensures.value ∙ any_among a.p _ ∙ ap (λ n. among a.p (take n a.slots.now)) c.min.ensures ∙ ap (among a.p) (take_min a.n a.slots.now)
