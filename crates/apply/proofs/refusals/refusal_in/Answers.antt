-- `apply::refusal_in` meets its contract.
use Rattle.std.proofs.Common.{sym, ◌∙◌}
use Rattle.apply.proofs.Planned.{unsuited, refusal_is}
use Rattle.apply.proofs.refusals.refusal_in.Goals as goal

pub returns-then-not-suits_kind : goal.returns-then-not-suits_kind
returns-then-not-suits_kind c = unsuited _ _ (sym c.suits_kind.ensures ∙ c.if-not-suits_kind.true)

pub returns : goal.returns
returns c =
    let a = c.args in
    refusal_is a.c a.plan a.t.now.next a.t.now.points.now a.t.now.curves.now a.t.now.relations.now c.extent_of-e.result c.count_released-left.result _ (sym c.suits_kind.ensures ∙ c.if-not-suits_kind.false) c.extent_of-e.ensures c.count_released-left.ensures c.room_for.ensures
