-- `apply::apply_to` meets its contract.
use Rattle.std.proofs.Common.{arith}
use Rattle.apply.proofs.Planned.{past_refused, target_is, refusal_at, refused_answered}
use Rattle.std.proofs.lemmas.Result.{err_from_is_err_and}
use Rattle.refusal.proofs.Numbers.{number_above_0}
use Rattle.apply.proofs.image_plan.apply_to.Goals as goal

pub returns-then-t-k : goal.returns-then-t-k
returns-then-t-k c =
    let a = c.args in
    refused_answered a.t.now.next a.t.now.points.now a.t.now.curves.now a.t.now.relations.now a.k a.plan a.out.now 8 (past_refused a.t.now.next a.t.now.points.now a.t.now.curves.now a.t.now.relations.now a.k a.plan c.if-t-k.true) (λ q. omega arith)

pub returns-in_err-refusal_in : goal.returns-in_err-refusal_in
returns-in_err-refusal_in c =
    let a = c.args in
    let p = err_from_is_err_and c.from_residual.result c.from_residual.ensures.1 in
    rw (p.1, p.2) (refused_answered a.t.now.next a.t.now.points.now a.t.now.curves.now a.t.now.relations.now a.k a.plan a.out.now _ (refusal_at a.t.now.next a.t.now.points.now a.t.now.curves.now a.t.now.relations.now a.k a.plan c.curve_at-c.result _ c.if-t-k.false c.curve_at-c.ensures c.in_err-refusal_in.ensures) (λ z. omega (arith, number_above_0 c.in_err-refusal_in.field-0.0)))

pub write_plan-requires : goal.write_plan-requires
write_plan-requires c =
    let a = c.args in
    (c.if-t-k.false, target_is a.t.now.next a.t.now.points.now a.t.now.curves.now a.t.now.relations.now a.k a.plan c.curve_at-c.result c.if-t-k.false c.curve_at-c.ensures, refusal_at a.t.now.next a.t.now.points.now a.t.now.curves.now a.t.now.relations.now a.k a.plan c.curve_at-c.result 0 c.if-t-k.false c.curve_at-c.ensures c.in_ok-refusal_in.ensures)
