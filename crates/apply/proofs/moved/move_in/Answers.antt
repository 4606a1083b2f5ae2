-- `apply::move_in` meets its contract.
use Rattle.std.proofs.Common.{sym, arith}
use Rattle.apply.proofs.MovedRows.{moves_a_point, moves_within, moved_answered, moved_refused}
use Rattle.std.proofs.lemmas.Result.{err_from_is_err_and}
use Rattle.refusal.proofs.Numbers.{number_above_0}
use Rattle.apply.proofs.moved.move_in.Goals as goal

pub returns-in_err-refusal_of : goal.returns-in_err-refusal_of
returns-in_err-refusal_of c =
    let a = c.args in
    let p = err_from_is_err_and c.from_residual.result c.from_residual.ensures.1 in
    rw (p.1, p.2) (moved_refused a.t.now.points.now a.t.now.relations.now a.k a.v a.pin a.t.now.next a.t.now.curves.now a.out.now c.in_err-refusal_of.ensures (λ z. omega (arith, number_above_0 c.in_err-refusal_of.field-0.0)))

pub write_moved-requires : goal.write_moved-requires
write_moved-requires c =
    let a = c.args in
    let z = sym c.in_ok-refusal_of.ensures in
    (moves_a_point a.t.now.points.now a.t.now.relations.now a.k a.v a.pin z, moves_within a.t.now.points.now a.t.now.relations.now a.k a.v a.pin z c.point_at-old.ensures)

pub returns : goal.returns
returns c =
    let a = c.args in
    let z = sym c.in_ok-refusal_of.ensures in
    moved_answered a.t.now.points.now a.t.now.relations.now a.k a.v a.pin z c.point_at-old.ensures a.t.now.next a.t.now.curves.now a.out.now _ _ c.write_moved.ensures
