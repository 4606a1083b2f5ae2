-- `apply::apply_move` meets its contract.
use Rattle.std.proofs.Common.{refl, ◌∙◌}
use Rattle.apply.proofs.MovedRows.{move_written}
use Rattle.apply.proofs.moved.apply_move.Goals as goal

pub returns-in_err-tables : goal.returns-in_err-tables
returns-in_err-tables c =
    let a = c.args in
    let t = a.t.now in
    move_written t.image.now a.k a.v a.pin t.bytes a.out.now _ _ _ _ _ _ t.own_points t.own_curves t.own_relations refl (λ w. absurd (c.in_err-tables.ensures w))

pub returns : goal.returns
returns c =
    let a = c.args in
    let t = a.t.now in
    let l = c.in_ok-tables.ensures in
    move_written t.image.now a.k a.v a.pin t.bytes a.out.now _ _ _ _ _ _ (l.1 ∙ t.own_points) (l.2 ∙ t.own_curves) (l.3 ∙ t.own_relations) l.0 (λ w. c.move_in.ensures)
