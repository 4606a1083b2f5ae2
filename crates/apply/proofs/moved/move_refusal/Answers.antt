-- `apply::move_refusal` meets its contract.
use Rattle.std.proofs.Common.{◌∙◌}
use Rattle.apply.proofs.MovedRows.{move_refused, over_limits}
use Rattle.apply.proofs.moved.move_refusal.Goals as goal

pub returns-in_err-tables : goal.returns-in_err-tables
returns-in_err-tables c =
    let t = c.args.t.now in
    λ e. absurd (c.in_err-tables.ensures (over_limits t.image.now e t.own_points t.own_curves t.own_relations))

pub returns : goal.returns
returns c =
    let a = c.args in
    let t = a.t.now in
    let l = c.in_ok-tables.ensures in
    move_refused t.image.now a.k a.v a.pin _ _ _ (l.1 ∙ t.own_points) (l.3 ∙ t.own_relations) c.refusal_of.ensures
