-- `apply::is_left` meets its contract.
use Rattle.std.proofs.Common.{not, ltb, length, sym, ap, ◌∙◌}
use Rattle.apply.proofs.Turns.{left_stays, left_count, some_there}
use Rattle.edit_plan.specs.Changes.{orphan_list, left_of}
use Rattle.apply.proofs.relation_rows.is_left.Goals as goal

pub returns-then-not-is_concerned : goal.returns-then-not-is_concerned
returns-then-not-is_concerned c =
    let a = c.args in
    ap not c.if-not-is_concerned.true ∙ sym (ap (λ rows. ltb 0 (length rows)) (left_stays a.e (orphan_list a.os) a.r.now (sym c.is_concerned.ensures ∙ c.if-not-is_concerned.true)))

pub returns-else-not-is_concerned : goal.returns-else-not-is_concerned
returns-else-not-is_concerned c =
    let a = c.args in
    let os = orphan_list a.os in
    c.is_some.ensures ∙ some_there c.left_of.result
    ∙ ap (λ n. ltb 0 n) (ap length (c.left_of.ensures ∙ ap (left_of a.e os) c.read_relation.ensures) ∙ left_count a.e os a.r.now (sym c.is_concerned.ensures ∙ c.if-not-is_concerned.false))
