-- `apply::unused_in` meets its contract.
use Rattle.std.proofs.Common.{take_all, length, ◌≤◌, sym, ap, ◌∙◌, arith}
use Rattle.apply.proofs.Turns.{unused_turn, unused_skip, none_unused, length_curves}
use Rattle.edit_plan.proofs.Unused.{unused_none}
use Rattle.edit_plan.specs.Changes.{orphan_list, unused_by}
use Rattle.edit_plan.specs.Tables.{others}
use Rattle.rows.specs.Rows.{curves_in}
use Rattle.apply.proofs.unused_points.unused_in.Goals as goal
use Rattle.apply.proofs.unused_points.unused_in.Goals.{then-g-c, else-g-c}

pub loop-i-init : goal.loop-i-init
loop-i-init c = sym (unused_none (orphan_list c.args.os))

pub returns-then-is_empty : goal.returns-then-is_empty
returns-then-is_empty c =
    let a = c.args in
    let l = c.loop-i in
    none_unused a.g l.i (curves_in a.curves.now) (orphan_list a.os) l.unused (c.is_empty.ensures.0 c.if-is_empty.true) l.invariant

pub loop-i-preserved : goal.loop-i-preserved
loop-i-preserved c =
    let a = c.args in
    let l = c.loop-i in
    elim c.if-g-c.branch [
      | then-g-c w ↦ unused_turn a.curves.now a.g l.i c.loop-i-test.true _ c.curve_at-c.ensures _ _ (orphan_list a.os) w.if-g-c.true (ap orphan_list w.unused-is ∙ w.unless_used-unused.ensures) l.invariant
      | else-g-c w ↦ ap orphan_list w.unused-is ∙ unused_skip a.curves.now a.g l.i c.loop-i-test.true _ c.curve_at-c.ensures _ (orphan_list a.os) w.if-g-c.false l.invariant
    ]

pub returns : goal.returns
returns c =
    let a = c.args in
    let l = c.loop-i in
    let h : length (curves_in a.curves.now) ≤ l.i = omega (arith, length_curves a.curves.now) in
    l.invariant ∙ ap (λ x. unused_by (others a.g x) (orphan_list a.os)) (take_all l.i (curves_in a.curves.now) h)
