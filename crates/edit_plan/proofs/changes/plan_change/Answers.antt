-- `edit_plan::plan_change` meets its contract.
use Rattle.std.proofs.Common.{sym, ap, ◌∙◌, ◌+◌, ◌≤◌, ◌<◌, arith, le-leb}
use borrow.Author.Tests.{lt-leb}
use Rattle.sketch.specs.Lists.{ite}
use Rattle.sketch.specs.Drawing.{limits}
use Rattle.edit_plan.specs.Room.{takes}
use Rattle.edit_plan.specs.Changes.{change_for}
use Rattle.edit_plan.proofs.changes.plan_change.Goals as goal

pub overflow_sub-ids_taken : goal.overflow_sub-ids_taken
overflow_sub-ids_taken c = omega (arith, c.ids_taken.ensures.1)

pub change_for-requires : goal.change_for-requires
change_for-requires c = omega (arith, c.ids_taken.ensures.0, c.ids_taken.ensures.1)

pub returns-then-ids_taken-next : goal.returns-then-ids_taken-next
returns-then-ids_taken-next c =
    let a = c.args in
    let t = c.ids_taken.ensures in
    let m : limits.ids < a.next + takes a.c.kind a.plan = omega (arith, t.0, t.1, c.if-ids_taken-next.true) in
    c.change_for.ensures ∙ ap (λ b. change_for a.c a.plan (ite b a.next 0)) (sym (lt-leb _ _ m))

pub change_for-requires-2 : goal.change_for-requires-2
change_for-requires-2 c = omega (arith, c.ids_taken.ensures.0, c.ids_taken.ensures.1)

pub returns : goal.returns
returns c =
    let a = c.args in
    let t = c.ids_taken.ensures in
    let m : a.next + takes a.c.kind a.plan ≤ limits.ids = omega (arith, t.0, t.1, c.if-ids_taken-next.false) in
    c.change_for-2.ensures ∙ ap (λ b. change_for a.c a.plan (ite b a.next 0)) (sym (le-leb _ _ m))
