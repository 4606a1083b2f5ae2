-- `edit_plan::room_for` meets its contract.
use Rattle.std.proofs.Common.{sym, ap, ◌∙◌, arith}
use Rattle.sketch.specs.Lists.{ite}
use Rattle.sketch.specs.Drawing.{limits}
use Rattle.edit_plan.specs.declared.Additions.{Additions}
use Rattle.edit_plan.specs.Room.{additions_for, room_with, room_with_left}
use Rattle.edit_plan.proofs.Amounts.{small, full_is}
use Rattle.edit_plan.proofs.room.room_for.Goals as goal

pub returns-then-is_whole : goal.returns-then-is_whole
returns-then-is_whole c =
    let a = c.args in
    sym (ap (λ b. ite b 0 (room_with_left a.next a.points a.curves a.left (additions_for a.kind a.plan))) (sym c.is_whole.ensures ∙ c.if-is_whole.true))

pub overflow_sub-d : goal.overflow_sub-d
overflow_sub-d c =
    let a = c.args in
    omega (arith, (small c.additions_for-d.result a.kind a.plan c.additions_for-d.ensures).relations)

pub room-requires : goal.room-requires
room-requires c =
    let a = c.args in
    let s = small c.additions_for-d.result a.kind a.plan c.additions_for-d.ensures in
    (s.points, s.curves)

pub returns : goal.returns
returns c =
    let a = c.args in
    let d = c.additions_for-d.result in
    let s = small d a.kind a.plan c.additions_for-d.ensures in
    c.room.ensures
    ∙ ap (λ b. room_with limits a.next a.points a.curves b d) (full_is a.left d.relations s.relations)
    ∙ ap (λ (d : Additions). room_with_left a.next a.points a.curves a.left d) c.additions_for-d.ensures
    ∙ sym (ap (λ b. ite b 0 (room_with_left a.next a.points a.curves a.left (additions_for a.kind a.plan))) (sym c.is_whole.ensures ∙ c.if-is_whole.false))
