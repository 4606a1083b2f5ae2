-- `replication::wall::deliver_message` meets its contract.
use Rattle.std.proofs.Common.{sym, ◌∙◌, arith}
use borrow.Author.Tests.{not-true}
use Rattle.replication.proofs.WallDeliver.{wall_old_lem, wall_ahead, wall_nan, wall_edited}
use Rattle.replication.proofs.CallOutcomes.{first_of}
use Rattle.replication.proofs.Picks.{first_nan, second_nan}
use Rattle.replication.proofs.wall.deliver_message.Goals as goal
use Rattle.replication.proofs.wall.deliver_message.Goals.{then-not-is_number-via-then-not-is_number, then-not-is_number-via-else-not-is_number+then-not-is_number-2}

pub returns-then-m-replica : goal.returns-then-m-replica
returns-then-m-replica c = wall_old_lem c.args.replica c.args.buffer.now c.args.m c.if-m-replica.true c.front.ensures _ c.answer_old.ensures

pub returns-then-m-replica-ne1 : goal.returns-then-m-replica-ne1
returns-then-m-replica-ne1 c = wall_ahead c.args.replica c.args.buffer.now c.args.m c.if-m-replica.false (λ h. c.if-m-replica-ne1.true (omega arith)) (first_of _ 7 c.front-image.ensures c.first_refusal.ensures) c.refuse.ensures

pub returns-then-not-is_number : goal.returns-then-not-is_number
returns-then-not-is_number c = wall_nan c.args.replica c.args.buffer.now c.args.m c.if-m-replica.false (omega (arith, c.if-m-replica.false, c.if-m-replica-ne1.false)) (elim c.then-not-is_number.branch [ then-not-is_number-via-then-not-is_number w ↦ first_nan _ _ (sym c.is_number.ensures ∙ w.if-not-is_number.true) | then-not-is_number-via-else-not-is_number+then-not-is_number-2 w ↦ second_nan _ _ (sym w.is_number-else-not-is_number.ensures ∙ w.if-not-is_number-2.true) ]) (first_of _ 9 c.front-image-then-not-is_number.ensures c.first_refusal-then-not-is_number.ensures) c.refuse-then-not-is_number.ensures

pub apply_message-requires : goal.apply_message-requires
apply_message-requires c = (not-true _ (sym c.is_number.ensures ∙ c.if-not-is_number.false), not-true _ (sym c.is_number-else-not-is_number.ensures ∙ c.if-not-is_number-2.false))

pub returns : goal.returns
returns c = wall_edited c.args.replica c.args.buffer.now c.args.m c.if-m-replica.false (omega (arith, c.if-m-replica.false, c.if-m-replica-ne1.false)) _ _ c.apply_message.ensures
