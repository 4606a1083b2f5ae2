-- `mulkefi::mulkefi_desk_edit` meets its contract.
use Rattle.std.proofs.Common.{refl, sym, ap, ◌∙◌, arith}
use Rattle.refusal.specs.Refusals.{number}
use Rattle.replication.specs.DeskReply.{desk_reply_of}
use Rattle.replication.specs.Transitions.{first_fault}
use Rattle.replication.proofs.Steps.{same_edit}
use Rattle.message.proofs.OperationNumbers.{known_operation, unknown_operation}
use Rattle.mulkefi.proofs.Calls.{desk_unknown, desk_refused_lem, desk_size, desk_accepted_lem}
use Rattle.mulkefi.specs.Calls.{mk_edit_by_number}
use Rattle.mulkefi.proofs.desk.mulkefi_desk_edit.Goals as goal

pub returns-in-Err : goal.returns-in-Err
returns-in-Err c =
    let unknown = unknown_operation c.args.operation _ c.in-Err.ensures in
    rw (c.from.ensures, c.number.ensures) (desk_unknown c.args.buffer.now c.args.len c.args.count c.args.mark c.args.operation (mk_edit_by_number c.args.operation c.args.curve c.args.x c.args.y) c.args.message.now c.args.window.now c.args.answer.now unknown.0 c.front-image.ensures (c.first_refusal.ensures ∙ ap (λ r. first_fault c.front-image.result.now (number r)) unknown.1))

pub write_answer-requires : goal.write_answer-requires
write_answer-requires c = desk_size c.args.buffer.now c.args.len c.args.count c.args.mark c.args.operation (mk_edit_by_number c.args.operation c.args.curve c.args.x c.args.y) c.args.message.now c.args.window.now c.args.answer.now (known_operation c.args.operation _ c.in-Ok.ensures).0 _ _ _ _ (same_edit _ _ _ _ _ _ _ _ _ (known_operation c.args.operation _ c.in-Ok.ensures).1 refl refl refl c.desk_edit-edited.ensures) _ (ap desk_reply_of c.in-Ok-reply.is)

pub returns-in-Err-reply : goal.returns-in-Err-reply
returns-in-Err-reply c = desk_refused_lem c.args.buffer.now c.args.len c.args.count c.args.mark c.args.operation (mk_edit_by_number c.args.operation c.args.curve c.args.x c.args.y) c.args.message.now c.args.window.now c.args.answer.now (known_operation c.args.operation _ c.in-Ok.ensures).0 _ _ _ _ (same_edit _ _ _ _ _ _ _ _ _ (known_operation c.args.operation _ c.in-Ok.ensures).1 refl refl refl c.desk_edit-edited.ensures) _ _ (ap desk_reply_of c.in-Err-reply.is) (λ k. (c.type_inv.buffer k).fits) _ (omega (arith, c.refusal_answer.ensures.0)) (omega (arith, c.refusal_answer.ensures.1))

pub returns-in-Ok-reply : goal.returns-in-Ok-reply
returns-in-Ok-reply c = desk_accepted_lem c.args.buffer.now c.args.len c.args.count c.args.mark c.args.operation (mk_edit_by_number c.args.operation c.args.curve c.args.x c.args.y) c.args.message.now c.args.window.now c.args.answer.now (known_operation c.args.operation _ c.in-Ok.ensures).0 _ _ _ _ (same_edit _ _ _ _ _ _ _ _ _ (known_operation c.args.operation _ c.in-Ok.ensures).1 refl refl refl c.desk_edit-edited.ensures) _ (ap desk_reply_of c.in-Ok-reply.is) _ _ c.write_answer.ensures
