-- `mulkefi::mulkefi_wall_deliver` meets its contract.
use Rattle.std.proofs.Common.{Ok, ap, ◌∙◌}
use Rattle.replication.specs.WallReply.{wall_reply_of}
use Rattle.mulkefi.proofs.Calls.{wall_refused_lem, wall_old_size, wall_old_lem, wall_size, wall_applied_lem}
use Rattle.mulkefi.proofs.wall.mulkefi_wall_deliver.Goals as goal

pub write_answer-requires : goal.write_answer-requires
write_answer-requires c = wall_old_size c.args.buffer.now c.args.len c.args.count c.args.mark c.args.message.now c.args.answer.now _ _ c.wall_deliver-delivered.ensures (ap wall_reply_of c.in-Ok-Old.is ∙ ap (λ d. wall_reply_of (Ok d)) (rw c.in-Ok-Old.is at c.in-Ok-Old.field-0-is))

pub write_answer-requires-in-Ok-Applied : goal.write_answer-requires-in-Ok-Applied
write_answer-requires-in-Ok-Applied c = wall_size c.args.buffer.now c.args.len c.args.count c.args.mark c.args.message.now c.args.answer.now _ _ c.wall_deliver-delivered.ensures _ (ap wall_reply_of c.in-Ok-Applied.is ∙ ap (λ d. wall_reply_of (Ok d)) (rw c.in-Ok-Applied.is at c.in-Ok-Applied.field-0-is))

pub returns-in-Err : goal.returns-in-Err
returns-in-Err c = wall_refused_lem c.args.buffer.now c.args.len c.args.count c.args.mark c.args.message.now c.args.answer.now _ _ c.wall_deliver-delivered.ensures _ _ (ap wall_reply_of c.in-Err.is) (λ k. (c.type_inv.buffer k).fits) _ c.refusal_answer.ensures.0 c.refusal_answer.ensures.1

pub returns-in-Ok-Old : goal.returns-in-Ok-Old
returns-in-Ok-Old c = wall_old_lem c.args.buffer.now c.args.len c.args.count c.args.mark c.args.message.now c.args.answer.now _ _ c.wall_deliver-delivered.ensures (ap wall_reply_of c.in-Ok-Old.is ∙ ap (λ d. wall_reply_of (Ok d)) (rw c.in-Ok-Old.is at c.in-Ok-Old.field-0-is)) _ _ c.write_answer.ensures

pub returns-in-Ok-Applied : goal.returns-in-Ok-Applied
returns-in-Ok-Applied c = wall_applied_lem c.args.buffer.now c.args.len c.args.count c.args.mark c.args.message.now c.args.answer.now _ _ c.wall_deliver-delivered.ensures _ (ap wall_reply_of c.in-Ok-Applied.is ∙ ap (λ d. wall_reply_of (Ok d)) (rw c.in-Ok-Applied.is at c.in-Ok-Applied.field-0-is)) _ _ c.write_answer-in-Ok-Applied.ensures
