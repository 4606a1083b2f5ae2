-- `probe::replicas::desk_adds` meets its contract.
use Rattle.std.proofs.Common.{refl, ap}
use Rattle.probe.proofs.ReplicaSums.{drawing_valid, desk_valid, desk_refused_lem, desk_done}
use Rattle.probe.specs.Replicas.{image_state}
use Rattle.image.specs.Image.{drawing_of}
use Rattle.replication.specs.Protocol.{protocol}
use Rattle.replication.specs.DeskReply.{desk_reply_of}
use Rattle.message.specs.Message.{message_size}
use Rattle.agreement.specs.Machines.{call_outcome}
use Rattle.probe.proofs.replicas.desk_adds.Goals as goal

pub returns-in-Err : goal.returns-in-Err
returns-in-Err c = let w = desk_valid c.args.image.now (λ k. (c.type_inv.image k).fits) c.requires.0 c.args.count 0 c.args.buffer.now c.requires.1 _ c.put_run.ensures _ _ c.desk_edit-edited.ensures in desk_refused_lem 0 (drawing_of c.args.image.now) (drawing_valid c.args.image.now (λ k. (c.type_inv.image k).fits) c.requires.0 c.args.count 0 c.args.buffer.now c.requires.1 _ c.put_run.ensures) (record { operation = c.args.operation; curve = c.args.curve; at = record { x = c.args.x; y = c.args.y } }) _ _ (call_outcome (protocol 0) (image_state c.args.image.now c.args.count) (record { edit = (record { operation = c.args.operation; curve = c.args.curve; at = record { x = c.args.x; y = c.args.y } }); room = message_size })) _ _ (ap desk_reply_of c.in-Err.is) w.reply c.with_place.ensures

pub returns-in-Ok : goal.returns-in-Ok
returns-in-Ok c = let w = desk_valid c.args.image.now (λ k. (c.type_inv.image k).fits) c.requires.0 c.args.count 0 c.args.buffer.now c.requires.1 _ c.put_run.ensures _ _ c.desk_edit-edited.ensures in desk_done 0 (drawing_of c.args.image.now) (drawing_valid c.args.image.now (λ k. (c.type_inv.image k).fits) c.requires.0 c.args.count 0 c.args.buffer.now c.requires.1 _ c.put_run.ensures) (record { operation = c.args.operation; curve = c.args.curve; at = record { x = c.args.x; y = c.args.y } }) _ _ (call_outcome (protocol 0) (image_state c.args.image.now c.args.count) (record { edit = (record { operation = c.args.operation; curve = c.args.curve; at = record { x = c.args.x; y = c.args.y } }); room = message_size })) (image_state c.args.image.now c.args.count) _ _ (ap desk_reply_of c.in-Ok.is) w.reply w.state refl
