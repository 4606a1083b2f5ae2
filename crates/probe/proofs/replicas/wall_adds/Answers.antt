-- `probe::replicas::wall_adds` meets its contract.
use Rattle.std.proofs.Common.{refl, ap}
use Rattle.probe.proofs.ReplicaSums.{place_low, wall_valid, wall_refused_lem, wall_old_lem, wall_applied_lem, told_old, told_applied}
use Rattle.probe.specs.Replicas.{image_state}
use Rattle.replication.specs.Protocol.{protocol}
use Rattle.replication.specs.WallReply.{wall_reply_of}
use Rattle.agreement.specs.Machines.{wall_transition}
use Rattle.probe.proofs.replicas.wall_adds.Goals as goal

pub returns-in-Err : goal.returns-in-Err
returns-in-Err c = let w = wall_valid c.args.image.now (λ k. (c.type_inv.image k).fits) c.requires.0 c.args.count c.args.mark c.args.buffer.now c.requires.1 _ c.put_run.ensures _ c.wall_deliver-delivered.ensures in wall_refused_lem _ (wall_transition (protocol c.args.mark) (image_state c.args.image.now c.args.count) ((protocol c.args.mark).decode c.args.message.now)) (place_low c.args.image.now (λ k. (c.type_inv.image k).fits) c.requires.0 c.args.count c.args.mark c.args.buffer.now c.requires.1 _ c.put_run.ensures c.args.message.now) _ _ (ap wall_reply_of c.in-Err.is) w.reply c.with_place.ensures

pub returns-in-Ok-Old : goal.returns-in-Ok-Old
returns-in-Ok-Old c = let w = wall_valid c.args.image.now (λ k. (c.type_inv.image k).fits) c.requires.0 c.args.count c.args.mark c.args.buffer.now c.requires.1 _ c.put_run.ensures _ c.wall_deliver-delivered.ensures in wall_old_lem _ (wall_transition (protocol c.args.mark) (image_state c.args.image.now c.args.count) ((protocol c.args.mark).decode c.args.message.now)) (told_old _ _ c.in-Ok-Old.is (rw c.in-Ok-Old.is at c.in-Ok-Old.field-0-is)) w.reply

pub returns-in-Ok-Applied : goal.returns-in-Ok-Applied
returns-in-Ok-Applied c = let w = wall_valid c.args.image.now (λ k. (c.type_inv.image k).fits) c.requires.0 c.args.count c.args.mark c.args.buffer.now c.requires.1 _ c.put_run.ensures _ c.wall_deliver-delivered.ensures in wall_applied_lem _ (wall_transition (protocol c.args.mark) (image_state c.args.image.now c.args.count) ((protocol c.args.mark).decode c.args.message.now)) _ _ (told_applied _ _ c.in-Ok-Applied.field-0-0 c.in-Ok-Applied.is (rw c.in-Ok-Applied.is at c.in-Ok-Applied.field-0-is)) w.reply w.state refl
