-- `replication::desk_edit` meets its contract.
use Rattle.std.proofs.Common.{arith}
use Rattle.replication.proofs.DeskEdit.{desk_short, desk_full, message_has_room, desk_declined, pick_numbers, desk_done}
use Rattle.replication.proofs.CallOutcomes.{first_of}
use Rattle.replication.proofs.Picks.{pick_of}
use Rattle.replication.proofs.desk.desk_edit.Goals as goal

pub returns-then-message-lt-MESSAGE_SIZE : goal.returns-then-message-lt-MESSAGE_SIZE
returns-then-message-lt-MESSAGE_SIZE c = desk_short c.args.replica c.args.window c.args.buffer.now _ c.args.message.now c.if-message-lt-MESSAGE_SIZE.true (first_of _ 25 c.front-image.ensures c.first_refusal.ensures) c.refuse.ensures

pub returns-then-replica-ge-MAX_EDIT_NUMBER : goal.returns-then-replica-ge-MAX_EDIT_NUMBER
returns-then-replica-ge-MAX_EDIT_NUMBER c = desk_full c.args.replica c.args.window c.args.buffer.now _ c.args.message.now c.if-message-lt-MESSAGE_SIZE.false c.if-replica-ge-MAX_EDIT_NUMBER.true (first_of _ 23 c.front-image-then-replica-ge-MAX_EDIT_NUMBER.ensures c.first_refusal-then-replica-ge-MAX_EDIT_NUMBER.ensures) c.refuse-then-replica-ge-MAX_EDIT_NUMBER.ensures

pub returns-in-Err : goal.returns-in-Err
returns-in-Err c = desk_declined c.args.replica c.args.window c.args.buffer.now _ c.args.message.now c.if-message-lt-MESSAGE_SIZE.false c.if-replica-ge-MAX_EDIT_NUMBER.false (pick_of _ _ c.well_formed.1.1.1.1.1.0.1 c.well_formed.1.1.1.1.1.1.0.1) _ _ c.in-Err.ensures c.refuse-in-Err.ensures

pub float_to_bits-sent : goal.float_to_bits-sent
float_to_bits-sent c = (pick_numbers c.args.replica c.args.window c.args.buffer.now (record { operation = _; curve = _; at = _ }) c.args.message.now c.if-message-lt-MESSAGE_SIZE.false c.if-replica-ge-MAX_EDIT_NUMBER.false (pick_of _ _ c.well_formed.1.1.1.1.1.0.1 c.well_formed.1.1.1.1.1.1.0.1) _ _ c.in-Ok.ensures).0

pub float_to_bits-sent-2 : goal.float_to_bits-sent-2
float_to_bits-sent-2 c = (pick_numbers c.args.replica c.args.window c.args.buffer.now (record { operation = _; curve = _; at = _ }) c.args.message.now c.if-message-lt-MESSAGE_SIZE.false c.if-replica-ge-MAX_EDIT_NUMBER.false (pick_of _ _ c.well_formed.1.1.1.1.1.0.1 c.well_formed.1.1.1.1.1.1.0.1) _ _ c.in-Ok.ensures).1

pub unwrap-requires : goal.unwrap-requires
unwrap-requires c = message_has_room c.args.message.now _ c.if-message-lt-MESSAGE_SIZE.false (omega arith) c.write_message.result c.write_message.ensures

pub returns : goal.returns
returns c = desk_done c.args.replica c.args.window c.args.buffer.now _ c.args.message.now c.if-message-lt-MESSAGE_SIZE.false c.if-replica-ge-MAX_EDIT_NUMBER.false (pick_of _ _ c.well_formed.1.1.1.1.1.0.1 c.well_formed.1.1.1.1.1.1.0.1) _ _ c.in-Ok.ensures _ _ c.write_message.ensures _ c.slide-kept.ensures
