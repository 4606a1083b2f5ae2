-- `wall_program::deliver_all` meets its contract. The invariant: what is left to deliver leads to what all leads to.
use Rattle.std.proofs.Common.{◌≡◌}
use Rattle.std.specs.Slice.Iter.{chunks_rest, chunks_size}
use Rattle.message.specs.Message.{message_size}
use Rattle.wall_program.proofs.Program.{Follows}
use Rattle.replication.specs.Transitions.{memory}
use Rattle.wall_program.proofs.deliver_all.Given as goal

abbrev pub invariant-loop-message : goal.invariant-loop-message
invariant-loop-message l = (chunks_size l.message-iterator ≡ message_size) × Follows (memory l.initial.last l.initial.buffer) l.bytes (memory l.last l.buffer) (chunks_rest l.message-iterator)
