-- `replication_runs::desk_calls::desk_edit_at` meets its contract.
use Rattle.std.proofs.Common.{ap, ◌∙◌}
use Rattle.replication.proofs.Steps.{same_edit}
use Rattle.replication.specs.Transitions.{memory}
use Rattle.message.specs.Message.{operation_of}
use lib.Ieee.{of_bits, binary64}
use Rattle.replication_runs.proofs.desk_calls.desk_edit_at.Goals as goal

pub returns : goal.returns
returns c =
    same_edit (memory c.args.replica c.args.buffer.now) _ _ _ _ _ _ _ _
    (c.operation_of-operation.ensures ∙ ap operation_of (c.from.ensures ∙ c.get1.ensures))
    c.get4.ensures
    (c.coordinate-x.ensures ∙ ap (of_bits binary64) c.get8.ensures)
    (c.coordinate-y.ensures ∙ ap (of_bits binary64) c.get8-2.ensures)
    c.desk_edit.ensures
