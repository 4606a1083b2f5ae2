-- `message::operation_of` gives what the number means, and else an extend.
use Rattle.std.proofs.Common.{ap, ◌∙◌}
use Rattle.std.specs.Result.{result_unwrap_or}
use Rattle.message.specs.declared.Operation.TheVariants.{Extend}
use Rattle.message.proofs.OperationNumbers.{or_extend}
use Rattle.message.proofs.operations.operation_of.Goals as goal

pub returns : goal.returns
returns c = c.unwrap_or.ensures ∙ ap (λ r. result_unwrap_or r Extend) c.try_from.ensures ∙ or_extend _
