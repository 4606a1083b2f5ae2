use Rattle.std.proofs.Common.{T, sym, ◌∙◌, subst}
use Rattle.replication.proofs.Picks.{nan_constant}
use Rattle.replication_runs.proofs.desk_calls.coordinate.Goals as goal

pub returns-then-not-is_number : goal.returns-then-not-is_number
returns-then-not-is_number c = nan_constant c.args.bits (sym c.is_number.ensures ∙ c.if-not-is_number.true)

pub float_from_bits-result : goal.float_from_bits-result
float_from_bits-result c = subst T (sym (sym c.is_number.ensures ∙ c.if-not-is_number.false)) tt
