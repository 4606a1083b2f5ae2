use Rattle.std.proofs.Common.{refl, sym, ◌∙◌}
use Rattle.image.proofs.Floats.{number_bits_lem}
use Rattle.image.proofs.Plain.{number_is, number_is_none}
use Rattle.image.proofs.records.number_at.Goals as goal

pub float_from_bits-result : goal.float_from_bits-result
float_from_bits-result c = number_bits_lem _ refl (sym c.is_number.ensures ∙ c.if-is_number.true)

pub returns-then-is_number : goal.returns-then-is_number
returns-then-is_number c = number_is _ _ c.get8-bits.ensures c.is_number.ensures c.if-is_number.true

pub returns-else-is_number : goal.returns-else-is_number
returns-else-is_number c = number_is_none _ _ c.get8-bits.ensures c.is_number.ensures c.if-is_number.false
