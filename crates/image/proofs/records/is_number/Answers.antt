use Rattle.image.proofs.Floats.{number_test}
use Rattle.image.proofs.records.is_number.Goals as goal

pub returns : goal.returns
returns c = number_test c.args.bits
