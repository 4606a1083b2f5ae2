use Rattle.std.proofs.Common.{arith}
use Rattle.float.proofs.Special.{below_nan}
use Rattle.float.proofs.root.guess.Goals as goal

pub float_from_bits-x : goal.float_from_bits-x
float_from_bits-x c = below_nan _ (omega arith)

pub float_from_bits-half : goal.float_from_bits-half
float_from_bits-half c = below_nan _ (omega arith)

pub float_from_bits-stretch : goal.float_from_bits-stretch
float_from_bits-stretch c = below_nan _ (omega arith)
