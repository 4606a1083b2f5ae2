use Rattle.float.proofs.Special.{no_nan}
use Rattle.float.proofs.root.heron.Goals as goal

pub float_to_bits-result : goal.float_to_bits-result
float_to_bits-result c = no_nan _ c.if-b.false
