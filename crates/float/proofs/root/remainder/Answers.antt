use Rattle.std.proofs.Common.{arith}
use Rattle.float.proofs.Halves.{parts, small}
use Rattle.float.proofs.root.remainder.Goals as goal

pub overflow_mul-hh : goal.overflow_mul-hh
overflow_mul-hh c = omega (arith, (small c.args.q c.requires.1))

pub overflow_mul-hl : goal.overflow_mul-hl
overflow_mul-hl c = omega (arith, (small c.args.q c.requires.1))

pub overflow_mul-ll : goal.overflow_mul-ll
overflow_mul-ll c = omega (arith, (small c.args.q c.requires.1))

pub overflow_mul-hh-2 : goal.overflow_mul-hh-2
overflow_mul-hh-2 c = omega (arith, (small c.args.q c.requires.1))

pub returns : goal.returns
returns c = λ h. omega (arith, parts c.args.q)
