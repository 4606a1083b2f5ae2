use Rattle.float.proofs.Signs.{finite_between}
use Rattle.float.proofs.sign.is_finite.Goals as goal

pub returns : goal.returns
returns c = finite_between c.args.x
