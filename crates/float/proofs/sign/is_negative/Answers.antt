use Rattle.std.proofs.Common.{◌∙◌, sym, ap, subst, T, not}
use lib.Ieee.{binary64, ne}
use Rattle.float.proofs.Signs.{nan_is, sign_bit, negative_nan}
use Rattle.float.proofs.sign.is_negative.Goals as goal

pub returns-then-x : goal.returns-then-x
unfolding ne
returns-then-x c =
    let x = c.args.x in
    sign_bit binary64 x (subst T (sym c.well_formed.0.1) tt) (sym (nan_is x) ∙ ap not c.if-x.true)

pub returns-else-x : goal.returns-else-x
unfolding ne
returns-else-x c = c.if-x.false ∙ negative_nan c.args.x (ap not c.if-x.false)
