use Rattle.std.proofs.Common.{◌≡◌, ◌∙◌, sym, subst, false, T, is_nan}
use lib.Ieee.{binary64, fits}
use Rattle.float.proofs.Special.{no_nan}
use Rattle.float.proofs.Signs.{nan_is, abs_nan, abs_bits, abs_number}
use Rattle.float.proofs.sign.abs.Goals as goal

pub returns-then-x : goal.returns-then-x
returns-then-x c = abs_nan c.args.x c.if-x.true

pub float_to_bits-result : goal.float_to_bits-result
float_to_bits-result c = no_nan _ c.if-x.false

pub float_from_bits-result : goal.float_from_bits-result
float_from_bits-result c = abs_number binary64 c.args.x ((let fact : T (fits binary64 c.args.x) × (is_nan c.args.x ≡ false) = (subst T (sym c.well_formed.0.1) tt, sym (nan_is c.args.x) ∙ c.if-x.false) in fact)).0 ((let fact : T (fits binary64 c.args.x) × (is_nan c.args.x ≡ false) = (subst T (sym c.well_formed.0.1) tt, sym (nan_is c.args.x) ∙ c.if-x.false) in fact)).1

pub returns : goal.returns
returns c = abs_bits binary64 c.args.x ((let fact : T (fits binary64 c.args.x) × (is_nan c.args.x ≡ false) = (subst T (sym c.well_formed.0.1) tt, sym (nan_is c.args.x) ∙ c.if-x.false) in fact)).0 ((let fact : T (fits binary64 c.args.x) × (is_nan c.args.x ≡ false) = (subst T (sym c.well_formed.0.1) tt, sym (nan_is c.args.x) ∙ c.if-x.false) in fact)).1
