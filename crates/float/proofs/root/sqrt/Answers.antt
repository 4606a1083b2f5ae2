use Rattle.std.proofs.Common.{◌∙◌, ap, sym, subst, T}
use lib.Ieee.{binary64, fits}
use lib.Ieee.Bits.{of_bits-to_bits}
use Rattle.float.specs.Root.{sqrt}
use Rattle.float.proofs.Special.{sqrt_nan, no_nan, below_nan, sqrt_negative, sqrt_zero, sqrt_high}
use Rattle.float.proofs.root.sqrt.Goals as goal

pub returns-then-x : goal.returns-then-x
returns-then-x c = sqrt_nan c.args.x c.if-x.true

pub float_to_bits-b : goal.float_to_bits-b
float_to_bits-b c = no_nan c.args.x c.if-x.false

pub returns-then-b-eq0 : goal.returns-then-b-eq0
returns-then-b-eq0 c = sqrt_zero c.args.x ((let fact : T (fits binary64 c.args.x) = subst T (sym c.well_formed.0.1) tt in fact)) c.if-b-eq0.true

pub float_from_bits-result : goal.float_from_bits-result
float_from_bits-result c = below_nan c.root_bits.result c.root_bits.ensures.0

pub returns-then-b-lt9218868437227405312 : goal.returns-then-b-lt9218868437227405312
returns-then-b-lt9218868437227405312 c = c.root_bits.ensures.1 ∙ ap (sqrt binary64) (of_bits-to_bits binary64 c.args.x ((let fact : T (fits binary64 c.args.x) = subst T (sym c.well_formed.0.1) tt in fact)))

pub returns-then-x-2 : goal.returns-then-x-2
returns-then-x-2 c = sqrt_negative c.args.x c.if-x-2.true

pub returns : goal.returns
returns c = sqrt_high c.args.x ((let fact : T (fits binary64 c.args.x) = subst T (sym c.well_formed.0.1) tt in fact)) c.if-b-lt9218868437227405312.false c.if-x-2.false
