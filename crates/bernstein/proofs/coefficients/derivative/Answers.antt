use Rattle.std.proofs.Common.{refl, ◌∙◌, rules, arith}
use Rattle.bernstein.proofs.CoefficientWalks.{whole, next_slope, all_slopes}
use Rattle.bernstein.proofs.coefficients.derivative.Goals as goal

pub int_to_float-degree : goal.int_to_float-degree
int_to_float-degree c = whole _ (search rules)

pub loop-i-init : goal.loop-i-init
loop-i-init c = (search rules, search rules, search rules, refl, refl)

pub loop-i-preserved : goal.loop-i-preserved
loop-i-preserved c = let v = c.loop-i.invariant in (search rules, search rules, search rules, search rules, next_slope _ _ _ c.loop-i.i (omega (arith, v)) (omega (arith, v)) ∙ v.4)

pub returns : goal.returns
returns c = let l = c.loop-i in all_slopes _ l.d l.i (omega arith) l.invariant.4
