use Rattle.std.proofs.Common.{◌∙◌}
use Rattle.support.proofs.Curves.{three_at_least, polynomial_point}
use Rattle.support.proofs.points.curve_point.Goals as goal

pub rational_point-requires : goal.rational_point-requires
rational_point-requires c = three_at_least _ _ _ _ c.in-Rational.is c.requires

pub returns-in-Polynomial : goal.returns-in-Polynomial
returns-in-Polynomial c = c.new.ensures ∙ polynomial_point _ _ _ _ _ _ c.in-Polynomial.is c.requires c.evaluate.ensures c.evaluate-in-Polynomial.ensures

pub returns-in-Rational : goal.returns-in-Rational
returns-in-Rational c = simp (c.rational_point.ensures, c.in-Rational.is)
