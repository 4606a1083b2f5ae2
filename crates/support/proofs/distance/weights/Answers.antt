use Rattle.support.specs.Clauses.{weights_of}
use Rattle.support.proofs.distance.weights.Goals as goal

pub returns-in-Polynomial : goal.returns-in-Polynomial
unfolding weights_of
returns-in-Polynomial c = simp c.in-Polynomial.is

pub returns-in-Rational : goal.returns-in-Rational
unfolding weights_of
returns-in-Rational c = simp c.in-Rational.is
