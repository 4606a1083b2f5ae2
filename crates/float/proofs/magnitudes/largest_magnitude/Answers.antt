use Rattle.std.proofs.Common.{sym, ◌∙◌, rules}
use Rattle.float.proofs.LargestMagnitude.{magnitude_from_start, magnitude_from_end, magnitude_from_not_finite, magnitude_from_finite}
use Rattle.float.proofs.magnitudes.largest_magnitude.Goals as goal

pub loop-place-init : goal.loop-place-init
loop-place-init c = (search rules, magnitude_from_start _)

pub returns-then-not-is_finite : goal.returns-then-not-is_finite
returns-then-not-is_finite c = sym (magnitude_from_not_finite _ _ _ c.loop-place-test.true _ c.is_finite.ensures c.if-not-is_finite.true) ∙ c.loop-place.invariant.1

pub loop-place-preserved : goal.loop-place-preserved
loop-place-preserved c = (search rules, magnitude_from_finite _ _ _ c.loop-place-test.true _ c.is_finite.ensures c.if-not-is_finite.false _ _ c.abs.ensures c.max-largest.ensures ∙ c.loop-place.invariant.1)

pub returns : goal.returns
returns c = sym (magnitude_from_end _ _ _ c.loop-place-test.false) ∙ c.loop-place.invariant.1
