-- The direction of a turn, quarter by quarter. Assumes nothing.
use mathlib.Core.Path.{◌≡◌}
use mathlib.Core.Bool.{true, false}
use lib.Ieee.{Float, lt}
use Rattle.float.specs.Numbers.{◌⊖◌, 0f, 1f, 2f, 3f}
use Rattle.float.proofs.Literals.{as_0, as_1, as_2, as_3}
use Rattle.geom.specs.Plane.{perp}
use Rattle.shape.specs.Turn.{quarter, turned, first_quarter, heading}

module _ (s : Float) where
  pub heading_0 : lt s 1f ≡ true → first_quarter (s ⊖ 0f) ≡ heading s
  unfolding heading quarter turned
  heading_0 h = simp (h, as_0)

  pub heading_1 : lt s 1f ≡ false → lt s 2f ≡ true → perp (first_quarter (s ⊖ 1f)) ≡ heading s
  unfolding heading quarter turned
  heading_1 h k = simp (h, k, as_1)

  pub heading_2 : lt s 1f ≡ false → lt s 2f ≡ false → lt s 3f ≡ true → perp (perp (first_quarter (s ⊖ 2f))) ≡ heading s
  unfolding heading quarter turned
  heading_2 h k l = simp (h, k, l, as_2)

  pub heading_3 : lt s 1f ≡ false → lt s 2f ≡ false → lt s 3f ≡ false → perp (perp (perp (first_quarter (s ⊖ 3f)))) ≡ heading s
  unfolding heading quarter turned
  heading_3 h k l = simp (h, k, l, as_3)
