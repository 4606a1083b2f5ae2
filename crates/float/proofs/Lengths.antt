-- A length held against a bound, by its square: for each bound, and for every vector, a NaN and an infinity included. Assumes nothing.
use mathlib.Core.Path.{◌≡◌}
use lib.Dec.{T}
use lib.Ieee.{Float, binary64, lt, le, fits, of_bits}
use lib.Ieee.Fits.{add-fits}
use Rattle.float.specs.Root.{sqrt}
use Rattle.float.specs.Numbers.{◌⊕◌, ◌⊗◌, √}
use Rattle.float.specs.Thresholds.{Threshold, bound_of, least_of, most_of, exact, at_1e-6, at_1e-7, at_1e-9, at_1e-12}
use Rattle.float.proofs.Unsigned.{squares_unsigned}
use Rattle.float.proofs.Thresholds.{root_below, root_above, root_at_most, root_at_least}

module _ (t : Threshold) (ok : T (exact t)) (x y : Float) where
  abbrev s : Float
  s = x ⊗ x ⊕ y ⊗ y

  s_fits : T (fits binary64 s)
  s_fits = add-fits binary64 (x ⊗ x) (y ⊗ y)

  pub length_below : lt (√ s) (bound_of t) ≡ lt s (least_of t)
  length_below = root_below t ok s s_fits (squares_unsigned x y)

  pub length_above : lt (bound_of t) (√ s) ≡ lt (most_of t) s
  length_above = root_above t ok s s_fits (squares_unsigned x y)

  pub length_at_most : le (√ s) (bound_of t) ≡ le s (most_of t)
  length_at_most = root_at_most t ok s s_fits (squares_unsigned x y)

  pub length_at_least : le (bound_of t) (√ s) ≡ le (least_of t) s
  length_at_least = root_at_least t ok s s_fits (squares_unsigned x y)

-- ---- the bounds are what they are said to be
pub exact_1e-6 : T (exact at_1e-6)
unfolding of_bits lt sqrt
exact_1e-6 = tt

pub exact_1e-7 : T (exact at_1e-7)
unfolding of_bits lt sqrt
exact_1e-7 = tt

pub exact_1e-9 : T (exact at_1e-9)
unfolding of_bits lt sqrt
exact_1e-9 = tt

pub exact_1e-12 : T (exact at_1e-12)
unfolding of_bits lt sqrt
exact_1e-12 = tt
