-- Numbers that come about in two ways. Assumes nothing.
use mathlib.Core.Path.{◌≡◌, refl}
use lib.Ieee.{mul, of_int, of_bits}
use Rattle.float.specs.Numbers.{◌⊗◌, as_float, 0f, 1f, 2f, 3f, 10f, 1e-7, 1e-6}

-- ---- a small whole number as a float is the literal
pub as_0 : as_float 0 ≡ 0f
unfolding of_int of_bits
as_0 = refl

pub as_1 : as_float 1 ≡ 1f
unfolding of_int of_bits
as_1 = refl

pub as_2 : as_float 2 ≡ 2f
unfolding of_int of_bits
as_2 = refl

pub as_3 : as_float 3 ≡ 3f
unfolding of_int of_bits
as_3 = refl

-- ---- ten times 1e-7, rounded once, is the float nearest to 1e-6
pub ten_times_1e-7 : 1e-7 ⊗ 10f ≡ 1e-6
unfolding mul of_bits
ten_times_1e-7 = refl
