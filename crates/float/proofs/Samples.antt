-- Some roots, by computation.
use mathlib.Core.Path.{◌≡◌, refl}
use lib.Ieee.{binary64, of_bits, to_bits}
use Rattle.float.specs.Root.{sqrt}

two : to_bits binary64 (sqrt binary64 (of_bits binary64 0x4000000000000000)) ≡ 0x3ff6a09e667f3bcd
unfolding to_bits sqrt of_bits
two = refl

least : to_bits binary64 (sqrt binary64 (of_bits binary64 0x1)) ≡ 0x1e60000000000000
unfolding to_bits sqrt of_bits
least = refl

most : to_bits binary64 (sqrt binary64 (of_bits binary64 0x7fefffffffffffff)) ≡ 0x5fefffffffffffff
unfolding to_bits sqrt of_bits
most = refl

tenth : to_bits binary64 (sqrt binary64 (of_bits binary64 0x3fb999999999999a)) ≡ 0x3fd43d136248490f
unfolding to_bits sqrt of_bits
tenth = refl
