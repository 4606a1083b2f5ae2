-- What stands in for a bound on a root: to compare √ s with the bound is to compare s with one constant. Definitions only.
use Rattle.std.specs.Prelude.{ℕ, ◌+◌, ◌-◌, ◌/◌, ◌%◌, ◌^◌, Bool, not, ◌&&◌, ltb, Float}
use Rattle.std.specs.Float.{binary64}
use Rattle.std.specs.Float.Ieee.{lt, of_bits}
use Rattle.float.specs.Root.{plain}
use Rattle.float.specs.Numbers.{√}

-- The patterns of a bound, of the least value whose root is not below it, and of the largest whose root is not above it.
pub record Threshold : Type 0 where
  pub bound : ℕ
  pub least : ℕ
  pub most : ℕ

abbrev pub bound_of : Threshold → Float
bound_of t = of_bits binary64 t.bound

abbrev pub least_of : Threshold → Float
least_of t = of_bits binary64 t.least

abbrev pub most_of : Threshold → Float
most_of t = of_bits binary64 t.most

-- a normal value's pattern that the next value's follows in the same power of two
abbrev pub inside : ℕ → Bool
inside p = ltb 0 (p / 2 ^ 52) && ltb (p / 2 ^ 52) 2047 && ltb (p % 2 ^ 52 + 1) (2 ^ 52)

-- the two are the least and the largest: tested by four roots
abbrev pub exact : Threshold → Bool
exact t =
    plain (bound_of t) && inside (t.least - 1) && inside t.most
    && (lt (√ (of_bits binary64 (t.least - 1))) (bound_of t) && not (lt (√ (least_of t)) (bound_of t)))
    && (not (lt (bound_of t) (√ (most_of t))) && lt (bound_of t) (√ (of_bits binary64 (t.most + 1))))

-- ---- the bounds that lengths and distances are held against
abbrev pub at_1e-6 : Threshold
at_1e-6 = record { bound = 0x3eb0_c6f7_a0b5_ed8d; least = 0x3d71_9799_812d_ea10; most = 0x3d71_9799_812d_ea11 }

abbrev pub at_1e-7 : Threshold
at_1e-7 = record { bound = 0x3e7a_d7f2_9abc_af48; least = 0x3d06_849b_86a1_2b9a; most = 0x3d06_849b_86a1_2b9b }

abbrev pub at_1e-9 : Threshold
at_1e-9 = record { bound = 0x3e11_2e0b_e826_d695; least = 0x3c32_725d_d1d2_43ac; most = 0x3c32_725d_d1d2_43ad }

abbrev pub at_1e-12 : Threshold
at_1e-12 = record { bound = 0x3d71_9799_812d_ea11; least = 0x3af3_57c2_99a8_8ea7; most = 0x3af3_57c2_99a8_8ea8 }
