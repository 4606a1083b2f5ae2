-- Rounded arithmetic, written infix, and the constants that definitions name. Each operator rounds once, to binary64. Definitions only.
use Rattle.std.specs.Prelude.{ℕ, pos, Float}
use Rattle.std.specs.Float.{binary64}
use Rattle.std.specs.Float.Ieee.{add, sub, mul, div, of_int, of_bits}
use Rattle.float.specs.Root.{sqrt}

infixl 70 ◌⊕◌
infixl 70 ◌⊖◌
infixl 75 ◌⊗◌
infixl 75 ◌⊘◌
abbrev pub ◌⊕◌ : Float → Float → Float
a ⊕ b = add binary64 a b

abbrev pub ◌⊖◌ : Float → Float → Float
a ⊖ b = sub binary64 a b

abbrev pub ◌⊗◌ : Float → Float → Float
a ⊗ b = mul binary64 a b

abbrev pub ◌⊘◌ : Float → Float → Float
a ⊘ b = div binary64 a b

abbrev pub √ : Float → Float
√ x = sqrt binary64 x

-- a whole number as a float
abbrev pub as_float : ℕ → Float
as_float n = of_int binary64 (pos n)

-- ---- small numbers: 1f is 1.0
abbrev pub 0f : Float
0f = of_bits binary64 0

abbrev pub ½ : Float
½ = of_bits binary64 0x3fe0_0000_0000_0000

abbrev pub 1f : Float
1f = of_bits binary64 0x3ff0_0000_0000_0000

abbrev pub 2f : Float
2f = of_bits binary64 0x4000_0000_0000_0000

abbrev pub 3f : Float
3f = of_bits binary64 0x4008_0000_0000_0000

abbrev pub 4f : Float
4f = of_bits binary64 0x4010_0000_0000_0000

abbrev pub 10f : Float
10f = of_bits binary64 0x4024_0000_0000_0000

-- ---- powers of ten and multiples of them, each the float nearest to it
abbrev pub 1e-30 : Float
1e-30 = of_bits binary64 0x39b4_484b_feeb_c2a0

abbrev pub 1e-28 : Float
1e-28 = of_bits binary64 0x3a1f_b0f6_be50_6019

abbrev pub 1e-15 : Float
1e-15 = of_bits binary64 0x3cd2_03af_9ee7_5616

abbrev pub 2e-14 : Float
2e-14 = of_bits binary64 0x3d16_849b_86a1_2b9b

abbrev pub 1e-13 : Float
1e-13 = of_bits binary64 0x3d3c_25c2_6849_7682

abbrev pub 2e-13 : Float
2e-13 = of_bits binary64 0x3d4c_25c2_6849_7682

abbrev pub 1e-12 : Float
1e-12 = of_bits binary64 0x3d71_9799_812d_ea11

abbrev pub 1e-10 : Float
1e-10 = of_bits binary64 0x3ddb_7cdf_d9d7_bdbb

abbrev pub 1e-9 : Float
1e-9 = of_bits binary64 0x3e11_2e0b_e826_d695

abbrev pub 1e-7 : Float
1e-7 = of_bits binary64 0x3e7a_d7f2_9abc_af48

abbrev pub 1e-6 : Float
1e-6 = of_bits binary64 0x3eb0_c6f7_a0b5_ed8d

abbrev pub 1e6 : Float
1e6 = of_bits binary64 0x412e_8480_0000_0000

abbrev pub 4e6 : Float
4e6 = of_bits binary64 0x414e_8480_0000_0000

abbrev pub 1e7 : Float
1e7 = of_bits binary64 0x4163_12d0_0000_0000
