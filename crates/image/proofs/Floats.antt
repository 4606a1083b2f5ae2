-- Floats in range and their bits.
use mathlib.Core.Path.{◌≡◌, refl, sym, ap, ◌∙◌, subst}
use mathlib.Core.Bool.{Bool, true, false, not, ◌&&◌, true≢false}
use Prim.Native.Nat.{ℕ, ◌%◌}
use native.Mathlib.Omega.{arith}
use mathlib.Core.List.{List}
use lib.Dec.{T, leb}
use lib.Ieee.{Float, nan, inf, fin, le, lt, eq, is_nan, of_bits, to_bits, nan_bits, neg, binary64, ne}
use lib.Ieee.Bits.{to_bits-of_bits, nan_bits_is, nan_bits_above}
use lib.Ieee.Compare.{differs_from_itself, nan_differs}
use Rattle.big_endian.specs.Fields.{field}
use Rattle.big_endian.specs.Laws.{Bytes, field_lt}
use Rattle.sketch.specs.Valid.{ok_coordinate, ok_radius, ok_rho, ok_measure}
use Rattle.sketch.proofs.Bools.{leb_ltb}

and_false : (a : Bool) → (a && false) ≡ false
and_false true = refl
and_false false = refl

-- a test that a NaN fails
abbrev pub Rejects : (Float → Bool) → Type 0
Rejects ok = ok nan ≡ false

pub coordinate_rejects : Rejects ok_coordinate
unfolding ok_coordinate le lt eq
coordinate_rejects = and_false (le (neg (of_bits binary64 0x412e_8480_0000_0000)) nan)

pub radius_rejects : Rejects ok_radius
unfolding ok_radius le lt eq
radius_rejects = and_false (le (of_bits binary64 0x3eb0_c6f7_a0b5_ed8d) nan)

pub rho_rejects : Rejects ok_rho
unfolding ok_rho lt
rho_rejects = and_false (lt (of_bits binary64 0) nan)

pub measure_rejects : Rejects ok_measure
unfolding ok_measure le lt eq
measure_rejects = and_false (le (of_bits binary64 0) nan)

-- what passes is a number
pub no_nan : (ok : Float → Bool) → Rejects ok → (x : Float) → ok x ≡ true → is_nan x ≡ false
unfolding is_nan
no_nan ok e nan h = let z : ◌≡◌ {A = ℕ} 0 1 = cc in absurd (omega arith)
no_nan ok e (inf s) h = refl
no_nan ok e (fin s m k) h = refl

-- bits of a NaN do not pass
pub nan_fails : (ok : Float → Bool) → Rejects ok → (b : ℕ) → not (nan_bits binary64 b) ≡ false → ok (of_bits binary64 b) ≡ false
unfolding is_nan
nan_fails ok e b h = go (of_bits binary64 b) (is (nan_bits binary64 b) h) (nan_bits_is binary64 b)
  where
    is : (t : Bool) → not t ≡ false → t ≡ true
    is true h = refl
    is false h = let z : ◌≡◌ {A = ℕ} 0 1 = cc in absurd (omega arith)

    go : (x : Float) → {t : Bool} → t ≡ true → t ≡ is_nan x → ok x ≡ false
    go nan h k = e
    go (inf s) h k = let z : ◌≡◌ {A = ℕ} 0 1 = cc in absurd (omega arith)
    go (fin s m j) h k = let z : ◌≡◌ {A = ℕ} 0 1 = cc in absurd (omega arith)

-- what passes has bits
pub number_float : (ok : Float → Bool) → Rejects ok → (x : Float) → ok x ≡ true → T (not (is_nan x))
number_float ok e x h = subst (λ (t : Bool). T (not t)) (sym (no_nan ok e x h)) tt

-- bits that were read as a number in range are written as they were
pub bits_back : (ok : Float → Bool) → Rejects ok → (s : List ℕ) (at : ℕ) → Bytes s → ok (of_bits binary64 (field s at 8)) ≡ true → to_bits binary64 (of_bits binary64 (field s at 8)) ≡ field s at 8
bits_back ok e s at b h =
    to_bits-of_bits binary64 (field s at 8) (field_lt s at 8 b)
    (number_float ok e (of_bits binary64 (field s at 8)) h)

-- bits of a number are at most those of an infinity, the sign put away
pub number_test : (b : ℕ) → leb (b % 0x8000_0000_0000_0000) 0x7ff0_0000_0000_0000 ≡ not (nan_bits binary64 b)
number_test b = rw (nan_bits_above binary64 b) (leb_ltb (b % 0x8000_0000_0000_0000) 0x7ff0_0000_0000_0000)

-- bits that were tested may become a float
pub number_bits_lem : (n : ℕ) {b : ℕ} → n ≡ b → not (nan_bits binary64 b) ≡ true → T (not (nan_bits binary64 n))
number_bits_lem n e h = subst T (sym h ∙ ap (λ (k : ℕ). not (nan_bits binary64 k)) (sym e)) tt

-- what differs from itself has the bits of the NaN
pub nan_bits_lem : (x : Float) → ne x x ≡ true → 0x7ff8_0000_0000_0000 ≡ to_bits binary64 x
unfolding to_bits
nan_bits_lem x h = rw (differs_from_itself x (subst T (sym h) tt))

-- what equals itself is a number
pub same_number : (x : Float) → ne x x ≡ false → T (not (is_nan x))
unfolding is_nan
same_number nan h = absurd (true≢false (sym nan_differs ∙ h))
same_number (inf s) h = tt
same_number (fin s m e) h = tt
