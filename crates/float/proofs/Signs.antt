-- How a sign is found: a NaN differs from itself, and the sign of any other value is its pattern's highest bit. Assumes nothing.
use mathlib.Core.Path.{◌≡◌, refl, sym, ◌∙◌, ap, subst}
use mathlib.Core.Bool.{Bool, true, false, not, ◌&&◌, cond, true≢false}
use Prim.Native.Nat.{ℕ, zero, suc, ◌+◌, ◌-◌, ◌*◌, ◌/◌, ◌%◌, ◌^◌, ◌<◌}
use native.Mathlib.Nat.{add_assoc, add-mod_left, mod-eq_of_lt}
use native.Mathlib.Omega.{arith}
use lib.Dec.{T, leb, eqb}
use lib.IntN.{ℤ}
use lib.Ieee.{Float, nan, inf, fin, Format, binary64, prec, low, hid, ones, top, up, down, size, odd, lt, ne, neg, div, is_nan, nan_bits, of_fields, of_bits, to_bits, fits}
use lib.Ieee.Bits.{of_bits-to_bits, to_bits-lt, nan_bits_is}
use lib.Ieee.Compare.{nan_differs}
use lib.Ieee.Fits.{inf-fits}
use borrow.Author.Tests.{eq-eqb}
use Rattle.float.specs.Numbers.{0f, 1f}
use Rattle.float.specs.Sign.{is_finite, negative, abs, signum}

-- ---- a NaN
pub nan_is : (x : Float) → ne x x ≡ is_nan x
unfolding ne is_nan
nan_is nan = refl
nan_is (inf true) = refl
nan_is (inf false) = refl
nan_is (fin true m e) = let a = m * up e * down e in simp (eq-eqb a a refl)
nan_is (fin false m e) = let a = m * up e * down e in simp (eq-eqb a a refl)

pub the_nan : (x : Float) → is_nan x ≡ true → x ≡ nan
unfolding is_nan
the_nan nan h = refl
the_nan (inf s) h = cc
the_nan (fin s m e) h = cc

-- ---- finite
pub finite_between : (x : Float) → lt (neg (div binary64 1f 0f)) x && lt x (div binary64 1f 0f) ≡ is_finite x
unfolding is_finite lt neg div of_bits
finite_between nan = refl
finite_between (inf true) = refl
finite_between (inf false) = refl
finite_between (fin s m e) = refl

-- ---- the sign bit
odd_negative : (d : ℕ) (s : Bool) (q k l : ℕ) → negative (odd d s q k l) ≡ s
unfolding odd negative
odd_negative d s zero k l = refl
odd_negative d s (suc q) k l = refl

fields_negative : (f : Format) (s : Bool) (x t : ℕ) → is_nan (of_fields f s x t) ≡ false → negative (of_fields f s x t) ≡ s
unfolding of_fields is_nan negative
fields_negative f s zero t h = odd_negative (prec f) s t 0 (low f)
fields_negative f s (suc x) t h = go (eqb (suc x) (ones f)) (eqb t 0) h
  where
    go : (a b : Bool) → is_nan (cond a (cond b (inf s) nan) (odd (prec f) s (hid f + t) x (low f))) ≡ false → negative (cond a (cond b (inf s) nan) (odd (prec f) s (hid f + t) x (low f))) ≡ s
    go true true h = refl
    go true false h = cc
    go false b h = odd_negative (prec f) s (hid f + t) x (low f)

pub sign_bit : (f : Format) (x : Float) → T (fits f x) → is_nan x ≡ false → leb (top f) (to_bits f x) ≡ negative x
unfolding of_bits
sign_bit f x h n =
    let b = to_bits f x in
    let e = of_bits-to_bits f x h in
    sym (fields_negative f (leb (top f) b) (b % top f / hid f) (b % hid f) (ap is_nan e ∙ n)) ∙ ap negative e

pub negative_nan : (x : Float) → ne x x ≡ true → false ≡ negative x
unfolding negative
negative_nan x h = ap negative (sym (the_nan x (sym (nan_is x) ∙ h)))

-- ---- the magnitude
pub abs_nan : (x : Float) → ne x x ≡ true → x ≡ abs x
unfolding abs
abs_nan x h = let e = the_nan x (sym (nan_is x) ∙ h) in rw e

pub abs_fits : (f : Format) (x : Float) → T (fits f x) → T (fits f (abs x))
unfolding abs fits
abs_fits f nan h = h
abs_fits f (inf s) h = h
abs_fits f (fin s zero e) h = h
abs_fits f (fin s (suc m) e) h = h

signed_fits : (f : Format) (s t : Bool) (m : ℕ) (e : ℤ) → T (fits f (fin s m e)) → T (fits f (fin t m e))
unfolding fits
signed_fits f s t zero e h = h
signed_fits f s t (suc m) e h = h

cut : (t r : ℕ) (s : Bool) → t + r < 2 * t → (cond s t 0 + r) % t ≡ 0 + r
cut t r true h = add-mod_left t r ∙ mod-eq_of_lt (room t r h) ∙ omega arith
  where
    room : (t r : ℕ) → t + r < 2 * t → r < t
    room t r h = omega arith
cut t r false h = mod-eq_of_lt (room t r h)
  where
    room : (t r : ℕ) → t + r < 2 * t → 0 + r < t
    room t r h = omega arith

abs_pattern : (f : Format) (x : Float) → T (fits f x) → is_nan x ≡ false → to_bits f x % top f ≡ to_bits f (abs x)
unfolding to_bits abs is_nan
abs_pattern f nan h n = absurd (true≢false n)
abs_pattern f (inf s) h n = cut (top f) (ones f * hid f) s (to_bits-lt f (inf true) (inf-fits f true))
abs_pattern f (fin s m e) h n =
    let u = m * up e * 2 ^ low f / down e in
    let k = size u - prec f in
    let l : top f + k * hid f + u / 2 ^ k < 2 * top f = to_bits-lt f (fin true m e) (signed_fits f s true m e h) in
    rw (add_assoc (cond s (top f) 0), add_assoc 0) (cut (top f) (k * hid f + u / 2 ^ k) s (omega arith))

pub abs_bits : (f : Format) (x : Float) → T (fits f x) → is_nan x ≡ false → of_bits f (to_bits f x % top f) ≡ abs x
abs_bits f x h n = ap (of_bits f) (abs_pattern f x h n) ∙ of_bits-to_bits f (abs x) (abs_fits f x h)

pub abs_number_stays : (x : Float) → is_nan x ≡ false → is_nan (abs x) ≡ false
unfolding is_nan abs
abs_number_stays nan h = h
abs_number_stays (inf s) h = refl
abs_number_stays (fin s m e) h = refl

pub abs_number : (f : Format) (x : Float) → T (fits f x) → is_nan x ≡ false → T (not (nan_bits f (to_bits f x % top f)))
abs_number f x h n = subst (λ (b : Bool). T (not b)) (sym (nan_bits_is f (to_bits f x % top f) ∙ ap is_nan (abs_bits f x h n) ∙ abs_number_stays x n)) tt

-- ---- the sign as a number
pub signum_nan : (x : Float) → ne x x ≡ true → x ≡ signum x
unfolding signum
signum_nan x h = let e = the_nan x (sym (nan_is x) ∙ h) in rw e

pub signum_is : (x : Float) (s : Bool) → ne x x ≡ false → negative x ≡ s → cond s (neg 1f) 1f ≡ signum x
unfolding signum negative
signum_is nan s n h = absurd (true≢false (sym nan_differs ∙ n))
signum_is (inf t) s n h = rw h
signum_is (fin t m e) s n h = rw h
