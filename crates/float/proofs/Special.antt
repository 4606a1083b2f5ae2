-- The values whose root is not worked out: a NaN, an infinity, a zero and the negative numbers. Assumes nothing.
use mathlib.Core.Path.{◌≡◌, refl, sym, ◌∙◌, ap, subst}
use mathlib.Core.Bool.{Bool, true, false, not, cond, true≢false, false≢true}
use Prim.Native.Nat.{ℕ, zero, suc, ◌+◌, ◌-◌, ◌*◌, ◌/◌, ◌%◌, ◌≤◌, ◌<◌}
use native.Mathlib.Nat.{zero-mul, mul_comm, mul-pos, zero-lt-suc, mod-eq_of_lt, le-div_iff_mul-le, div-lt_iff_lt-mul, le_of_suc-le-suc, le_antisymm}
use native.Mathlib.Omega.{arith}
use lib.Dec.{T, leb, ltb, eqb, nleb→lt}
use lib.Pow.{pow_pos}
use lib.Ieee.{Float, nan, inf, fin, Format, binary64, prec, emax, low, hid, ones, top, up, down, odd, lt, ne, div, is_nan, nan_bits, of_fields, of_bits, to_bits, fits}
use lib.Ieee.Fits.{up_pos}
use lib.Ieee.Bits.{of_bits-to_bits, nan_bits_above}
use lib.Ieee.Compare.{differs_from_itself, nan_differs}
use borrow.Author.Tests.{ltb-true, ltb-false, le-ltb, eq-eqb}
use Rattle.float.specs.Root.{sqrt}

-- ---- a NaN
pub sqrt_nan : (x : Float) → ne x x ≡ true → x ≡ sqrt binary64 x
unfolding sqrt
sqrt_nan x h = subst (λ (y : Float). y ≡ sqrt binary64 y) (sym (differs_from_itself x (subst T (sym h) tt))) refl

pub no_nan : (x : Float) → ne x x ≡ false → T (not (is_nan x))
unfolding is_nan
no_nan nan h = absurd (true≢false (sym nan_differs ∙ h))
no_nan (inf s) h = tt
no_nan (fin s m e) h = tt

pub below_nan : (r : ℕ) → r < 0x7ff0_0000_0000_0000 → T (not (nan_bits binary64 r))
below_nan r h = subst (λ (t : Bool). T (not t)) (sym (nan_bits_above binary64 r ∙ le-ltb (ones binary64 * hid binary64) (r % top binary64) (omega arith))) tt

-- ---- negative numbers
none_less : (a b : ℕ) → b ≡ 0 → ltb a b ≡ true → ⊥
none_less a b e h = omega (arith, ltb-true a b h)

zeros : (a b : ℕ) → 0 * a * b ≡ 0
zeros a b = ap (λ (x : ℕ). x * b) (zero-mul a) ∙ zero-mul b

both : (a b : ℕ) → a ≡ 0 → b ≡ 0 → a + b ≡ 0
both a b p q = omega arith

pub sqrt_negative : (x : Float) → lt x (of_bits binary64 0) ≡ true → div binary64 (of_bits binary64 0) (of_bits binary64 0) ≡ sqrt binary64 x
unfolding sqrt lt div of_bits
sqrt_negative nan h = absurd (false≢true h)
sqrt_negative (inf true) h = refl
sqrt_negative (inf false) h = absurd (false≢true h)
sqrt_negative (fin true zero e) h = absurd (none_less 0 (0 * up e * 1 + 0 * 1 * down e) (both (0 * up e * 1) (0 * 1 * down e) (zeros (up e) 1) (zeros 1 (down e))) h)
sqrt_negative (fin true (suc m) e) h = refl
sqrt_negative (fin false m e) h = absurd (none_less (m * up e * 1) (0 * 1 * down e) (zeros 1 (down e)) h)

-- ---- a zero
pub sqrt_zero : (x : Float) → T (fits binary64 x) → to_bits binary64 x ≡ 0 → x ≡ sqrt binary64 x
unfolding sqrt of_bits
sqrt_zero x f e = subst (λ (y : Float). y ≡ sqrt binary64 y) (ap (of_bits binary64) (sym e) ∙ of_bits-to_bits binary64 x f) refl

-- ---- an infinity
-- finite and above zero
abbrev plus : Float → Bool
plus nan = false
plus (inf s) = false
plus (fin true m e) = false
plus (fin false zero e) = false
plus (fin false (suc m) e) = true

odd_minus : (d q k l : ℕ) → T (plus (odd d true q k l)) → ⊥
unfolding odd
odd_minus d zero k l t = t
odd_minus d (suc q) k l t = t

cond_minus : (a b : Bool) (x : Float) → (T (plus x) → ⊥) → T (plus (cond a (cond b (inf true) nan) x)) → ⊥
cond_minus true true x h t = t
cond_minus true false x h t = t
cond_minus false b x h t = h t

fields_minus : (f : Format) (x t : ℕ) → T (plus (of_fields f true x t)) → ⊥
unfolding of_fields
fields_minus f zero t p = odd_minus (prec f) t 0 (low f) p
fields_minus f (suc x) t p = cond_minus (eqb (suc x) (ones f)) (eqb t 0) (odd (prec f) true (hid f + t) x (low f)) (odd_minus (prec f) (hid f + t) x (low f)) p

cond_inf : (b : Bool) → T (plus (cond b (inf false) nan)) → ⊥
cond_inf true t = t
cond_inf false t = t

no_ones : (e : ℕ) → 0 ≡ 2 * e + 1 → ⊥
no_ones e h = omega arith

fields_high : (f : Format) (x t : ℕ) → x ≡ ones f → T (plus (of_fields f false x t)) → ⊥
unfolding of_fields
fields_high f zero t e p = no_ones (emax f) e
fields_high f (suc x) t e p =
    cond_inf (eqb t 0) (subst (λ (b : Bool). T (plus (cond b (cond (eqb t 0) (inf false) nan) (odd (prec f) false (hid f + t) x (low f))))) (eq-eqb (suc x) (ones f) e) p)

pub high_not_plus : (f : Format) (b : ℕ) → ones f * hid f ≤ b → T (plus (of_bits f b)) → ⊥
unfolding of_bits
high_not_plus f b h = go (leb (top f) b) (nleb→lt (top f) b)
  where
    go : (s : Bool) → (T (not s) → b < top f) → T (plus (of_fields f s (b % top f / hid f) (b % hid f))) → ⊥
    go true l t = fields_minus f (b % top f / hid f) (b % hid f) t
    go false l t =
        let B : b < top f = l tt in
        let lo : ones f ≤ b / hid f = (le-div_iff_mul-le (pow_pos (prec f - 1))).1 h in
        let hi : b / hid f < suc (ones f) = (div-lt_iff_lt-mul (pow_pos (prec f - 1))).1 (subst (λ (x : ℕ). b < x) (mul_comm (hid f) (suc (ones f))) B) in
        fields_high f (b % top f / hid f) (b % hid f) (ap (λ (x : ℕ). x / hid f) (mod-eq_of_lt B) ∙ le_antisymm (le_of_suc-le-suc hi) lo) t

some_less : (a b : ℕ) → 0 < a → ltb 0 (a + b) ≡ false → ⊥
some_less a b p h = omega (arith, ltb-false 0 (a + b) h)

stays : (x : Float) → (T (plus x) → ⊥) → lt x (of_bits binary64 0) ≡ false → x ≡ sqrt binary64 x
unfolding sqrt lt of_bits
stays nan p h = refl
stays (inf true) p h = absurd (true≢false h)
stays (inf false) p h = refl
stays (fin s zero e) p h = refl
stays (fin true (suc m) e) p h = absurd (some_less (suc m * up e * 1) (0 * 1 * down e) (mul-pos (mul-pos (zero-lt-suc m) (up_pos e)) (zero-lt-suc 0)) h)
stays (fin false (suc m) e) p h = absurd (p tt)

pub sqrt_high : (x : Float) → T (fits binary64 x) → 0x7ff0_0000_0000_0000 ≤ to_bits binary64 x → lt x (of_bits binary64 0) ≡ false → x ≡ sqrt binary64 x
sqrt_high x f h = stays x (λ t. high_not_plus binary64 (to_bits binary64 x) h (subst (λ (y : Float). T (plus y)) (sym (of_bits-to_bits binary64 x f)) t))
