-- Finite values that are not negative: how they compare, and that the rounded root does not fall. Assumes nothing.
use Prim.Native.Nat.{ℕ, zero, suc, ◌*◌, ◌≤◌, ◌<◌}
use mathlib.Core.Bool.{Bool, true, false, not, ◌&&◌, ◌||◌}
use mathlib.Core.Path.{◌≡◌, refl, sym, ◌∙◌, subst}
use native.Mathlib.Omega.{arith}
use native.Mathlib.Nat.{le_of_mul-le-mul_right, lt_of_not-le, not-le_of_lt, zero-mul, mul-pos, zero-lt-suc}
use borrow.Author.Tests.{ltb-true, ltb-false, eq-eqb, ne_eqb}
use lib.Dec.{T, ltb, eqb, lt→ltb}
use lib.Ieee.{Float, nan, inf, fin, binary64, up, down, lt, le, eq, fits}
use lib.Ieee.Fits.{up_pos, down_pos}
use lib.Ieee.Order.{transfer}
use lib.Ieee.Positive.{num, den}
use Rattle.float.specs.Root.{sqrt, plain}
use Rattle.float.specs.Numbers.{√}
use Rattle.float.proofs.Nearest.{sqrt_nearest}
use Rattle.float.proofs.Monotone.{sqrt_mono}

infix 50 ◌⊑◌
-- ---- comparisons
pub plain_lt : (x y : Float) → T (plain x) → T (plain y) → lt x y ≡ ltb (num x * den y) (num y * den x)
unfolding lt
plain_lt nan y p q = absurd p
plain_lt (inf s) y p q = absurd p
plain_lt (fin true m e) y p q = absurd p
plain_lt (fin false m e) nan p q = absurd q
plain_lt (fin false m e) (inf t) p q = absurd q
plain_lt (fin false m e) (fin true n d) p q = absurd q
plain_lt (fin false m e) (fin false n d) p q = refl

pub plain_le : (x y : Float) → T (plain x) → T (plain y) → le x y ≡ not (lt y x)
unfolding le lt eq
plain_le nan y p q = absurd p
plain_le (inf s) y p q = absurd p
plain_le (fin true m e) y p q = absurd p
plain_le (fin false m e) nan p q = absurd q
plain_le (fin false m e) (inf t) p q = absurd q
plain_le (fin false m e) (fin true n d) p q = absurd q
plain_le (fin false m e) (fin false n d) p q = by_numbers (m * up e * down d) (n * up d * down e)
  where
    by_numbers : (a b : ℕ) → ltb a b || (eqb a b && true) ≡ not (ltb b a)
    by_numbers a b = go (ltb b a) refl (ltb a b) refl
      where
        go : (t : Bool) → ltb b a ≡ t → (u : Bool) → ltb a b ≡ u → u || (eqb a b && true) ≡ not t
        go true h true k = absurd (order (ltb-true b a h) (ltb-true a b k))
          where
            order : b < a → a < b → ⊥
            order l g = omega arith
        go true h false k = rw (ne_eqb a b (λ e. apart (ltb-true b a h) e))
          where
            apart : b < a → a ≡ b → ⊥
            apart l e = omega arith
        go false h true k = refl
        go false h false k = rw (eq-eqb a b (same (ltb-false b a h) (ltb-false a b k)))
          where
            same : a ≤ b → b ≤ a → a ≡ b
            same l g = omega arith

-- the root of such a value is one
pub sqrt_plain : (x : Float) → T (fits binary64 x) → T (plain x) → T (plain (√ x))
unfolding sqrt
sqrt_plain nan f p = absurd p
sqrt_plain (inf s) f p = absurd p
sqrt_plain (fin true m e) f p = absurd p
sqrt_plain (fin false zero e) f p = tt
sqrt_plain (fin false (suc m) e) f p = (sqrt_nearest binary64 (fin false (suc m) e) (fin false (suc m) e) f (lt→ltb 0 (suc m) (omega arith)) f tt).1

-- r is at most s
abbrev pub ◌⊑◌ : Float → Float → Type 0
r ⊑ s = num r * den s ≤ num s * den r

not_above : (r s : Float) → T (plain r) → T (plain s) → (T (lt s r) → ⊥) → r ⊑ s
not_above r s pr ps h = go (lt s r) refl
  where
    go : (t : Bool) → lt s r ≡ t → r ⊑ s
    go true e = absurd (h (subst T (sym e) tt))
    go false e = ltb-false (num s * den r) (num r * den s) (sym (plain_lt s r ps pr) ∙ e)

-- the root does not fall
nothing : (a b c : ℕ) → 0 * a * b ≤ c
nothing a b c = rw (zero-mul a, zero-mul b) (omega arith)

something : (a b c d : ℕ) → 0 < a * b → a * b ≤ 0 * c * d → ⊥
something a b c d h l = omega (arith, zeros)
  where
    zeros : 0 * c * d ≡ 0
    zeros = rw (zero-mul c, zero-mul d)

pub sqrt_rises : (x y : Float) → T (fits binary64 x) → T (plain x) → T (fits binary64 y) → T (plain y) → x ⊑ y → √ x ⊑ √ y
unfolding sqrt
sqrt_rises nan y fx px fy py h = absurd px
sqrt_rises (inf s) y fx px fy py h = absurd px
sqrt_rises (fin true m e) y fx px fy py h = absurd px
sqrt_rises (fin false zero e) y fx px fy py h = nothing (up e) (den (√ y)) (num (√ y) * down e)
sqrt_rises (fin false (suc m) e) nan fx px fy py h = absurd py
sqrt_rises (fin false (suc m) e) (inf t) fx px fy py h = absurd py
sqrt_rises (fin false (suc m) e) (fin true n d) fx px fy py h = absurd py
sqrt_rises (fin false (suc m) e) (fin false zero d) fx px fy py h =
    absurd (something (suc m * up e) (down d) (up d) (down e) (mul-pos (mul-pos (zero-lt-suc m) (up_pos e)) (down_pos d)) h)
sqrt_rises (fin false (suc m) e) (fin false (suc n) d) fx px fy py h =
    let x = fin false (suc m) e in
    let y = fin false (suc n) d in
    not_above (√ x) (√ y) (sqrt_plain x fx px) (sqrt_plain y fy py) (sqrt_mono binary64 x y fx (lt→ltb 0 (suc m) (omega arith)) fy (lt→ltb 0 (suc n) (omega arith)) h)

-- of two fractions a / da and b / db that are m / L and n / L
pub strictly : (a b da db m n L : ℕ) → 0 < da → 0 < db → 0 < L → a * L ≡ m * da → b * L ≡ n * db → m < n → a * db < b * da
strictly a b da db m n L DA DB LL ea eb l =
    lt_of_not-le (λ (h : b * da ≤ a * db). not-le_of_lt l (le_of_mul-le-mul_right (transfer n m L L b a db da DB DA (sym eb) (sym ea) h) LL))

-- ---- against a NaN and +∞
pub under_nan : (c : Float) → (lt c nan ≡ false) × (le c nan ≡ false)
unfolding lt le eq
under_nan nan = (refl, refl)
under_nan (inf s) = (refl, refl)
under_nan (fin s m e) = (refl, refl)

pub under_infinity : (c : Float) → T (plain c) → (lt c (inf false) ≡ true) × (le c (inf false) ≡ true) × (lt (inf false) c ≡ false) × (le (inf false) c ≡ false)
unfolding lt le eq
under_infinity nan p = absurd p
under_infinity (inf s) p = absurd p
under_infinity (fin true m e) p = absurd p
under_infinity (fin false m e) p = (refl, refl, refl, refl)
