-- Finite values that are not negative, counted in units of the smallest. Assumes nothing.
use mathlib.Core.Path.{◌≡◌, refl, sym, ◌∙◌, ap}
use mathlib.Core.Bool.{true, false, ◌&&◌, true≢false}
use Prim.Native.Nat.{ℕ, zero, suc, ◌+◌, ◌-◌, ◌*◌, ◌%◌, ◌^◌, ◌≤◌, ◌<◌}
use native.Mathlib.Nat.{mul_assoc, zero-mul, mul-one, lt_of_lt_of_le, lt_irrefl, mul-pos}
use native.Mathlib.Omega.{arith}
use lib.Dec.{T, ltb, leb, eqb, ltb→lt, leb→le}
use lib.IntN.{ℤ, pos, negsuc}
use lib.Pow.{pow_pos, pow-lt, pow-add}
use lib.Ieee.{Float, nan, inf, fin, Format, prec, emax, low, up, down, fits}
use lib.Ieee.Digits.{back}
use lib.Ieee.Fits.{down_pos, and_l, and_r}
use lib.Ieee.Exact.{HasValue}
use lib.Ieee.Positive.{num, den, positive}
use Rattle.float.specs.Root.{plain}
use Rattle.float.proofs.Around.{Held}

pub positive_plain : (x : Float) → T (positive x) → T (plain x)
positive_plain nan p = absurd p
positive_plain (inf s) p = absurd p
positive_plain (fin true m e) p = absurd p
positive_plain (fin false m e) p = tt

pub plain_of : (x : Float) (a c : ℕ) → HasValue x false a c → T (plain x)
plain_of nan a c h = absurd h
plain_of (inf s) a c h = absurd h
plain_of (fin true m e) a c h = absurd (true≢false h.0)
plain_of (fin false m e) a c h = tt

-- ---- a value in units of the smallest
pow_le_back : (a l : ℕ) → 2 ^ a ≤ 2 ^ l → a ≤ l
pow_le_back a l h = not_above (λ (g : l < a). lt_irrefl (2 ^ l) (lt_of_lt_of_le (pow-lt g) h))
  where
    not_above : {a b : ℕ} → (a < b → ⊥) → b ≤ a
    not_above g = omega arith

scaled_whole : (l m : ℕ) (e : ℤ) → down e ≤ 2 ^ l → (j : ℕ) × (m * up e * 2 ^ l ≡ m * 2 ^ j * down e)
scaled_whole l m (pos a) h = (a + l, mul_assoc m (2 ^ a) (2 ^ l) ∙ ap (λ (x : ℕ). m * x) (sym (pow-add 2 a l)) ∙ sym (mul-one (m * 2 ^ (a + l))))
scaled_whole l m (negsuc a) h = (
  l - suc a,
  ap (λ (x : ℕ). x * 2 ^ l) (mul-one m)
      ∙ ap (λ (x : ℕ). m * x) (ap (λ (x : ℕ). 2 ^ x) (sym (back l (suc a) (pow_le_back (suc a) l h))) ∙ pow-add 2 (l - suc a) (suc a))
      ∙ sym (mul_assoc m (2 ^ (l - suc a)) (2 ^ suc a)),
)

pub in_units : (f : Format) (v : Float) → T (fits f v) → T (plain v) → (y : ℕ) × HasValue v false y (2 ^ low f) × Held (prec f) y
unfolding fits
in_units f nan h p = absurd p
in_units f (inf s) h p = absurd p
in_units f (fin true m e) h p = absurd p
in_units f (fin false zero e) h p =
    (0, (refl, ap (λ (x : ℕ). x * 2 ^ low f) (zero-mul (up e)) ∙ zero-mul (2 ^ low f) ∙ sym (zero-mul (down e))), record { digits = 0; zeros = 0; is = refl; short = pow_pos (prec f) })
in_units f (fin false (suc m) e) h p =
    let A = eqb (suc m % 2) 1 in
    let B = ltb (suc m) (2 ^ prec f) in
    let C = leb (down e) (2 ^ low f) in
    let D = ltb (suc m * up e) (2 ^ suc (emax f) * down e) in
    let z = scaled_whole (low f) (suc m) e (leb→le (down e) (2 ^ low f) (and_r (A && B) C (and_l (A && B && C) D h))) in
    (suc m * 2 ^ z.0, (refl, z.1), record { digits = suc m; zeros = z.0; is = refl; short = ltb→lt (suc m) (2 ^ prec f) (and_r A B (and_l (A && B) C (and_l (A && B && C) D h))) })

pub in_range_lem : (f : Format) (x : Float) → T (fits f x) → T (plain x) → num x < 2 ^ suc (emax f) * den x
unfolding fits
in_range_lem f nan h p = absurd p
in_range_lem f (inf s) h p = absurd p
in_range_lem f (fin true m e) h p = absurd p
in_range_lem f (fin false zero e) h p = rw (zero-mul (up e)) (mul-pos (pow_pos (suc (emax f))) (down_pos e))
in_range_lem f (fin false (suc m) e) h p =
    ltb→lt (suc m * up e) (2 ^ suc (emax f) * down e) (and_r (eqb (suc m % 2) 1 && ltb (suc m) (2 ^ prec f) && leb (down e) (2 ^ low f)) (ltb (suc m * up e) (2 ^ suc (emax f) * down e)) h)
