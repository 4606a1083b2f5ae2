-- A root by its binary digits: two digits of the number come down, and give one of the root.
-- Assumes nothing.
use mathlib.Core.Path.{◌≡◌, sym, ◌∙◌, ap, subst}
use Prim.Native.Nat.{ℕ, ◌+◌, ◌*◌, ◌/◌, ◌%◌, ◌^◌, ◌≤◌, ◌<◌}
use native.Mathlib.Nat.{mul_assoc, mul_comm, mul_left_comm, mul-add, add-mul, pow-suc, lt_of_lt_of_le}
use native.Mathlib.Numerals.{add-one}
use native.Mathlib.Omega.{arith}
use lib.Pow.{pow_mono}

-- after i digits: `whole` and `left` are the root and the remainder of the leading 2 * i digits of m * 2 ^ 10, seen as one of 64, and `rest` has the others, moved up
pub record Digits (m rest whole left i : ℕ) : Type 0 where
  pub up_to : i ≤ 53
  pub small : left ≤ whole + whole
  pub short : whole < 2 ^ i
  pub fits : rest < 2 ^ 64
  pub parts : (whole * whole + left) * 2 ^ 64 + rest ≡ m * 2 ^ 10 * 4 ^ i

pub below : (i w : ℕ) → i < 53 → w < 2 ^ i → w < 2 ^ 52
below i w h k = lt_of_lt_of_le k (pow_mono {j = 52} (omega arith))

pub first : (m : ℕ) → m < 2 ^ 54 → Digits m (m * 1024 % 2 ^ 64) 0 0 0
first m h = omega arith

even : (w : ℕ) → w * 2 * (w * 2) ≡ w * w * 4
even w = simp (mul_assoc, mul_comm, mul_left_comm) (omega arith)

uneven : (w : ℕ) → (w * 2 + 1) * (w * 2 + 1) ≡ w * w * 4 + w * 4 + 1
uneven w = add-mul (w * 2) 1 (w * 2 + 1) ∙ ap (λ (x : ℕ). x + 1 * (w * 2 + 1)) (mul-add (w * 2) (w * 2) 1 ∙ ap (λ (x : ℕ). x + w * 2 * 1) (even w)) ∙ last (w * w) w
  where
    last : (s w : ℕ) → s * 4 + w * 2 * 1 + 1 * (w * 2 + 1) ≡ s * 4 + w * 4 + 1
    last s w = omega arith

-- the digits that come down move from `rest` to what is left
down : (s l r s' l' X : ℕ) → r < 2 ^ 64 → (s + l) * 2 ^ 64 + r ≡ X → s' + l' ≡ s * 4 + (l * 4 + r / 2 ^ 62) → (s' + l') * 2 ^ 64 + r * 4 % 2 ^ 64 ≡ X * 4
down s l r s' l' X h e k = omega arith

more : (i : ℕ) → 2 ^ (i + 1) ≡ 2 ^ i * 2
more i = ap (λ (x : ℕ). 2 ^ x) (add-one i) ∙ pow-suc 2 i

four : (m i : ℕ) → m * 2 ^ 10 * 4 ^ i * 4 ≡ m * 2 ^ 10 * 4 ^ (i + 1)
four m i = mul_assoc (m * 2 ^ 10) (4 ^ i) 4 ∙ ap (λ (x : ℕ). m * 2 ^ 10 * x) (sym (ap (λ (x : ℕ). 4 ^ x) (add-one i) ∙ pow-suc 4 i))

module _ (m rest w l i : ℕ) (d : Digits m rest w l i) (h : i < 53) where
  pub step_0 : (w' l' : ℕ) → w' ≡ w * 2 → l' ≡ l * 4 + rest / 2 ^ 62 → l' ≤ w' + w' → Digits m (rest * 4 % 2 ^ 64) w' l' (i + 1)
  step_0 w' l' p q k =
      let e : w' * w' ≡ w * w * 4 = ap (λ (x : ℕ). x * x) p ∙ even w in
      record {
        up_to = omega arith;
        small = k;
        short = omega (arith, more i);
        fits = omega arith;
        parts = down (w * w) l rest (w' * w') l' (m * 2 ^ 10 * 4 ^ i) d.fits d.parts (omega arith) ∙ four m i;
      }

  pub step_1 : (w' l' : ℕ) → w' ≡ w * 2 + 1 → l' + (w * 4 + 1) ≡ l * 4 + rest / 2 ^ 62 → Digits m (rest * 4 % 2 ^ 64) w' l' (i + 1)
  step_1 w' l' p q =
      let e : w' * w' ≡ w * w * 4 + w * 4 + 1 = ap (λ (x : ℕ). x * x) p ∙ uneven w in
      record {
        up_to = omega arith;
        small = omega arith;
        short = omega (arith, more i);
        fits = omega arith;
        parts = down (w * w) l rest (w' * w') l' (m * 2 ^ 10 * 4 ^ i) d.fits d.parts (omega arith) ∙ four m i;
      }

-- all 53 digits
pub last : (m rest w l i : ℕ) → Digits m rest w l i → 53 ≤ i → w * w + l ≡ m * 2 ^ 52
last m rest w l i d h =
    let e : i ≡ 53 = omega arith in
    let k : (w * w + l) * 2 ^ 64 + rest ≡ m * 2 ^ 10 * 4 ^ 53 = subst (λ (x : ℕ). (w * w + l) * 2 ^ 64 + rest ≡ m * 2 ^ 10 * 4 ^ x) e d.parts in
    omega arith
