-- The square of a number of 53 digits, from its upper 26 and its lower 27. Assumes nothing.
use mathlib.Core.Path.{◌≡◌, ◌∙◌, ap}
use Prim.Native.Nat.{ℕ, ◌+◌, ◌*◌, ◌/◌, ◌%◌, ◌^◌, ◌≤◌, ◌<◌}
use native.Mathlib.Nat.{mul_assoc, mul_comm, mul_left_comm, mul-add, add-mul, mul-le-mul}
use native.Mathlib.Omega.{arith}

square : (h l : ℕ) → (h * 2 ^ 27 + l) * (h * 2 ^ 27 + l) ≡ h * h * 2 ^ 54 + h * l * 2 ^ 28 + l * l
square h l = simp (mul-add, add-mul, mul_assoc, mul_comm, mul_left_comm) (omega arith)

module _ (q : ℕ) where
  abbrev h : ℕ
  h = q / 2 ^ 27

  abbrev l : ℕ
  l = q % 2 ^ 27

  pub parts : q * q ≡ h * h * 2 ^ 54 + h * l * 2 ^ 28 + l * l
  parts = ap (λ (x : ℕ). x * x) same ∙ square h l
    where
      same : q ≡ h * 2 ^ 27 + l
      same = omega arith

  pub small : q < 2 ^ 53 → (h * h ≤ 2 ^ 52) × (h * l ≤ 2 ^ 53) × (l * l ≤ 2 ^ 54)
  small k =
      let a : h ≤ 2 ^ 26 = omega arith in
      let b : l ≤ 2 ^ 27 = omega arith in
      (mul-le-mul a a, mul-le-mul a b, mul-le-mul b b)
