-- The exponents of a binary64. Assumes nothing.
use mathlib.Core.Path.{◌≡◌, sym, ◌∙◌, ap}
use mathlib.Core.Bool.{false}
use Prim.Native.Nat.{ℕ, suc, ◌+◌, ◌-◌, ◌*◌, ◌/◌, ◌%◌, ◌^◌, ◌≤◌, ◌<◌, compare}
use native.Mathlib.Nat.{mul_assoc, mul_comm, mul_left_comm, mul-one, mul-pos, lt_of_lt_of_le, lt_of_le_of_lt, le_trans, le_of_eq, mul-le-mul_left, mul-le-mul_right, mul-lt-mul_of_pos_right}
use native.Mathlib.Omega.{arith}
use lib.Pow.{pow_pos, pow_mono, pow-add, shl_lt}
use lib.Count.{count_leading_zeros, leading_top}
use lib.Ieee.{binary64, of_bits}
use lib.Ieee.Exact.{HasValue}
use lib.Ieee.Fits.{nearest-le}
use Rattle.float.specs.Root.{sq, isqrt, closest_root, sqrt}
use Rattle.float.proofs.WholeRoots.{sq_back, isqrt_is, closest_at}
use Rattle.float.proofs.Patterns.{pow_lt_back, rooted, read_low, read_high}

-- ---- m doubled, or not
pub doubled_lt : (m g : ℕ) → m < 2 ^ 53 → m * 2 ^ (g % 2) < 2 ^ 54
doubled_lt m g h = lt_of_lt_of_le (shl_lt 53 (g % 2) h) (pow_mono {i = 53 + g % 2} {j = 54} (omega arith))

pub doubled_ge : (m g : ℕ) → 2 ^ 52 ≤ m → 2 ^ 52 ≤ m * 2 ^ (g % 2)
doubled_ge m g h = le_trans h (le_trans (le_of_eq (sym (mul-one m))) (mul-le-mul_left m (pow_pos (g % 2))))

-- ---- a root of 53 digits
module _ (M : ℕ) (lo : 2 ^ 52 ≤ M) (hi : M < 2 ^ 54) where
  root_ge : 2 ^ 52 ≤ isqrt (M * 2 ^ 52)
  root_ge =
      let h : 2 ^ 52 < isqrt (M * 2 ^ 52) + 1 = sq_back (2 ^ 52) (isqrt (M * 2 ^ 52) + 1) (lt_of_le_of_lt (omega arith) (isqrt_is (M * 2 ^ 52)).1) in
      omega arith

  root_lt : isqrt (M * 2 ^ 52) < 2 ^ 53
  root_lt = sq_back (isqrt (M * 2 ^ 52)) (2 ^ 53) (lt_of_le_of_lt (isqrt_is (M * 2 ^ 52)).0 (omega arith))

  pub closest_le : closest_root (M * 2 ^ 52) ≤ 2 ^ 53
  closest_le =
      let N = M * 2 ^ 52 in
      le_trans (le_of_eq (closest_at N (isqrt N) (isqrt_is N))) (le_trans (nearest-le (isqrt N) (compare (4 * N) (sq (2 * isqrt N + 1)))) root_lt)

-- ---- exponents
spread : (m r k g : ℕ) → k + k + r ≡ g → m * 2 ^ r * 2 ^ 52 * sq (2 ^ k) ≡ m * 2 ^ (g + 52)
spread m r k g e =
    simp (mul_assoc, mul_comm, mul_left_comm)
    (simp (mul_assoc, mul_comm, mul_left_comm) at
    (ap (λ (x : ℕ). m * x) (sym (ap (λ (x : ℕ). 2 ^ (x + 52)) (sym e) ∙ pow-add 2 (k + k + r) 52 ∙ ap (λ (x : ℕ). x * 2 ^ 52) (pow-add 2 (k + k) r ∙ ap (λ (x : ℕ). x * 2 ^ r) (pow-add 2 k k))))))

pub finish : (b u m g r : ℕ) → 0 < u → HasValue (of_bits binary64 b) false u (2 ^ 1074) → 2 ^ 52 ≤ m → m < 2 ^ 53 → g ≤ 3067 → u * 2 ^ 1074 ≡ m * 2 ^ (g + 52)
    → r ≡ g / 2 * 2 ^ 52 + closest_root (m * 2 ^ (g % 2) * 2 ^ 52) → (r < 0x7ff0_0000_0000_0000) × (of_bits binary64 r ≡ sqrt binary64 (of_bits binary64 b))
finish b u m g r U v lo hi G e is =
    let M = m * 2 ^ (g % 2) in
    let M_lo : 2 ^ 52 ≤ M = doubled_ge m g lo in
    let M_hi : M < 2 ^ 54 = doubled_lt m g hi in
    let K-le = closest_le M M_lo M_hi in (
      omega arith,
      ap (of_bits binary64) is
          ∙ rooted binary64 b u (M * 2 ^ 52) (g / 2) (isqrt (M * 2 ^ 52)) U v
          (e ∙ sym (spread m (g % 2) (g / 2) g (omega arith)))
          (isqrt_is (M * 2 ^ 52))
          (root_ge M M_lo M_hi)
          (root_lt M M_lo M_hi)
          (omega arith),
    )

-- ---- a normal value: its leading digit is not written
pub normal : (b r : ℕ) → b < 0x7ff0_0000_0000_0000 → 0 < b / 2 ^ 52 → r ≡ (b / 2 ^ 52 + 1021) / 2 * 2 ^ 52 + closest_root ((b % 2 ^ 52 + 2 ^ 52) * 2 ^ ((b / 2 ^ 52 + 1021) % 2) * 2 ^ 52)
    → (r < 0x7ff0_0000_0000_0000) × (of_bits binary64 r ≡ sqrt binary64 (of_bits binary64 b))
normal b r h p is =
    let e = b / 2 ^ 52 - 1 in
    let m = 2 ^ 52 + b % 2 ^ 52 in
    let m_is : b % 2 ^ 52 + 2 ^ 52 ≡ m = omega arith in
    finish b (m * 2 ^ e) m (b / 2 ^ 52 + 1021) r
    (mul-pos (omega arith) (pow_pos e))
    (read_high binary64 b (omega arith) e (omega arith) (omega arith))
    (omega arith)
    (omega arith)
    (omega arith)
    (mul_assoc m (2 ^ e) (2 ^ 1074) ∙ ap (λ (x : ℕ). m * x) (sym (pow-add 2 e 1074) ∙ ap (λ (x : ℕ). 2 ^ x) (omega arith)))
    (is ∙ ap (λ (x : ℕ). (b / 2 ^ 52 + 1021) / 2 * 2 ^ 52 + closest_root (x * 2 ^ ((b / 2 ^ 52 + 1021) % 2) * 2 ^ 52)) m_is)

-- ---- a subnormal value: its leading digit is moved to the place of a normal one's
module _ (t : ℕ) (T : 0 < t) (h : t < 2 ^ 52) where
  pub zeros : 11 < count_leading_zeros 64 t
  zeros =
      let l = leading_top 64 t T (omega arith) in
      let k : l.0 < 52 = pow_lt_back l.0 52 (lt_of_le_of_lt l.2 h) in
      omega (arith, l.1)

  pub zeros_le : count_leading_zeros 64 t ≤ 63
  zeros_le = let l = leading_top 64 t T (omega arith) in omega (arith, l.1)

  moved : (z j : ℕ) → z + suc j ≡ 64 → 11 < z → 2 ^ j ≤ t → t < 2 ^ suc j → (2 ^ 52 ≤ t * 2 ^ (z - 11)) × (t * 2 ^ (z - 11) < 2 ^ 53)
  moved z j e l lo hi =
      let p : 52 ≡ j + (z - 11) = omega arith in (
        le_trans (le_of_eq (ap (λ (x : ℕ). 2 ^ x) p ∙ pow-add 2 j (z - 11))) (mul-le-mul_right (2 ^ (z - 11)) lo),
        lt_of_lt_of_le (mul-lt-mul_of_pos_right hi (pow_pos (z - 11))) (le_of_eq (sym (pow-add 2 (suc j) (z - 11)) ∙ ap (λ (x : ℕ). 2 ^ x) {y = 53} (omega arith))),
      )

  pub lead : (2 ^ 52 ≤ t * 2 ^ (count_leading_zeros 64 t - 11)) × (t * 2 ^ (count_leading_zeros 64 t - 11) < 2 ^ 53)
  lead = let l = leading_top 64 t T (omega arith) in moved (count_leading_zeros 64 t) l.0 l.1 zeros l.2 l.3

pub subnormal : (b r : ℕ) → 0 < b → b / 2 ^ 52 ≡ 0
    → r ≡ (1022 - (count_leading_zeros 64 (b % 2 ^ 52) - 11)) / 2 * 2 ^ 52 + closest_root (b % 2 ^ 52 * 2 ^ (count_leading_zeros 64 (b % 2 ^ 52) - 11) * 2 ^ ((1022 - (count_leading_zeros 64 (b % 2 ^ 52) - 11)) % 2) * 2 ^ 52)
    → (r < 0x7ff0_0000_0000_0000) × (of_bits binary64 r ≡ sqrt binary64 (of_bits binary64 b))
subnormal b r h z is =
    let t = b % 2 ^ 52 in
    let s = count_leading_zeros 64 t - 11 in
    let T : 0 < t = omega arith in
    let H : t < 2 ^ 52 = omega arith in
    let l = lead t T H in
    finish b (t * 2 ^ 0) (t * 2 ^ s) (1022 - s) r (omega arith) (read_low binary64 b (omega arith) z) l.0 l.1 (omega arith)
    (ap (λ (x : ℕ). x * 2 ^ 1074) (mul-one t)
    ∙ ap (λ (x : ℕ). t * x) (ap (λ (x : ℕ). 2 ^ x) (exponent s (omega (arith, zeros_le t T H))) ∙ pow-add 2 s (1022 - s + 52))
    ∙ sym (mul_assoc t (2 ^ s) (2 ^ (1022 - s + 52))))
    is
  where
    exponent : (s : ℕ) → s ≤ 52 → 1074 ≡ s + (1022 - s + 52)
    exponent s h = omega arith
