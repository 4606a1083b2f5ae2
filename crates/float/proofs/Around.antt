-- The two values of a format that lie around a root, and the nearer of them. Assumes nothing.
use mathlib.Core.Path.{◌≡◌, refl, sym, ◌∙◌, ap, subst}
use mathlib.Core.Bool.{Bool, true, false, not}
use mathlib.Core.Logic.{◌⊎◌, inl, inr, ⊎_elim}
use Prim.Native.Nat.{ℕ, suc, ◌+◌, ◌-◌, ◌*◌, ◌/◌, ◌^◌, ◌≤◌, ◌<◌, compare, Ordering}
use native.Mathlib.Nat.{mul_assoc, mul_comm, mul_left_comm, add-mul, mul-one, pow-suc, lt_of_lt_of_le, lt_of_le_of_lt, le_of_lt, le_trans, le_of_eq, mul-le-mul_left, mul-le-mul_right, mul-lt-mul_of_pos_right, not-le_of_lt, lt_of_mul-lt-mul_right, le-div_iff_mul-le, div-mul-le_self, lt-div-mul-add, eq_of_mul-eq-mul_right}
use native.Mathlib.Omega.{arith}
use lib.Dec.{T, ltb, ltb→lt, nltb→le}
use lib.Pow.{pow_pos, pow_mono, pow-add}
use lib.Ieee.{size, nearest}
use lib.Ieee.Digits.{size_reaches, back}
use lib.Ieee.Fits.{two, kept-lt}
use Rattle.float.specs.Root.{sq, isqrt}
use Rattle.float.proofs.WholeRoots.{Cmp, cmp, sq_mono, sq_half, isqrt_is}

-- ---- the values of a format of p digits, in units of the smallest
pub record Held (p y : ℕ) : Type 0 where
  pub digits : ℕ
  pub zeros : ℕ
  pub is : y ≡ digits * 2 ^ zeros
  pub short : digits < 2 ^ p

-- none lies between q * 2 ^ k and (q + 1) * 2 ^ k, where q has p digits, or fewer at k = 0
pub gap : (p q k y : ℕ) → Held p y → (0 < k → 2 ^ (p - 1) ≤ q) → 0 < p → q * 2 ^ k < y → (q + 1) * 2 ^ k ≤ y
gap p q k y h full P l = go (ltb h.zeros k) (ltb→lt h.zeros k) (nltb→le h.zeros k)
  where
    next : {a b : ℕ} → a < b → a + 1 ≤ b
    next g = omega arith

    room : (j k p : ℕ) → j < k → 0 < p → p + j ≤ p - 1 + k
    room j k p a b = omega arith

    some : {j k : ℕ} → j < k → 0 < k
    some g = omega arith

    go : (b : Bool) → (T b → h.zeros < k) → (T (not b) → k ≤ h.zeros) → (q + 1) * 2 ^ k ≤ y
    go true a b =
        let j = h.zeros in
        absurd (not-le_of_lt l
        (le_trans (le_of_eq h.is)
        (le_trans (mul-le-mul_right (2 ^ j) (le_of_lt h.short))
        (le_trans (le_of_eq (sym (pow-add 2 p j)))
        (le_trans (pow_mono (room j k p (a tt) P))
        (le_trans (le_of_eq (pow-add 2 (p - 1) k)) (mul-le-mul_right (2 ^ k) (full (some (a tt))))))))))
    go false a b =
        let j = h.zeros in
        let Z = h.digits * 2 ^ (j - k) in
        let e : y ≡ Z * 2 ^ k = h.is ∙ ap (λ (x : ℕ). h.digits * x) (ap (λ (x : ℕ). 2 ^ x) (sym (back j k (b tt))) ∙ pow-add 2 (j - k) k) ∙ sym (mul_assoc h.digits (2 ^ (j - k)) (2 ^ k)) in
        let m : q < Z = lt_of_mul-lt-mul_right (2 ^ k) (subst (λ (x : ℕ). q * 2 ^ k < x) e l) in
        le_trans (mul-le-mul_right (2 ^ k) (next m)) (le_of_eq (sym e))

-- ---- the two values around the root of n / d, and the nearer of them
pub record Around (p n d q k : ℕ) : Type 0 where
  pub lower : sq (q * 2 ^ k) * d ≤ n
  pub upper : n < sq ((q + 1) * 2 ^ k) * d
  pub short : q < 2 ^ p
  pub full : 0 < k → 2 ^ (p - 1) ≤ q

-- K is q, and the root is below the middle, or q + 1, and the root is above the middle
abbrev pub NearerOf : ℕ → ℕ → ℕ → ℕ → Type 0
NearerOf a m q K = ((K ≡ q) × (a < m)) ⊎ ((K ≡ q + 1) × (m < a))

pub nearest_nearer : (a m q : ℕ) → (a ≡ m → ⊥) → NearerOf a m q (nearest q (compare a m))
nearest_nearer a m q apart = go (compare a m) (cmp a m)
  where
    go : (o : Ordering) → Cmp o a m → NearerOf a m q (nearest q o)
    go Ordering.lt h = inl (refl, h)
    go Ordering.eq h = absurd (apart h)
    go Ordering.gt h = inr (omega arith, h)

pub pow_twice : (p : ℕ) → 0 < p → 2 ^ p ≡ 2 ^ (p - 1) * 2
pow_twice p h = ap (λ (x : ℕ). 2 ^ x) (one_back p h) ∙ pow-suc 2 (p - 1)
  where
    one_back : (p : ℕ) → 0 < p → p ≡ suc (p - 1)
    one_back p h = omega arith

-- m * 2 ^ z with m of p digits is not the square of a middle: that is odd but for its zeros, and has more digits
pub no_tie : (p q k z m : ℕ) → m < 2 ^ p → (0 < k → 2 ^ (p - 1) ≤ q) → 0 < p → 2 ≤ z → m * 2 ^ z ≡ sq (2 * q + 1) * 2 ^ (k + k) → ⊥
no_tie p q k z m short full P two e = go (ltb (k + k) z) (ltb→lt (k + k) z) (nltb→le (k + k) z)
  where
    odd_even : (a b : ℕ) → a * 2 ≡ 4 * sq q + 4 * q + 1 → ⊥
    odd_even a b h = omega arith

    some : {k z : ℕ} → 2 ≤ z → z ≤ k + k → 0 < k
    some a b = omega arith

    large : (a s : ℕ) → a * 2 ≡ 2 ^ p → a ≤ q → 4 * sq q + 4 * q + 1 ≤ m → ⊥
    large a s h g l = omega arith

    down : (z c : ℕ) → c < z → z - c - 1 + 1 + c ≡ z
    down z c h = omega arith

    go : (b : Bool) → (T b → k + k < z) → (T (not b) → z ≤ k + k) → ⊥
    go true a b =
        let c = k + k in
        let r = z - c - 1 in
        let f : m * 2 ^ r * 2 * 2 ^ c ≡ sq (2 * q + 1) * 2 ^ c =
        ap (λ (x : ℕ). x * 2 ^ c) (mul_assoc m (2 ^ r) 2) ∙ mul_assoc m (2 ^ r * 2) (2 ^ c)
        ∙ ap (λ (x : ℕ). m * x) (ap (λ (x : ℕ). x * 2 ^ c) (sym (pow-add 2 r 1)) ∙ sym (pow-add 2 (r + 1) c) ∙ ap (λ (x : ℕ). 2 ^ x) (down z c (a tt)))
        ∙ e in
        odd_even (m * 2 ^ r) 0 (eq_of_mul-eq-mul_right (2 ^ c) (pow_pos c) (m * 2 ^ r * 2) (sq (2 * q + 1)) f ∙ sq_half q)
    go false a b =
        let c = k + k in
        let f : m * 2 ^ z ≡ sq (2 * q + 1) * 2 ^ (c - z) * 2 ^ z =
        e ∙ ap (λ (x : ℕ). sq (2 * q + 1) * x) (ap (λ (x : ℕ). 2 ^ x) (sym (back c z (b tt))) ∙ pow-add 2 (c - z) z) ∙ sym (mul_assoc (sq (2 * q + 1)) (2 ^ (c - z)) (2 ^ z)) in
        let g : m ≡ sq (2 * q + 1) * 2 ^ (c - z) = eq_of_mul-eq-mul_right (2 ^ z) (pow_pos z) m (sq (2 * q + 1) * 2 ^ (c - z)) f in
        large (2 ^ (p - 1)) 0 (sym (pow_twice p P)) (full (some two (b tt)))
        (le_trans (le_of_eq (sym (sq_half q) ∙ sym (mul-one (sq (2 * q + 1))))) (le_trans (mul-le-mul_left (sq (2 * q + 1)) (pow_pos (c - z))) (le_of_eq (sym g))))

sq_lt : (a b : ℕ) → a < b → sq a < sq b
sq_lt a b h = lt_of_le_of_lt (mul-le-mul_left a (le_of_lt h)) (mul-lt-mul_of_pos_right h (above_zero a b h))
  where
    above_zero : (a b : ℕ) → a < b → 0 < b
    above_zero a b h = omega arith

module _ (p n d q k K : ℕ) (P : 0 < p) (D : 0 < d) (w : Around p n d q k) (c : NearerOf (4 * n) (sq ((2 * q + 1) * 2 ^ k) * d) q K) (y : ℕ) (h : Held p y) where
  abbrev pub u : ℕ
  u = 2 ^ k

  double : (a : ℕ) → sq (2 * a) * d ≡ 4 * (sq a * d)
  double a = simp (mul_assoc, mul_comm, mul_left_comm) (omega arith)

  pub below : y < K * u → sq (K * u + y) * d < 4 * n
  below l = ⊎_elim at_q at_next c
    where
      at_q : (K ≡ q) × (4 * n < sq ((2 * q + 1) * u) * d) → sq (K * u + y) * d < 4 * n
      at_q e =
          let s : K * u ≡ q * u = ap (λ (x : ℕ). x * u) e.0 in
          lt_of_lt_of_le (mul-lt-mul_of_pos_right (sq_lt (K * u + y) (2 * (q * u)) (omega arith)) D) (le_trans (le_of_eq (double (q * u))) (mul-le-mul_left 4 w.lower))

      at_next : (K ≡ q + 1) × (sq ((2 * q + 1) * u) * d < 4 * n) → sq (K * u + y) * d < 4 * n
      at_next e =
          let s : K * u ≡ (q + 1) * u = ap (λ (x : ℕ). x * u) e.0 in
          let m : y ≤ q * u = not_above (λ (g : q * u < y). not-le_of_lt (lt_of_lt_of_le l (le_of_eq s)) (gap p q k y h w.full P g)) in
          lt_of_le_of_lt (mul-le-mul_right d (sq_mono {b = (2 * q + 1) * u} (omega (arith, add-mul q 1 u, add-mul (2 * q) 1 u, mul_assoc 2 q u)))) e.1
        where
          not_above : {a b : ℕ} → (a < b → ⊥) → b ≤ a
          not_above g = omega arith

  pub above : K * u < y → 4 * n < sq (K * u + y) * d
  above l = ⊎_elim at_q at_next c
    where
      at_q : (K ≡ q) × (4 * n < sq ((2 * q + 1) * u) * d) → 4 * n < sq (K * u + y) * d
      at_q e =
          let s : K * u ≡ q * u = ap (λ (x : ℕ). x * u) e.0 in
          let m : (q + 1) * u ≤ y = gap p q k y h w.full P (lt_of_le_of_lt (le_of_eq (sym s)) l) in
          lt_of_lt_of_le e.1 (mul-le-mul_right d (sq_mono {b = K * u + y} (omega (arith, add-mul q 1 u, add-mul (2 * q) 1 u, mul_assoc 2 q u))))

      at_next : (K ≡ q + 1) × (sq ((2 * q + 1) * u) * d < 4 * n) → 4 * n < sq (K * u + y) * d
      at_next e =
          let s : K * u ≡ (q + 1) * u = ap (λ (x : ℕ). x * u) e.0 in
          lt_of_lt_of_le (four w.upper) (le_trans (le_of_eq (sym (double ((q + 1) * u)))) (mul-le-mul_right d (sq_mono {b = K * u + y} (omega arith))))
        where
          four : {a b : ℕ} → a < b → 4 * a < 4 * b
          four g = omega arith

-- ---- what `root` takes
pub around : (p n d : ℕ) → 0 < p → 0 < d → Around p n d (isqrt (n / d) / 2 ^ (size (isqrt (n / d)) - p)) (size (isqrt (n / d)) - p)
around p n d P D =
    let w = isqrt (n / d) in
    let k = size w - p in
    let q = w / 2 ^ k in
    let r = isqrt_is (n / d) in
    record {
      lower = le_trans (mul-le-mul_right d (le_trans (sq_mono (div-mul-le_self w (2 ^ k))) r.0)) (div-mul-le_self n d);
      upper =
          lt_of_lt_of_le (lt-div-mul-add {a = n} {b = d} D)
          (le_trans (le_of_eq (one_more (n / d) d)) (mul-le-mul_right d (le_trans (next r.1) (sq_mono (next' (q + 1) (2 ^ k) w (lt_of_lt_of_le (lt-div-mul-add {a = w} {b = 2 ^ k} (pow_pos k)) (le_of_eq (one_more q (2 ^ k)))))))));
      short = kept-lt p w;
      full = λ g. (le-div_iff_mul-le (pow_pos k)).1 (le_trans (le_of_eq (sym (pow-add 2 (p - 1) k))) (size_reaches w (p - 1 + k) (all_in_use (size w) p P g)));
    }
  where
    all_in_use : (z p : ℕ) → 0 < p → 0 < z - p → p - 1 + (z - p) < z
    all_in_use z p P h = omega arith

    next : {a b : ℕ} → a < b → a + 1 ≤ b
    next g = omega arith

    next' : (a b w : ℕ) → w < a * b → w + 1 ≤ a * b
    next' a b w g = omega arith

    one_more : (a d : ℕ) → a * d + d ≡ (a + 1) * d
    one_more a d = omega (arith, add-mul a 1 d)
