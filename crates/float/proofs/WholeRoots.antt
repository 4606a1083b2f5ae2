-- The whole part of a root, and the whole number that is nearest to it. Assumes nothing.
use mathlib.Core.Path.{◌≡◌, refl, ◌∙◌, ap, subst}
use mathlib.Core.Bool.{Bool, true, false, not, cond}
use mir.Val.{bool_byte}
use borrow.Author.Tests.{ltb-true, ltb-false}
use Prim.Native.Nat.{ℕ, zero, suc, ◌+◌, ◌-◌, ◌*◌, ◌/◌, ◌^◌, ◌≤◌, ◌<◌, compare, Ordering}
use native.Mathlib.Nat.{mul_assoc, mul_comm, mul_left_comm, mul-add, add-mul, pow-suc, lt_of_lt_of_le, lt_of_le_of_lt, le_of_lt, lt_irrefl, mul-le-mul, lt_of_not-le, not-le_of_lt}
use native.Mathlib.Omega.{arith}
use lib.Dec.{T, ltb, eqb, is_le, compare_is_eq, leb→le, nleb→lt, ltb→lt, nltb→le, eqb→eq, eqb_refl}
use lib.Arith.{lt_of_le-ne}
use lib.Ieee.{size, nearest}
use lib.Ieee.Digits.{size-lt}
use Rattle.float.specs.Root.{sq, whole_root, isqrt, closest_root}

-- ---- what `compare` says
abbrev pub Cmp : Ordering → ℕ → ℕ → Type 0
Cmp Ordering.lt a b = a < b
Cmp Ordering.eq a b = a ≡ b
Cmp Ordering.gt a b = b < a

pub cmp : (a b : ℕ) → Cmp (compare a b) a b
cmp a b = go (compare a b) (leb→le a b) (nleb→lt a b) (eqb→eq a b) (λ (e : a ≡ b). subst (λ (x : ℕ). T (eqb a x)) e (eqb_refl a))
  where
    go : (o : Ordering) → (T (is_le o) → a ≤ b) → (T (not (is_le o)) → b < a) → (T (compare_is_eq o) → a ≡ b) → (a ≡ b → T (compare_is_eq o)) → Cmp o a b
    go Ordering.lt h k e n = lt_of_le-ne (h tt) n
    go Ordering.eq h k e n = e tt
    go Ordering.gt h k e n = k tt

pub compare_lt : (a b : ℕ) → a < b → compare a b ≡ Ordering.lt
compare_lt a b h = go (compare a b) (cmp a b)
  where
    go : (o : Ordering) → Cmp o a b → o ≡ Ordering.lt
    go Ordering.lt k = refl
    go Ordering.eq k = absurd (lt_irrefl b (subst (λ (x : ℕ). x < b) k h))
    go Ordering.gt k = absurd (not-le_of_lt h (le_of_lt k))

pub compare_gt : (a b : ℕ) → b < a → compare a b ≡ Ordering.gt
compare_gt a b h = go (compare a b) (cmp a b)
  where
    go : (o : Ordering) → Cmp o a b → o ≡ Ordering.gt
    go Ordering.lt k = absurd (not-le_of_lt h (le_of_lt k))
    go Ordering.eq k = absurd (lt_irrefl b (subst (λ (x : ℕ). b < x) k h))
    go Ordering.gt k = refl

-- ---- squares
pub sq_mono : {a b : ℕ} → a ≤ b → sq a ≤ sq b
sq_mono h = mul-le-mul h h

pub sq_back : (a b : ℕ) → sq a < sq b → a < b
sq_back a b h = lt_of_not-le (λ (k : b ≤ a). not-le_of_lt h (sq_mono k))

pub sq_mul : (a b : ℕ) → sq (a * b) ≡ sq a * sq b
sq_mul a b = simp (mul_assoc, mul_comm, mul_left_comm)

pub sq_suc : (a : ℕ) → sq (a + 1) ≡ sq a + a + a + 1
sq_suc a = simp (mul-add, add-mul) (omega arith)

pub sq_half : (q : ℕ) → sq (2 * q + 1) ≡ 4 * sq q + 4 * q + 1
sq_half q = simp (mul-add, add-mul, mul_assoc, mul_comm, mul_left_comm) (omega arith)

-- ---- the whole part of a root
abbrev pub RootOf : ℕ → ℕ → Type 0
RootOf n r = (sq r ≤ n) × (n < sq (r + 1))

one_digit : (n s : ℕ) → RootOf (n / 4) s → RootOf n (cond (ltb n (sq (2 * s + 1))) (2 * s) (2 * s + 1))
one_digit n s h = go (ltb n (sq (2 * s + 1))) (ltb→lt n (sq (2 * s + 1))) (nltb→le n (sq (2 * s + 1)))
  where
    e : sq (2 * s) ≡ 4 * sq s
    e = simp (mul_assoc, mul_comm, mul_left_comm) (omega arith)

    e2 : sq (2 * s + 1 + 1) ≡ 4 * sq s + 8 * s + 4
    e2 = simp (mul-add, add-mul, mul_assoc, mul_comm, mul_left_comm) (omega arith)

    go : (b : Bool) → (T b → n < sq (2 * s + 1)) → (T (not b) → sq (2 * s + 1) ≤ n) → RootOf n (cond b (2 * s) (2 * s + 1))
    go true l g = (omega (arith, e, h.0), l tt)
    go false l g = (g tt, omega (arith, e2, h.1, sq_suc s))

fourth : (d n : ℕ) → n < 4 ^ suc d → n / 4 < 4 ^ d
fourth d n h = omega (arith, pow-suc 4 d)

whole_root_is : (d n : ℕ) → n < 4 ^ d → RootOf n (whole_root d n)
unfolding whole_root
whole_root_is zero n h = omega arith
whole_root_is (suc d) n h = one_digit n (whole_root d (n / 4)) (whole_root_is d (n / 4) (fourth d n h))

two_four : (d : ℕ) → 2 ^ d ≤ 4 ^ d
two_four zero = omega arith
two_four (suc d) = omega (arith, two_four d, pow-suc 2 d, pow-suc 4 d)

pub isqrt_is : (n : ℕ) → RootOf n (isqrt n)
unfolding isqrt
isqrt_is n = whole_root_is (size n) n (lt_of_lt_of_le (size-lt n) (two_four (size n)))

pub one_root : (n r s : ℕ) → RootOf n r → RootOf n s → r ≡ s
one_root n r s h k =
    let a : r < s + 1 = sq_back r (s + 1) (lt_of_le_of_lt h.0 k.1) in
    let b : s < r + 1 = sq_back s (r + 1) (lt_of_le_of_lt k.0 h.1) in
    omega arith

-- ---- the nearest
pub closest_at : (n q : ℕ) → RootOf n q → closest_root n ≡ nearest q (compare (4 * n) (sq (2 * q + 1)))
unfolding closest_root
closest_at n q h = ap (λ (x : ℕ). nearest x (compare (4 * n) (sq (2 * x + 1)))) (one_root n (isqrt n) q (isqrt_is n) h)

root_of : (n w l : ℕ) → w * w + l ≡ n → l ≤ w + w → RootOf n w
root_of n w l e h = (omega arith, omega (arith, sq_suc w))

closest_up : (n w l : ℕ) → w * w + l ≡ n → l ≤ w + w → w < l → closest_root n ≡ w + 1
closest_up n w l e h k =
    closest_at n w (root_of n w l e h)
    ∙ ap (nearest w) (compare_gt (4 * n) (sq (2 * w + 1)) (omega (arith, sq_half w)))
    ∙ omega arith

closest_down : (n w l : ℕ) → w * w + l ≡ n → l ≤ w → closest_root n ≡ w
closest_down n w l e h =
    closest_at n w (root_of n w l e (omega arith))
    ∙ ap (nearest w) (compare_lt (4 * n) (sq (2 * w + 1)) (omega (arith, sq_half w)))

-- by a bool that is counted
pub byte_le : (b : Bool) → bool_byte b ≤ 1
byte_le true = omega arith
byte_le false = omega arith

-- what is below another number can be counted up by one
pub byte_room : (a b : ℕ) {top : ℕ} → a < top → b < top → a + bool_byte (ltb a b) < top
byte_room a b {top} h k = go (ltb a b) refl
  where
    go : (t : Bool) → ltb a b ≡ t → a + bool_byte t < top
    go true e = omega (arith, ltb-true a b e)
    go false e = omega arith

pub closest_of : (n w l : ℕ) → w * w + l ≡ n → l ≤ w + w → closest_root n ≡ w + bool_byte (ltb w l)
closest_of n w l e h = go (ltb w l) refl
  where
    go : (b : Bool) → ltb w l ≡ b → closest_root n ≡ w + bool_byte b
    go true k = closest_up n w l e h (ltb-true w l k)
    go false k = closest_down n w l e (ltb-false w l k) ∙ omega arith

-- from a q that is at most two too small
module _ (n q e : ℕ) (is : q * q + e ≡ n) where
  one_up : q + q < e → (q + 1) * (q + 1) + (e - (q + q) - 1) ≡ n
  one_up l = omega (arith, sq_suc q)

  two_up : q + q + q + q + 3 < e → (q + 2) * (q + 2) + (e - (q + q + q + q) - 4) ≡ n
  two_up l = omega (arith, twice)
    where
      twice : (q + 2) * (q + 2) ≡ q * q + q + q + q + q + 4
      twice = simp (mul-add, add-mul, mul_comm) (omega arith)

  next : q < e → e ≤ 3 * q + 2 → closest_root n ≡ q + 1
  next l h = go (ltb (q + q) e) refl
    where
      go : (b : Bool) → ltb (q + q) e ≡ b → closest_root n ≡ q + 1
      go true k = let m = ltb-true (q + q) e k in closest_down n (q + 1) (e - (q + q) - 1) (one_up m) (omega arith)
      go false k = closest_up n q e is (ltb-false (q + q) e k) l

  second : 3 * q + 2 < e → e ≤ 5 * q + 6 → closest_root n ≡ q + 2
  second l h = go (ltb (q + q + q + q + 3) e) refl
    where
      go : (b : Bool) → ltb (q + q + q + q + 3) e ≡ b → closest_root n ≡ q + 2
      go true k = let m = ltb-true (q + q + q + q + 3) e k in closest_down n (q + 2) (e - (q + q + q + q) - 4) (two_up m) (omega arith)
      go false k = let m = ltb-false (q + q + q + q + 3) e k in closest_up n (q + 1) (e - (q + q) - 1) (one_up (omega arith)) (omega arith) (omega arith) ∙ omega arith

  pub closest_near : e ≤ 5 * q + 6 → closest_root n ≡ q + bool_byte (ltb q e) + bool_byte (ltb (3 * q + 2) e)
  closest_near h = go (ltb q e) refl (ltb (3 * q + 2) e) refl
    where
      go : (b : Bool) → ltb q e ≡ b → (c : Bool) → ltb (3 * q + 2) e ≡ c → closest_root n ≡ q + bool_byte b + bool_byte c
      go false k false g = closest_down n q e is (ltb-false q e k) ∙ omega arith
      go false k true g = absurd (none (ltb-false q e k) (ltb-true (3 * q + 2) e g))
        where
          none : e ≤ q → 3 * q + 2 < e → ⊥
          none a b = omega arith
      go true k false g = next (ltb-true q e k) (ltb-false (3 * q + 2) e g) ∙ omega arith
      go true k true g = second (ltb-true (3 * q + 2) e g) h ∙ omega arith
