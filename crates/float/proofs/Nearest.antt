-- The root is rounded correctly: `sqrt` is nearer to the exact root than every other value of the format is. So there is never a tie.
-- Assumes nothing.
use mathlib.Core.Path.{◌≡◌, refl, sym, ◌∙◌, ap, subst}
use mathlib.Core.Bool.{true, false}
use Prim.Native.Nat.{ℕ, zero, suc, ◌+◌, ◌-◌, ◌*◌, ◌/◌, ◌^◌, ◌≤◌, ◌<◌, compare}
use native.Mathlib.Nat.{mul_assoc, mul_comm, mul_left_comm, mul_right_comm, add-mul, pow-suc, lt_of_lt_of_le, lt_of_le_of_lt, le_trans, le_of_eq, mul-le-mul_right, mul-lt-mul_of_pos_right, mul-pos, lt_of_mul-lt-mul_right, div-mul-le_self, suc-mul, add-suc, eq_of_mul-eq-mul_right}
use native.Mathlib.Omega.{arith}
use lib.Dec.{T, ltb→lt, lit≤}
use lib.Pow.{pow_pos, pow_mono, pow-add}
use lib.Ieee.{Float, nan, inf, fin, Format, binary32, binary64, prec, emax, low, up, down, size, nearest, units, fits, lt}
use lib.Ieee.Fits.{two, two-le_pos, nearest-le}
use lib.Ieee.Exact.{HasValue, units_val}
use lib.Ieee.Positive.{num, den, den_pos, positive, value→cross}
use Rattle.float.specs.Root.{sq, isqrt, root, sqrt, plain, Nearer}
use Rattle.float.specs.Numbers.{√}
use Rattle.float.proofs.WholeRoots.{sq_back, sq_mul, isqrt_is}
use Rattle.float.proofs.Patterns.{root_is, units_fits}
use Rattle.float.proofs.Around.{nearest_nearer, no_tie, below, above, around}
use Rattle.float.proofs.Units.{positive_plain, plain_of, in_units, in_range_lem}

-- ---- no overflow
wide : (f : Format) → suc (emax f) ≤ emax f + emax f
wide binary32 = lit≤ tt
wide binary64 = lit≤ tt

-- the root of a number below 2 ^ (emax + 1) is below 2 ^ emax
root_under : (f : Format) (a d : ℕ) → 0 < d → a < 2 ^ suc (emax f) * d → isqrt (a * sq (2 ^ low f) / d) < 2 ^ (low f + emax f)
root_under f a d D h =
    let L = 2 ^ low f in
    let E = 2 ^ emax f in
    let n = a * sq L in
    let w = isqrt (n / d) in
    let s1 : sq w * d ≤ n = le_trans (mul-le-mul_right d (isqrt_is (n / d)).0) (div-mul-le_self n d) in
    let s2 : n < sq E * d * sq L =
    mul-lt-mul_of_pos_right (lt_of_lt_of_le h (mul-le-mul_right d (le_trans (pow_mono (wide f)) (le_of_eq (pow-add 2 (emax f) (emax f)))))) (mul-pos (pow_pos (low f)) (pow_pos (low f))) in
    let s3 : sq E * d * sq L ≡ sq (L * E) * d = simp (mul_assoc, mul_comm, mul_left_comm) in
    lt_of_lt_of_le (sq_back w (L * E) (lt_of_mul-lt-mul_right d (lt_of_le_of_lt s1 (lt_of_lt_of_le s2 (le_of_eq s3))))) (le_of_eq (sym (pow-add 2 (low f) (emax f))))

unit_le : (p q k w : ℕ) → (0 < k → 2 ^ (p - 1) ≤ q) → q * 2 ^ k ≤ w → 2 ^ k ≤ w + 1
unit_le p q zero w full h = omega arith
unit_le p q (suc k) w full h =
    let one : 1 * 2 ^ suc k ≤ q * 2 ^ suc k = mul-le-mul_right (2 ^ suc k) (le_trans (pow_pos (p - 1)) (full (omega arith))) in
    omega arith

fine : (f : Format) (p q k w K : ℕ) → (0 < k → 2 ^ (p - 1) ≤ q) → q * 2 ^ k ≤ w → K ≤ suc q → w < 2 ^ (low f + emax f) → K * 2 ^ k < 2 ^ (low f + suc (emax f))
fine f p q k w K full h e l =
    let a : K * 2 ^ k ≤ suc q * 2 ^ k = mul-le-mul_right (2 ^ k) e in
    let b : suc q * 2 ^ k ≡ q * 2 ^ k + 2 ^ k = suc-mul q (2 ^ k) in
    let c = unit_le p q k w full h in
    let g : 2 ^ (low f + suc (emax f)) ≡ 2 ^ (low f + emax f) * 2 = ap (λ (x : ℕ). 2 ^ x) (add-suc (low f) (emax f)) ∙ pow-suc 2 (low f + emax f) in
    omega arith

-- ---- from units to fractions
module _ (a b c d R y L : ℕ) (D : 0 < b * d) (Z : 0 < L) (r : a * L ≡ R * b) (v : c * L ≡ y * d) where
  joined : (a * d + c * b) * L ≡ (R + y) * (b * d)
  joined =
      add-mul (a * d) (c * b) L
      ∙ ap (λ (x : ℕ). x + c * b * L) (mul_right_comm a d L ∙ ap (λ (x : ℕ). x * d) r ∙ mul_assoc R b d)
      ∙ ap (λ (x : ℕ). R * (b * d) + x) (mul_right_comm c b L ∙ ap (λ (x : ℕ). x * b) v ∙ mul_assoc y d b ∙ ap (λ (x : ℕ). y * x) (mul_comm d b))
      ∙ sym (add-mul R y (b * d))

  squared : sq (a * d + c * b) * sq L ≡ sq (R + y) * sq (b * d)
  squared = sym (sq_mul (a * d + c * b) L) ∙ ap sq joined ∙ sq_mul (R + y) (b * d)

  left_side : (m : ℕ) → sq (a * d + c * b) * m * sq L ≡ sq (R + y) * m * sq (b * d)
  left_side m = mul_right_comm (sq (a * d + c * b)) m (sq L) ∙ ap (λ (x : ℕ). x * m) squared ∙ mul_right_comm (sq (R + y)) (sq (b * d)) m

  right_side : (n : ℕ) → 4 * n * sq (b * d) * sq L ≡ 4 * (n * sq L) * sq (b * d)
  right_side n = mul_right_comm (4 * n) (sq (b * d)) (sq L) ∙ ap (λ (x : ℕ). x * sq (b * d)) (mul_assoc 4 n (sq L))

  at_most : (n m : ℕ) → sq (R + y) * m < 4 * (n * sq L) → sq (a * d + c * b) * m < 4 * n * sq (b * d)
  at_most n m h = lt_of_mul-lt-mul_right (sq L) (lt_of_le_of_lt (le_of_eq (left_side m)) (lt_of_lt_of_le (mul-lt-mul_of_pos_right h (mul-pos D D)) (le_of_eq (sym (right_side n)))))

  at_least : (n m : ℕ) → 4 * (n * sq L) < sq (R + y) * m → 4 * n * sq (b * d) < sq (a * d + c * b) * m
  at_least n m h = lt_of_mul-lt-mul_right (sq L) (lt_of_le_of_lt (le_of_eq (right_side n)) (lt_of_lt_of_le (mul-lt-mul_of_pos_right h (mul-pos D D)) (le_of_eq (sym (left_side m)))))

  less : c * b < a * d → y < R
  less h =
      lt_of_mul-lt-mul_right (b * d)
      (lt_of_le_of_lt (le_of_eq (ap (λ (x : ℕ). y * x) (mul_comm b d) ∙ sym (mul_assoc y d b) ∙ ap (λ (x : ℕ). x * b) (sym v) ∙ mul_right_comm c L b))
      (lt_of_lt_of_le (mul-lt-mul_of_pos_right h Z) (le_of_eq (mul_right_comm a d L ∙ ap (λ (x : ℕ). x * d) r ∙ mul_assoc R b d))))

  more : a * d < c * b → R < y
  more h =
      lt_of_mul-lt-mul_right (b * d)
      (lt_of_le_of_lt (le_of_eq (sym (mul_assoc R b d) ∙ ap (λ (x : ℕ). x * d) (sym r) ∙ mul_right_comm a L d))
      (lt_of_lt_of_le (mul-lt-mul_of_pos_right h Z) (le_of_eq (mul_right_comm c b L ∙ ap (λ (x : ℕ). x * b) v ∙ mul_assoc y d b ∙ ap (λ (x : ℕ). y * x) (mul_comm d b)))))

lt→cross : (v r : Float) → T (plain v) → T (plain r) → T (lt v r) → num v * den r < num r * den v
unfolding lt
lt→cross nan r p q h = absurd p
lt→cross (inf s) r p q h = absurd p
lt→cross (fin true m e) r p q h = absurd p
lt→cross (fin false m e) nan p q h = absurd q
lt→cross (fin false m e) (inf s) p q h = absurd q
lt→cross (fin false m e) (fin true n d) p q h = absurd q
lt→cross (fin false m e) (fin false n d) p q h = ltb→lt (m * up e * down d) (n * up d * down e) h

sqrt_is : (f : Format) (x : Float) → T (positive x) → sqrt f x ≡ root f (num x) (den x)
unfolding sqrt
sqrt_is f nan p = absurd p
sqrt_is f (inf s) p = absurd p
sqrt_is f (fin true m e) p = absurd p
sqrt_is f (fin false zero e) p = absurd p
sqrt_is f (fin false (suc m) e) p = refl

-- what a tie would say of x's digits
tied : (a d X m z l k q : ℕ) → 0 < d → a * 2 ^ l ≡ X * d → X ≡ m * 2 ^ z → 4 * (a * sq (2 ^ l)) ≡ sq ((2 * q + 1) * 2 ^ k) * d → m * 2 ^ (z + l + 2) ≡ sq (2 * q + 1) * 2 ^ (k + k)
tied a d X m z l k q D e is h =
    let s1 : m * (2 ^ z * 2 ^ l * 4) * d ≡ m * 2 ^ z * d * (2 ^ l * 4) = simp (mul_assoc, mul_comm, mul_left_comm) in
    let s2 : a * 2 ^ l * (2 ^ l * 4) ≡ 4 * (a * sq (2 ^ l)) = simp (mul_assoc, mul_comm, mul_left_comm) in
    eq_of_mul-eq-mul_right d D (m * 2 ^ (z + l + 2)) (sq (2 * q + 1) * 2 ^ (k + k))
    (ap (λ (x : ℕ). m * x * d) (pow-add 2 (z + l) 2 ∙ ap (λ (x : ℕ). x * 4) (pow-add 2 z l))
    ∙ s1
    ∙ ap (λ (x : ℕ). x * d * (2 ^ l * 4)) (sym is)
    ∙ ap (λ (x : ℕ). x * (2 ^ l * 4)) (sym e)
    ∙ s2
    ∙ h
    ∙ ap (λ (x : ℕ). x * d) (sq_mul (2 * q + 1) (2 ^ k) ∙ ap (λ (x : ℕ). sq (2 * q + 1) * x) (sym (pow-add 2 k k))))

-- ---- the theorem

-- For every finite x above 0, and every finite value v that is not negative: the root is a finite value of the format, and it is nearer to the exact root than v is, if it is not v.
pub sqrt_nearest : (f : Format) (x v : Float) → T (fits f x) → T (positive x) → T (fits f v) → T (plain v) → T (fits f (sqrt f x)) × T (plain (sqrt f x)) × Nearer x (sqrt f x) v
sqrt_nearest f x v hx px hv pv =
    subst (λ (r : Float). T (fits f r) × T (plain r) × Nearer x r v) (sym (sqrt_is f x px ∙ root_is f (num x) (den x)))
    (let l = low f in
    let p = prec f in
    let P : 0 < p = two-le_pos p (two f) in
    let D = den_pos x in
    let n = num x * sq (2 ^ l) in
    let w = isqrt (n / den x) in
    let k = size w - p in
    let q = w / 2 ^ k in
    let o = compare (4 * n) (sq ((2 * q + 1) * 2 ^ k) * den x) in
    let K = nearest q o in
    let a = around p n (den x) P D in
    let X = in_units f x hx (positive_plain x px) in
    let cx = value→cross x X.0 (2 ^ l) X.1 in
    let apart : 4 * n ≡ sq ((2 * q + 1) * 2 ^ k) * den x → ⊥ =
    λ e. no_tie p q k (X.2.zeros + l + 2) X.2.digits X.2.short a.full P (omega arith) (tied (num x) (den x) X.0 X.2.digits X.2.zeros l k q D cx X.2.is e) in
    let ch = nearest_nearer (4 * n) (sq ((2 * q + 1) * 2 ^ k) * den x) q apart in
    let ok = fine f p q k w K a.full (div-mul-le_self w (2 ^ k)) (nearest-le q o) (root_under f (num x) (den x) D (in_range_lem f x hx (positive_plain x px))) in
    let r = units f false K k in
    let rv : HasValue r false (K * 2 ^ k) (2 ^ l) = units_val f false K k ok in
    let rp : T (plain r) = plain_of r (K * 2 ^ k) (2 ^ l) rv in
    let V' = in_units f v hv pv in
    let y = V'.0 in
    let DD = mul-pos (den_pos r) (den_pos v) in
    let Z = pow_pos l in
    let cr = value→cross r (K * 2 ^ k) (2 ^ l) rv in
    let cv = value→cross v y (2 ^ l) V'.1 in (
      units_fits f K k (le_trans (nearest-le q o) a.short) ok,
      rp,
      record {
        from_below =
            λ h.
            at_most (num r) (den r) (num v) (den v) (K * 2 ^ k) y (2 ^ l) DD Z cr cv (num x) (den x)
            (below p n (den x) q k K P D a ch y V'.2 (less (num r) (den r) (num v) (den v) (K * 2 ^ k) y (2 ^ l) DD Z cr cv (lt→cross v r pv rp h)));
        from_above =
            λ h.
            at_least (num r) (den r) (num v) (den v) (K * 2 ^ k) y (2 ^ l) DD Z cr cv (num x) (den x)
            (above p n (den x) q k K P D a ch y V'.2 (more (num r) (den r) (num v) (den v) (K * 2 ^ k) y (2 ^ l) DD Z cr cv (lt→cross r v rp pv h)));
      },
    ))

-- so of binary64's values √ x is strictly nearest to the root of x: the correctly rounded root
pub √_nearest : (x v : Float) → T (fits binary64 x) → T (positive x) → T (fits binary64 v) → T (plain v) → T (fits binary64 (√ x)) × T (plain (√ x)) × Nearer x (√ x) v
√_nearest = sqrt_nearest binary64
