-- From a pattern to its value, from there to the value's root, and back to a pattern. Assumes nothing.
use mathlib.Core.Path.{◌≡◌, refl, sym, ◌∙◌, ap, subst}
use mathlib.Core.Bool.{Bool, true, false, cond, true≢false}
use mathlib.Core.Logic.{inl, inr}
use Prim.Native.Nat.{ℕ, zero, suc, ◌+◌, ◌-◌, ◌*◌, ◌/◌, ◌%◌, ◌^◌, ◌≤◌, ◌<◌, compare, Ordering}
use native.Mathlib.Nat.{mul_assoc, mul_right_comm, zero-add, zero-mul, suc-mul, pow-suc, pow-succ', lt_of_lt_of_le, lt_of_le_of_lt, le_trans, le_of_eq, le_refl, lt_irrefl, mul-le-mul_right, mul-lt-mul_of_pos_right, mul-pos, lt_of_not-le, eq-or-lt_of_le, mul-div_cancel, le-div_iff_mul-le, div-lt_iff_lt-mul, mod-eq_of_lt}
use native.Mathlib.Omega.{arith}
use lib.Dec.{T, eqb}
use lib.Pow.{pow_pos, pow_mono, pow-lt, pow-add}
use lib.Ieee.{Float, nan, inf, fin, Format, prec, emax, low, hid, ones, top, up, down, size, nearest, odd, units, of_fields, of_bits, to_bits, fits}
use lib.Ieee.Digits.{size-lt, size-le}
use lib.Ieee.Fits.{two, two-le_pos, down_pos, odd-fits, nearest-le}
use lib.Ieee.Bits.{of_bits-to_bits}
use lib.Ieee.Exact.{HasValue, odd_sign, units_val}
use lib.Ieee.Nearest.{nearest-ge}
use lib.Ieee.Positive.{num, den, den_pos}
use borrow.Author.Tests.{lt-ltb, lt-leb, ne_eqb}
use Rattle.float.specs.Root.{sq, isqrt, closest_root, root, sqrt}
use Rattle.float.proofs.WholeRoots.{Cmp, cmp, compare_lt, compare_gt, sq_back, sq_mul, RootOf, isqrt_is, closest_at}

-- ---- `compare` at a common factor
compare_same : (a b : ℕ) → a ≡ b → compare a b ≡ Ordering.eq
compare_same a b h = go (compare a b) (cmp a b)
  where
    go : (o : Ordering) → Cmp o a b → o ≡ Ordering.eq
    go Ordering.lt k = absurd (lt_irrefl b (subst (λ (x : ℕ). x < b) h k))
    go Ordering.eq k = refl
    go Ordering.gt k = absurd (lt_irrefl b (subst (λ (x : ℕ). b < x) h k))

compare_scale : (a b z : ℕ) → 0 < z → compare (a * z) (b * z) ≡ compare a b
compare_scale a b z h = go (compare a b) (cmp a b)
  where
    go : (o : Ordering) → Cmp o a b → compare (a * z) (b * z) ≡ o
    go Ordering.lt k = compare_lt (a * z) (b * z) (mul-lt-mul_of_pos_right k h)
    go Ordering.eq k = compare_same (a * z) (b * z) (ap (λ (x : ℕ). x * z) k)
    go Ordering.gt k = compare_gt (a * z) (b * z) (mul-lt-mul_of_pos_right k h)

-- ---- a number's digits
pub pow_lt_back : (i p : ℕ) → 2 ^ i < 2 ^ p → i < p
pow_lt_back i p h = lt_of_not-le (λ (g : p ≤ i). lt_irrefl (2 ^ i) (lt_of_lt_of_le h (pow_mono g)))

-- a number from 2 ^ (p - 1) * 2 ^ k up to 2 ^ p * 2 ^ k has p + k digits
pub size_of : (p k w : ℕ) → 0 < p → 2 ^ (p - 1) * 2 ^ k ≤ w → w < 2 ^ p * 2 ^ k → size w ≡ p + k
size_of p k w P lo hi =
    let a : size w ≤ p + k = size-le w (p + k) (subst (λ (x : ℕ). w < x) (sym (pow-add 2 p k)) hi) in
    let b : p - 1 + k < size w = pow_lt_back (p - 1 + k) (size w) (lt_of_le_of_lt (subst (λ (x : ℕ). x ≤ w) (sym (pow-add 2 (p - 1) k)) lo) (size-lt w)) in
    omega arith

-- ---- the root of N * 4 ^ k
abbrev pub core : Format → ℕ → ℕ → ℕ → ℕ → Float
core f n c w k = units f false (nearest (w / 2 ^ k) (compare (4 * n) (sq ((2 * (w / 2 ^ k) + 1) * 2 ^ k) * c))) k

pub root_is : (f : Format) (a c : ℕ) → root f a c ≡ core f (a * sq (2 ^ low f)) c (isqrt (a * sq (2 ^ low f) / c)) (size (isqrt (a * sq (2 ^ low f) / c)) - prec f)
unfolding root
root_is f a c = refl

sq_pos : {a : ℕ} → 0 < a → 0 < sq a
sq_pos h = mul-pos h h

module _ (N k q : ℕ) (h : RootOf N q) where
  low_root : q * 2 ^ k ≤ isqrt (N * sq (2 ^ k))
  low_root =
      le_of_suc_le_suc'
      (sq_back (q * 2 ^ k) (isqrt (N * sq (2 ^ k)) + 1)
      (lt_of_le_of_lt (le_trans (le_of_eq (sq_mul q (2 ^ k))) (mul-le-mul_right (sq (2 ^ k)) h.0)) (isqrt_is (N * sq (2 ^ k))).1))
    where
      le_of_suc_le_suc' : {a b : ℕ} → a < b + 1 → a ≤ b
      le_of_suc_le_suc' l = omega arith

  high_root : isqrt (N * sq (2 ^ k)) < (q + 1) * 2 ^ k
  high_root =
      sq_back (isqrt (N * sq (2 ^ k))) ((q + 1) * 2 ^ k)
      (lt_of_le_of_lt (isqrt_is (N * sq (2 ^ k))).0 (lt_of_lt_of_le (mul-lt-mul_of_pos_right h.1 (sq_pos (pow_pos k))) (le_of_eq (sym (sq_mul (q + 1) (2 ^ k))))))

  cut_root : isqrt (N * sq (2 ^ k)) / 2 ^ k ≡ q
  cut_root =
      let a : q ≤ isqrt (N * sq (2 ^ k)) / 2 ^ k = (le-div_iff_mul-le (pow_pos k)).1 low_root in
      let b : isqrt (N * sq (2 ^ k)) / 2 ^ k < q + 1 = (div-lt_iff_lt-mul (pow_pos k)).1 high_root in
      omega arith

  size_root : (p : ℕ) → 0 < p → 2 ^ (p - 1) ≤ q → q < 2 ^ p → size (isqrt (N * sq (2 ^ k))) - p ≡ k
  size_root p P lo hi =
      let e : size (isqrt (N * sq (2 ^ k))) ≡ p + k =
      size_of p k (isqrt (N * sq (2 ^ k))) P (le_trans (mul-le-mul_right (2 ^ k) lo) low_root) (lt_of_lt_of_le high_root (mul-le-mul_right (2 ^ k) (next hi))) in
      omega arith
    where
      next : {a b : ℕ} → a < b → a + 1 ≤ b
      next l = omega arith

-- where num / den is N * 4 ^ k, in units of the square of the smallest value, and the root of N has as many digits as the format keeps
pub root_at : (f : Format) (a c N k q : ℕ) → 0 < c → a * sq (2 ^ low f) ≡ N * sq (2 ^ k) * c → RootOf N q → 2 ^ (prec f - 1) ≤ q → q < 2 ^ prec f → root f a c ≡ units f false (closest_root N) k
root_at f a c N k q C e h lo hi =
    let P = 2 ^ k in
    let n = a * sq (2 ^ low f) in
    let w = isqrt (N * sq P) in
    let z : 0 < sq P * c = mul-pos (sq_pos (pow_pos k)) C in
    let l : 4 * n ≡ 4 * N * (sq P * c) = ap (λ (x : ℕ). 4 * x) (e ∙ mul_assoc N (sq P) c) ∙ sym (mul_assoc 4 N (sq P * c)) in
    let r : sq ((2 * q + 1) * P) * c ≡ sq (2 * q + 1) * (sq P * c) = ap (λ (x : ℕ). x * c) (sq_mul (2 * q + 1) P) ∙ mul_assoc (sq (2 * q + 1)) (sq P) c in
    root_is f a c
    ∙ ap (λ (x : ℕ). core f n c (isqrt x) (size (isqrt x) - prec f)) (ap (λ (x : ℕ). x / c) e ∙ mul-div_cancel (N * sq P) C)
    ∙ ap (core f n c w) (size_root N k q h (prec f) (two-le_pos (prec f) (two f)) lo hi)
    ∙ ap (λ (x : ℕ). units f false (nearest x (compare (4 * n) (sq ((2 * x + 1) * P) * c))) k) (cut_root N k q h)
    ∙ ap (λ (x : ℕ). units f false (nearest q (compare x (sq ((2 * q + 1) * P) * c))) k) l
    ∙ ap (λ (x : ℕ). units f false (nearest q (compare (4 * N * (sq P * c)) x)) k) r
    ∙ ap (λ (o : Ordering). units f false (nearest q o) k) (compare_scale (4 * N) (sq (2 * q + 1)) (sq P * c) z)
    ∙ ap (λ (x : ℕ). units f false x k) (sym (closest_at N q h))

-- ---- K * 2 ^ k units, as a pattern
pub to_bits_of : (f : Format) (x : Float) (n : ℕ) → HasValue x false n (2 ^ low f) → to_bits f x ≡ (size n - prec f) * hid f + n / 2 ^ (size n - prec f)
unfolding to_bits
to_bits_of f nan n h = absurd h
to_bits_of f (inf s) n h = absurd h
to_bits_of f (fin true m e) n h = absurd (true≢false h.0)
to_bits_of f (fin false m e) n h =
    ap (λ (x : ℕ). 0 + (size x - prec f) * hid f + x / 2 ^ (size x - prec f)) (ap (λ (x : ℕ). x / down e) h.1 ∙ mul-div_cancel n (down_pos e))
    ∙ ap (λ (x : ℕ). x + n / 2 ^ (size n - prec f)) (zero-add ((size n - prec f) * hid f))

written : (p k K : ℕ) → 0 < p → 2 ^ (p - 1) ≤ K → K < 2 ^ p → (size (K * 2 ^ k) - p) * 2 ^ (p - 1) + K * 2 ^ k / 2 ^ (size (K * 2 ^ k) - p) ≡ k * 2 ^ (p - 1) + K
written p k K P lo hi =
    let s : size (K * 2 ^ k) ≡ p + k = size_of p k (K * 2 ^ k) P (mul-le-mul_right (2 ^ k) lo) (mul-lt-mul_of_pos_right hi (pow_pos k)) in
    let e : size (K * 2 ^ k) - p ≡ k = omega arith in
    ap (λ (x : ℕ). x * 2 ^ (p - 1) + K * 2 ^ k / 2 ^ x) e ∙ ap (λ (x : ℕ). k * 2 ^ (p - 1) + x) (mul-div_cancel K (pow_pos k))

suc_pred : (p : ℕ) → 0 < p → suc (p - 1) ≡ p
suc_pred p h = omega arith

-- 2 ^ p is 2 ^ (p - 1) with one more dropped
pub written_all : (p k K : ℕ) → 0 < p → 2 ^ (p - 1) ≤ K → K ≤ 2 ^ p → (size (K * 2 ^ k) - p) * 2 ^ (p - 1) + K * 2 ^ k / 2 ^ (size (K * 2 ^ k) - p) ≡ k * 2 ^ (p - 1) + K
written_all p k K P lo hi =
    elim (eq-or-lt_of_le hi) [
      | inl e ↦
          let H = 2 ^ (p - 1) in
          let t : 2 ^ p ≡ H * 2 = ap (λ (x : ℕ). 2 ^ x) (sym (suc_pred p P)) ∙ pow-suc 2 (p - 1) in
          let s : K * 2 ^ k ≡ H * 2 ^ suc k = ap (λ (x : ℕ). x * 2 ^ k) (e ∙ t) ∙ mul_assoc H 2 (2 ^ k) ∙ ap (λ (x : ℕ). H * x) (sym (pow-succ' 2 k)) in
          ap (λ (x : ℕ). (size x - p) * H + x / 2 ^ (size x - p)) s
          ∙ written p (suc k) H P (le_refl H) (lt_of_lt_of_le (grows H (pow_pos (p - 1))) (le_of_eq (sym t)))
          ∙ ap (λ (x : ℕ). x + H) (suc-mul k H)
          ∙ omega arith
      | inr l ↦ written p k K P lo l
    ]
  where
    grows : (a : ℕ) → 0 < a → a < a * 2
    grows a h = omega arith

units_is : (f : Format) (K k : ℕ) → K * 2 ^ k < 2 ^ (low f + suc (emax f)) → units f false K k ≡ odd (suc (prec f)) false K k (low f)
unfolding units
units_is f K k h = ap (λ (b : Bool). cond b (odd (suc (prec f)) false K k (low f)) (inf false)) (lt-ltb (K * 2 ^ k) (2 ^ (low f + suc (emax f))) h)

pub units_fits : (f : Format) (K k : ℕ) → K ≤ 2 ^ prec f → K * 2 ^ k < 2 ^ (low f + suc (emax f)) → T (fits f (units f false K k))
units_fits f K k hi h = subst (λ (x : Float). T (fits f x)) (sym (units_is f K k h)) (odd-fits f (suc (prec f)) false K k (lt_of_le_of_lt hi (pow-lt (le_refl (suc (prec f))))) hi h)

pub pattern : (f : Format) (K k : ℕ) → 2 ^ (prec f - 1) ≤ K → K ≤ 2 ^ prec f → K * 2 ^ k < 2 ^ (low f + suc (emax f)) → of_bits f (k * hid f + K) ≡ units f false K k
pattern f K k lo hi h =
    ap (of_bits f) (sym (to_bits_of f (units f false K k) (K * 2 ^ k) (units_val f false K k h) ∙ written_all (prec f) k K (two-le_pos (prec f) (two f)) lo hi))
    ∙ of_bits-to_bits f (units f false K k) (units_fits f K k hi h)

-- ---- a pattern's value, in units
module _ (f : Format) (b : ℕ) (h : b < top f) where
  read : of_bits f b ≡ of_fields f false (b / hid f) (b % hid f)
  unfolding of_bits
  read =
      ap (λ (s : Bool). of_fields f s (b % top f / hid f) (b % hid f)) (lt-leb (top f) b h)
      ∙ ap (λ (x : ℕ). of_fields f false (x / hid f) (b % hid f)) (mod-eq_of_lt h)

  pub read_low : b / hid f ≡ 0 → HasValue (of_bits f b) false (b % hid f * 2 ^ 0) (2 ^ low f)
  unfolding of_fields
  read_low e =
      subst (λ (x : Float). HasValue x false (b % hid f * 2 ^ 0) (2 ^ low f))
      (sym (read ∙ ap (λ (x : ℕ). of_fields f false x (b % hid f)) e))
      (odd_sign (prec f) false (b % hid f) 0 (low f))

  pub read_high : (e : ℕ) → b / hid f ≡ suc e → suc e < ones f → HasValue (of_bits f b) false ((hid f + b % hid f) * 2 ^ e) (2 ^ low f)
  unfolding of_fields
  read_high e p l =
      subst (λ (x : Float). HasValue x false ((hid f + b % hid f) * 2 ^ e) (2 ^ low f))
      (sym (read ∙ ap (λ (x : ℕ). of_fields f false x (b % hid f)) p ∙ ap (λ (t : Bool). cond t (cond (eqb (b % hid f) 0) (inf false) nan) (odd (prec f) false (hid f + b % hid f) e (low f))) (ne_eqb (suc e) (ones f) (λ q. lt_irrefl (ones f) (subst (λ (x : ℕ). x < ones f) q l)))))
      (odd_sign (prec f) false (hid f + b % hid f) e (low f))

-- ---- the root of a value above 0
not_zero : (u : ℕ) → 0 < u → 0 ≡ u → ⊥
not_zero u h e = omega arith

sqrt_at : (f : Format) (x : Float) (u : ℕ) → 0 < u → HasValue x false u (2 ^ low f) → (sqrt f x ≡ root f (num x) (den x)) × (num x * 2 ^ low f ≡ u * den x)
unfolding sqrt
sqrt_at f nan u U h = absurd h
sqrt_at f (inf s) u U h = absurd h
sqrt_at f (fin true m e) u U h = absurd (true≢false h.0)
sqrt_at f (fin false zero e) u U h = absurd (not_zero (u * down e) (mul-pos U (down_pos e)) (sym (ap (λ (x : ℕ). x * 2 ^ low f) (zero-mul (up e)) ∙ zero-mul (2 ^ low f)) ∙ h.1))
sqrt_at f (fin false (suc m) e) u U h = (refl, h.1)

-- the whole way
pub rooted : (f : Format) (b u N k q : ℕ) → 0 < u → HasValue (of_bits f b) false u (2 ^ low f) → u * 2 ^ low f ≡ N * sq (2 ^ k) → RootOf N q → 2 ^ (prec f - 1) ≤ q → q < 2 ^ prec f
    → prec f + k < low f + suc (emax f) → of_bits f (k * hid f + closest_root N) ≡ sqrt f (of_bits f b)
rooted f b u N k q U v e h lo hi fine =
    let x = of_bits f b in
    let K = closest_root N in
    let at = sqrt_at f x u U v in
    let o = compare (4 * N) (sq (2 * q + 1)) in
    let is : K ≡ nearest q o = closest_at N q h in
    let K_lo : 2 ^ (prec f - 1) ≤ K = le_trans lo (le_trans (nearest-ge q o) (le_of_eq (sym is))) in
    let K_hi : K ≤ 2 ^ prec f = le_trans (le_of_eq is) (le_trans (nearest-le q o) hi) in
    let r : num x * sq (2 ^ low f) ≡ N * sq (2 ^ k) * den x =
    sym (mul_assoc (num x) (2 ^ low f) (2 ^ low f)) ∙ ap (λ (y : ℕ). y * 2 ^ low f) at.1 ∙ mul_right_comm u (den x) (2 ^ low f) ∙ ap (λ (y : ℕ). y * den x) e in
    pattern f K k K_lo K_hi (lt_of_le_of_lt (le_trans (mul-le-mul_right (2 ^ k) K_hi) (le_of_eq (sym (pow-add 2 (prec f) k)))) (pow-lt fine))
    ∙ sym (at.0 ∙ root_at f (num x) (den x) N k q (den_pos x) r h lo hi)
