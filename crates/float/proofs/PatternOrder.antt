-- Values without a sign are in the order of their patterns. Assumes nothing.
use mathlib.Core.Path.{◌≡◌, refl, sym, ◌∙◌, ap, subst}
use mathlib.Core.Bool.{Bool, true, false, true≢false}
use mathlib.Core.Logic.{inl, inr}
use Prim.Native.Nat.{ℕ, suc, ◌+◌, ◌-◌, ◌*◌, ◌/◌, ◌^◌, ◌≤◌, ◌<◌}
use native.Mathlib.Nat.{add-mul, one-mul, mul_assoc, mul_comm, mul_left_comm, le_of_eq, le_trans, le_of_lt, lt_of_lt_of_le, lt_of_le_of_lt, lt_irrefl, eq-or-lt_of_le, mul-le-mul_right, mul-lt-mul_of_pos_right, le_of_mul-le-mul_right, lt_of_mul-lt-mul_right, le-div_iff_mul-le}
use native.Mathlib.Omega.{arith}
use borrow.Author.Tests.{ltb-true, ltb-false, lt-ltb, le-ltb}
use lib.Dec.{T, ltb}
use lib.Pow.{pow_pos, pow-add}
use lib.Ieee.{Float, nan, inf, fin, Format, prec, emax, low, hid, ones, size, lt, is_nan, fits, of_bits, to_bits}
use lib.Ieee.Bits.{of_bits-to_bits}
use lib.Ieee.Digits.{size-lt, size-le, size_reaches}
use lib.Ieee.Fits.{two, reach, two-le_pos, kept-lt}
use lib.Ieee.Nearest.{div_mono}
use lib.Ieee.Order.{transfer}
use lib.Ieee.Positive.{num, den, den_pos, value→cross}
use Rattle.float.specs.Root.{plain}
use Rattle.float.proofs.Patterns.{to_bits_of}
use Rattle.float.proofs.Around.{pow_twice}
use Rattle.float.proofs.Units.{in_units, in_range_lem}
use Rattle.float.proofs.Unsigned.{unsigned}
use Rattle.float.proofs.Plain.{◌⊑◌, plain_lt}

-- ---- n units, written with p digits, rise with n
abbrev written : ℕ → ℕ → ℕ
written p n = (size n - p) * 2 ^ (p - 1) + n / 2 ^ (size n - p)

fewer : (x y p : ℕ) → x ≤ y → x - p ≤ y - p
fewer x y p h = omega arith

written_rises : (p m n : ℕ) → 0 < p → m ≤ n → written p m ≤ written p n
written_rises p m n P h =
    let j = size m - p in
    let k = size n - p in
    let H = 2 ^ (p - 1) in
    elim (eq-or-lt_of_le (fewer (size m) (size n) p (size-le m (size n) (lt_of_le_of_lt h (size-lt n))))) [
      | inl e ↦ subst (λ (x : ℕ). x * H + m / 2 ^ x ≤ written p n) (sym e) (same (k * H) (div_mono m (2 ^ k) n (2 ^ k) (pow_pos k) (pow_pos k) (mul-le-mul_right (2 ^ k) h)))
      | inr l ↦
          let a : m / 2 ^ j < 2 ^ p = kept-lt p m in
          let b : H ≤ n / 2 ^ k = (le-div_iff_mul-le (pow_pos k)).1 (le_trans (le_of_eq (sym (pow-add 2 (p - 1) k))) (size_reaches n (p - 1 + k) (all_in_use (size n) p j P l))) in
          let c : (j + 1) * H ≤ k * H = mul-le-mul_right H (next j k l) in
          apart (j * H) H (m / 2 ^ j) (k * H) (n / 2 ^ k) (2 ^ p) (pow_twice p P) a b (one_more j H) c
    ]
  where
    same : (a : ℕ) {b c : ℕ} → b ≤ c → a + b ≤ a + c
    same a h = omega arith

    all_in_use : (z p j : ℕ) → 0 < p → j < z - p → p - 1 + (z - p) < z
    all_in_use z p j P l = omega arith

    next : (j k : ℕ) → j < k → j + 1 ≤ k
    next j k l = omega arith

    one_more : (j H : ℕ) → (j + 1) * H ≡ j * H + H
    one_more j H = simp (add-mul, one-mul)

    apart : (u H m v n t : ℕ) {w : ℕ} → t ≡ H * 2 → m < t → H ≤ n → w ≡ u + H → w ≤ v → u + m ≤ v + n
    apart u H m v n t e a b o c = omega arith

-- ---- finite values that are not negative
module _ (f : Format) where
  pattern_of : (x : Float) → T (fits f x) → T (plain x) → (n : ℕ) × (num x * 2 ^ low f ≡ n * den x) × (to_bits f x ≡ written (prec f) n)
  pattern_of x h p =
      let u = in_units f x h p in
      (u.0, value→cross x u.0 (2 ^ low f) u.1, to_bits_of f x u.0 u.1)

  pub pattern_rises : (x y : Float) → T (fits f x) → T (plain x) → T (fits f y) → T (plain y) → x ⊑ y → to_bits f x ≤ to_bits f y
  pattern_rises x y hx px hy py h =
      let u = pattern_of x hx px in
      let v = pattern_of y hy py in
      let L = 2 ^ low f in
      let e : u.0 * L ≤ v.0 * L = transfer u.0 v.0 L L (num x) (num y) (den x) (den y) (den_pos x) (den_pos y) (sym u.1) (sym v.1) h in
      le_trans (le_of_eq u.2) (le_trans (written_rises (prec f) u.0 v.0 (two-le_pos (prec f) (two f)) (le_of_mul-le-mul_right e (pow_pos (low f)))) (le_of_eq (sym v.2)))

  -- the pattern determines the value
  pub pattern_one : (x y : Float) → T (fits f x) → T (fits f y) → to_bits f x ≡ to_bits f y → x ≡ y
  pattern_one x y hx hy e = sym (of_bits-to_bits f x hx) ∙ ap (of_bits f) e ∙ of_bits-to_bits f y hy

  pub lt_pattern : (x y : Float) → T (fits f x) → T (plain x) → T (fits f y) → T (plain y) → lt x y ≡ ltb (to_bits f x) (to_bits f y)
  lt_pattern x y hx px hy py = go (lt x y) refl
    where
      go : (b : Bool) → lt x y ≡ b → b ≡ ltb (to_bits f x) (to_bits f y)
      go true e =
          let l : num x * den y < num y * den x = ltb-true (num x * den y) (num y * den x) (sym (plain_lt x y px py) ∙ e) in
          elim (eq-or-lt_of_le (pattern_rises x y hx px hy py (le_of_lt l))) [
            | inl same ↦ absurd (lt_irrefl (num y * den y) (subst (λ (z : Float). num z * den y < num y * den z) (pattern_one x y hx hy same) l))
            | inr less ↦ sym (lt-ltb (to_bits f x) (to_bits f y) less)
          ]
      go false e =
          sym (le-ltb (to_bits f x) (to_bits f y) (pattern_rises y x hy py hx px (ltb-false (num x * den y) (num y * den x) (sym (plain_lt x y px py) ∙ e))))

  -- below the pattern of +∞
  under_ones : (e p n : ℕ) → 2 ≤ p → p ≤ suc e → n < 2 ^ (e + p - 2 + suc e) → written p n < (2 * e + 1) * 2 ^ (p - 1)
  under_ones e p n P E h =
      let k = size n - p in
      let H = 2 ^ (p - 1) in
      let a : n / 2 ^ k < 2 ^ p = kept-lt p n in
      let b : (k + 2) * H ≤ (2 * e + 1) * H = mul-le-mul_right H (few (size n) e p P E (size-le n (e + p - 2 + suc e) h)) in
      close (k * H) H (n / 2 ^ k) (2 ^ p) (pow_twice p (two-le_pos p P)) a (add-mul k 2 H) b
    where
      few : (z e p : ℕ) → 2 ≤ p → p ≤ suc e → z ≤ e + p - 2 + suc e → z - p + 2 ≤ 2 * e + 1
      few z e p P E h = omega arith

      close : (u H q t : ℕ) {w v : ℕ} → t ≡ H * 2 → q < t → w ≡ u + 2 * H → w ≤ v → u + q < v
      close u H q t e a o b = omega arith

  pub finite_pattern : (x : Float) → T (fits f x) → T (plain x) → to_bits f x < ones f * hid f
  finite_pattern x h p =
      let u = pattern_of x h p in
      let L = 2 ^ low f in
      let E = 2 ^ suc (emax f) in
      let a : u.0 * den x < L * E * den x =
      lt_of_le_of_lt (le_of_eq (sym u.1)) (lt_of_lt_of_le (mul-lt-mul_of_pos_right (in_range_lem f x h p) (pow_pos (low f))) (le_of_eq (turned E (den x) L))) in
      lt_of_le_of_lt (le_of_eq u.2) (under_ones (emax f) (prec f) u.0 (two f) (reach f) (lt_of_lt_of_le (lt_of_mul-lt-mul_right (den x) a) (le_of_eq (sym (pow-add 2 (low f) (suc (emax f)))))))
    where
      turned : (E d L : ℕ) → E * d * L ≡ L * E * d
      turned E d L = simp (mul_assoc, mul_comm, mul_left_comm)

  -- ---- with +∞
  pub unsigned_pattern : (x : Float) → T (fits f x) → is_nan x ≡ false → T (unsigned x) → to_bits f x ≤ ones f * hid f
  unfolding is_nan to_bits
  unsigned_pattern nan h n u = absurd (true≢false n)
  unsigned_pattern (inf true) h n u = absurd u
  unsigned_pattern (inf false) h n u = omega arith
  unsigned_pattern (fin true m e) h n u = absurd u
  unsigned_pattern (fin false m e) h n u = le_of_lt (finite_pattern (fin false m e) h tt)

  pub unsigned_lt : (x y : Float) → T (fits f x) → T (fits f y) → is_nan x ≡ false → is_nan y ≡ false → T (unsigned x) → T (unsigned y) → lt x y ≡ ltb (to_bits f x) (to_bits f y)
  unfolding is_nan lt to_bits
  unsigned_lt nan y h k m n u v = absurd (true≢false m)
  unsigned_lt (inf true) y h k m n u v = absurd u
  unsigned_lt (fin true a e) y h k m n u v = absurd u
  unsigned_lt (inf false) nan h k m n u v = absurd (true≢false n)
  unsigned_lt (inf false) (inf true) h k m n u v = absurd v
  unsigned_lt (inf false) (inf false) h k m n u v = sym (le-ltb (0 + ones f * hid f) (0 + ones f * hid f) (le_of_eq refl))
  unsigned_lt (inf false) (fin true b d) h k m n u v = absurd v
  unsigned_lt (inf false) (fin false b d) h k m n u v = sym (le-ltb (0 + ones f * hid f) (to_bits f (fin false b d)) (le_trans (le_of_lt (finite_pattern (fin false b d) k tt)) (omega arith)))
  unsigned_lt (fin false a e) nan h k m n u v = absurd (true≢false n)
  unsigned_lt (fin false a e) (inf true) h k m n u v = absurd v
  unsigned_lt (fin false a e) (inf false) h k m n u v = sym (lt-ltb (to_bits f (fin false a e)) (0 + ones f * hid f) (lt_of_lt_of_le (finite_pattern (fin false a e) h tt) (omega arith)))
  unsigned_lt (fin false a e) (fin true b d) h k m n u v = absurd v
  unsigned_lt (fin false a e) (fin false b d) h k m n u v = lt_pattern (fin false a e) (fin false b d) h tt k tt
