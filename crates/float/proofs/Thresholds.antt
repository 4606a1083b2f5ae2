-- To compare a rounded root with a bound is to compare what stands under the root with a constant: one law, for every bound. Assumes nothing.
use Prim.Native.Nat.{ℕ, ◌+◌, ◌-◌, ◌*◌, ◌/◌, ◌%◌, ◌^◌, ◌≤◌, ◌<◌}
use mathlib.Core.Bool.{Bool, true, false, not, ◌&&◌, false≢true, true≢false}
use mathlib.Core.Path.{◌≡◌, refl, sym, ap, ◌∙◌, subst}
use native.Mathlib.Omega.{arith}
use native.Mathlib.Nat.{mul-le-mul_right, mul-lt-mul_of_pos_right, not-le_of_lt, lt_of_le_of_lt, mul-pos}
use borrow.Author.Tests.{ltb-true, ltb-false, lt-ltb, le-ltb, not-true}
use lib.Dec.{T, ltb, ltb→lt}
use lib.Pow.{pow_pos}
use lib.Ieee.{Float, nan, inf, fin, binary64, lt, le, fits, of_bits}
use lib.Ieee.Bits.{of_bits-fits, is_true, is_false}
use lib.Ieee.Exact.{HasValue}
use lib.Ieee.Fits.{and_l, and_r}
use lib.Ieee.Positive.{num, den, positive, den_pos, through, value→cross, positive_of_value}
use lib.Ieee.Order.{transfer}
use Rattle.float.specs.Root.{sqrt, plain}
use Rattle.float.specs.Numbers.{√}
use Rattle.float.specs.Thresholds.{Threshold, bound_of, least_of, most_of, inside, exact}
use Rattle.float.proofs.Patterns.{read_high}
use Rattle.float.proofs.Around.{Held, gap}
use Rattle.float.proofs.Units.{in_units, positive_plain}
use Rattle.float.proofs.Plain.{◌⊑◌, plain_lt, plain_le, sqrt_plain, sqrt_rises, strictly, under_nan, under_infinity}
use Rattle.float.proofs.Unsigned.{unsigned}

-- ---- two patterns that follow each other, within one power of two: what is not below the second is above the first
module _ (p s : ℕ) (next : s ≡ p + 1) (ok : T (inside p)) where
  abbrev P : Float
  P = of_bits binary64 p

  abbrev S : Float
  S = of_bits binary64 s

  abbrev q : ℕ
  q = 2 ^ 52 + p % 2 ^ 52

  abbrev k : ℕ
  k = p / 2 ^ 52 - 1

  field : (0 < p / 2 ^ 52) × (p / 2 ^ 52 < 2047) × (p % 2 ^ 52 + 1 < 2 ^ 52)
  field =
      let a = ltb 0 (p / 2 ^ 52) in
      let b = ltb (p / 2 ^ 52) 2047 in
      let c = ltb (p % 2 ^ 52 + 1) (2 ^ 52) in
      (ltb→lt 0 (p / 2 ^ 52) (and_l a b (and_l (a && b) c ok)), ltb→lt (p / 2 ^ 52) 2047 (and_r a b (and_l (a && b) c ok)), ltb→lt (p % 2 ^ 52 + 1) (2 ^ 52) (and_r (a && b) c ok))

  value_p : HasValue P false (q * 2 ^ k) (2 ^ 1074)
  value_p = let h = field in read_high binary64 p (omega arith) k (omega arith) (omega arith)

  value_s : HasValue S false ((q + 1) * 2 ^ k) (2 ^ 1074)
  value_s =
      let h = field in
      let e : 2 ^ 52 + s % 2 ^ 52 ≡ q + 1 = omega arith in
      subst (λ (z : ℕ). HasValue S false (z * 2 ^ k) (2 ^ 1074)) e (read_high binary64 s (omega arith) k (omega arith) (omega arith))

  cross_p : num P * 2 ^ 1074 ≡ q * 2 ^ k * den P
  cross_p = value→cross P (q * 2 ^ k) (2 ^ 1074) value_p

  cross_s : num S * 2 ^ 1074 ≡ (q + 1) * 2 ^ k * den S
  cross_s = value→cross S ((q + 1) * 2 ^ k) (2 ^ 1074) value_s

  pub positive_p : T (positive P)
  positive_p = positive_of_value P (q * 2 ^ k) (2 ^ 1074) value_p (mul-pos (omega arith) (pow_pos k))

  pub positive_s : T (positive S)
  positive_s = positive_of_value S ((q + 1) * 2 ^ k) (2 ^ 1074) value_s (mul-pos (omega arith) (pow_pos k))

  pub next_below : (x : Float) → T (fits binary64 x) → T (plain x) → lt x S ≡ not (lt P x)
  next_below x fx px =
      let u = in_units binary64 x fx px in
      go u.0 (value→cross x u.0 (2 ^ 1074) u.1) u.2 (ltb (q * 2 ^ k) u.0) refl
    where
      go : (y : ℕ) → num x * 2 ^ 1074 ≡ y * den x → Held 53 y → (b : Bool) → ltb (q * 2 ^ k) y ≡ b → lt x S ≡ not (lt P x)
      go y cx held true e =
          let l : q * 2 ^ k < y = ltb-true (q * 2 ^ k) y e in
          let g : (q + 1) * 2 ^ k ≤ y = gap 53 q k y held (λ z. omega arith) (omega arith) l in
          let above : num S * den x ≤ num x * den S = transfer (num S) (num x) (den S) (den x) ((q + 1) * 2 ^ k) y (2 ^ 1074) (2 ^ 1074) (pow_pos 1074) (pow_pos 1074) cross_s cx (mul-le-mul_right (2 ^ 1074) g) in
          let far : num P * den x < num x * den P = strictly (num P) (num x) (den P) (den x) (q * 2 ^ k) y (2 ^ 1074) (den_pos P) (den_pos x) (pow_pos 1074) cross_p cx l in
          plain_lt x S px (positive_plain S positive_s) ∙ le-ltb (num x * den S) (num S * den x) above
          ∙ sym (ap not (plain_lt P x (positive_plain P positive_p) px ∙ lt-ltb (num P * den x) (num x * den P) far))
      go y cx held false e =
          let l : y ≤ q * 2 ^ k = ltb-false (q * 2 ^ k) y e in
          let near : num x * den P ≤ num P * den x = transfer (num x) (num P) (den x) (den P) y (q * 2 ^ k) (2 ^ 1074) (2 ^ 1074) (pow_pos 1074) (pow_pos 1074) cx cross_p (mul-le-mul_right (2 ^ 1074) l) in
          let m : y < (q + 1) * 2 ^ k = lt_of_le_of_lt l (mul-lt-mul_of_pos_right (omega arith) (pow_pos k)) in
          let under : num x * den S < num S * den x = strictly (num x) (num S) (den x) (den S) y ((q + 1) * 2 ^ k) (2 ^ 1074) (den_pos x) (den_pos S) (pow_pos 1074) cx cross_s m in
          plain_lt x S px (positive_plain S positive_s) ∙ lt-ltb (num x * den S) (num S * den x) under
          ∙ sym (ap not (plain_lt P x (positive_plain P positive_p) px ∙ le-ltb (num P * den x) (num x * den P) near))

  -- a test of roots that holds of a value with all below it, and holds at P and not at S, holds where x is below S
  module _ (test : Float → Bool) (falls : (r t : Float) → T (plain r) → T (plain t) → r ⊑ t → test t ≡ true → test r ≡ true) (at-P : test (√ P) ≡ true) (at-S : test (√ S) ≡ false) where
    pub parted : (x : Float) → T (fits binary64 x) → T (plain x) → test (√ x) ≡ lt x S
    parted x fx px = go (lt x S) refl
      where
        f_p : T (fits binary64 P)
        f_p = of_bits-fits binary64 p

        f_s : T (fits binary64 S)
        f_s = of_bits-fits binary64 s

        p_p : T (plain P)
        p_p = positive_plain P positive_p

        p_s : T (plain S)
        p_s = positive_plain S positive_s

        fails : (b : Bool) → (b ≡ true → ⊥) → b ≡ false
        fails true h = absurd (h refl)
        fails false h = refl

        go : (b : Bool) → lt x S ≡ b → test (√ x) ≡ b
        go true e =
            let h : x ⊑ P = ltb-false (num P * den x) (num x * den P) (sym (plain_lt P x p_p px) ∙ not-true (lt P x) (sym (next_below x fx px) ∙ e)) in
            falls (√ x) (√ P) (sqrt_plain x fx px) (sqrt_plain P f_p p_p) (sqrt_rises x P fx px f_p p_p h) at-P
        go false e =
            let h : S ⊑ x = ltb-false (num x * den S) (num S * den x) (sym (plain_lt x S px p_s) ∙ e) in
            fails (test (√ x)) (λ t. true≢false (sym (falls (√ S) (√ x) (sqrt_plain S f_s p_s) (sqrt_plain x fx px) (sqrt_rises S x f_s p_s fx px h) t) ∙ at-S))

not_back : (a b : Bool) → not a ≡ not b → a ≡ b
not_back true true h = refl
not_back true false h = absurd (false≢true h)
not_back false true h = absurd (true≢false h)
not_back false false h = refl

-- ---- both ways to test a root against c hold of a value with all below it
below_falls : (c : Float) → T (plain c) → (r s : Float) → T (plain r) → T (plain s) → r ⊑ s → lt s c ≡ true → lt r c ≡ true
below_falls c pc r s pr ps h e = go (lt r c) refl
  where
    go : (b : Bool) → lt r c ≡ b → b ≡ true
    go true k = refl
    go false k =
        absurd (not-le_of_lt (ltb-true (num s * den c) (num c * den s) (sym (plain_lt s c ps pc) ∙ e))
        (through (num c) (num r) (num s) (den c) (den r) (den s) (den_pos r) (ltb-false (num r * den c) (num c * den r) (sym (plain_lt r c pr pc) ∙ k)) h))

not_above_falls : (c : Float) → T (plain c) → (r s : Float) → T (plain r) → T (plain s) → r ⊑ s → not (lt c s) ≡ true → not (lt c r) ≡ true
not_above_falls c pc r s pr ps h e =
    ap not (plain_lt c r pc pr
    ∙ le-ltb (num c * den r) (num r * den c)
    (through (num r) (num s) (num c) (den r) (den s) (den c) (den_pos s) h (ltb-false (num c * den s) (num s * den c) (sym (plain_lt c s pc ps) ∙ not-true (lt c s) e))))

-- ---- the law, for every s with no sign
module _ (t : Threshold) (ok : T (exact t)) where
  parts : T (plain (bound_of t)) × T (inside (t.least - 1)) × T (inside t.most) × (lt (√ (of_bits binary64 (t.least - 1))) (bound_of t) ≡ true)
      × (lt (√ (least_of t)) (bound_of t) ≡ false) × (lt (bound_of t) (√ (most_of t)) ≡ false) × (lt (bound_of t) (√ (of_bits binary64 (t.most + 1))) ≡ true)
  parts =
      let c = bound_of t in
      let a1 = plain c in
      let a2 = inside (t.least - 1) in
      let a3 = inside t.most in
      let a4 = lt (√ (of_bits binary64 (t.least - 1))) c in
      let a5 = not (lt (√ (least_of t)) c) in
      let a6 = not (lt c (√ (most_of t))) in
      let a7 = lt c (√ (of_bits binary64 (t.most + 1))) in
      let h = and_l (a1 && a2 && a3 && (a4 && a5)) (a6 && a7) ok in
      let g = and_l (a1 && a2 && a3) (a4 && a5) h in
      (and_l a1 a2 (and_l (a1 && a2) a3 g), and_r a1 a2 (and_l (a1 && a2) a3 g), and_r (a1 && a2) a3 g, is_true a4 (and_l a4 a5 (and_r (a1 && a2 && a3) (a4 && a5) h)), is_false (lt (√ (least_of t)) c) (and_r a4 a5 (and_r (a1 && a2 && a3) (a4 && a5) h)), is_false (lt c (√ (most_of t))) (and_l a6 a7 (and_r (a1 && a2 && a3 && (a4 && a5)) (a6 && a7) ok)), is_true a7 (and_r a6 a7 (and_r (a1 && a2 && a3 && (a4 && a5)) (a6 && a7) ok)))

  plain_bound : T (plain (bound_of t))
  plain_bound = parts.0

  one_less : t.least ≡ t.least - 1 + 1
  one_less =
      let h = field (t.least - 1) (t.least - 1 + 1) refl parts.1 in
      omega arith

  plain_least : T (plain (least_of t))
  plain_least = positive_plain (least_of t) (positive_s (t.least - 1) t.least one_less parts.1)

  plain_most : T (plain (most_of t))
  plain_most = positive_plain (most_of t) (positive_p t.most (t.most + 1) refl parts.2)

  pub root_below : (s : Float) → T (fits binary64 s) → T (unsigned s) → lt (√ s) (bound_of t) ≡ lt s (least_of t)
  unfolding sqrt lt
  root_below nan f u = refl
  root_below (inf true) f u = absurd u
  root_below (inf false) f u = (under_infinity (bound_of t) plain_bound).2 ∙ sym (under_infinity (least_of t) plain_least).2
  root_below (fin true m e) f u = absurd u
  root_below (fin false m e) f u =
      parted (t.least - 1) t.least one_less parts.1 (λ r. lt r (bound_of t)) (below_falls (bound_of t) plain_bound) parts.3 parts.4 (fin false m e) f tt

  pub root_above : (s : Float) → T (fits binary64 s) → T (unsigned s) → lt (bound_of t) (√ s) ≡ lt (most_of t) s
  unfolding sqrt
  root_above nan f u = (under_nan (bound_of t)).0 ∙ sym (under_nan (most_of t)).0
  root_above (inf true) f u = absurd u
  root_above (inf false) f u = (under_infinity (bound_of t) plain_bound).0 ∙ sym (under_infinity (most_of t) plain_most).0
  root_above (fin true m e) f u = absurd u
  root_above (fin false m e) f u =
      not_back (lt (bound_of t) (√ (fin false m e))) (lt (most_of t) (fin false m e))
      (parted t.most (t.most + 1) refl parts.2 (λ r. not (lt (bound_of t) r)) (not_above_falls (bound_of t) plain_bound) (ap not parts.5) (ap not parts.6) (fin false m e) f tt
      ∙ next_below t.most (t.most + 1) refl parts.2 (fin false m e) f tt)

  pub root_at_most : (s : Float) → T (fits binary64 s) → T (unsigned s) → le (√ s) (bound_of t) ≡ le s (most_of t)
  unfolding sqrt le
  root_at_most nan f u = refl
  root_at_most (inf true) f u = absurd u
  root_at_most (inf false) f u = (under_infinity (bound_of t) plain_bound).3 ∙ sym (under_infinity (most_of t) plain_most).3
  root_at_most (fin true m e) f u = absurd u
  root_at_most (fin false m e) f u =
      plain_le (√ (fin false m e)) (bound_of t) (sqrt_plain (fin false m e) f tt) plain_bound
      ∙ ap not (root_above (fin false m e) f tt)
      ∙ sym (plain_le (fin false m e) (most_of t) tt plain_most)

  pub root_at_least : (s : Float) → T (fits binary64 s) → T (unsigned s) → le (bound_of t) (√ s) ≡ le (least_of t) s
  unfolding sqrt
  root_at_least nan f u = (under_nan (bound_of t)).1 ∙ sym (under_nan (least_of t)).1
  root_at_least (inf true) f u = absurd u
  root_at_least (inf false) f u = (under_infinity (bound_of t) plain_bound).1 ∙ sym (under_infinity (least_of t) plain_least).1
  root_at_least (fin true m e) f u = absurd u
  root_at_least (fin false m e) f u =
      plain_le (bound_of t) (√ (fin false m e)) plain_bound (sqrt_plain (fin false m e) f tt)
      ∙ ap not (root_below (fin false m e) f tt)
      ∙ sym (plain_le (least_of t) (fin false m e) plain_least tt)
