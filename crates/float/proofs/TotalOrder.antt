-- `before` is a strict total order on the floats: it is `<` between whole numbers, the keys. Assumes nothing.
use mathlib.Core.Path.{◌≡◌, refl, sym, ◌∙◌, ap}
use mathlib.Core.Bool.{Bool, true, false, ◌&&◌, ◌||◌, cond, true≢false}
use Prim.Native.Nat.{ℕ, suc, ◌+◌, ◌-◌, ◌*◌, ◌≤◌, ◌<◌}
use native.Mathlib.Omega.{arith}
use borrow.Author.Tests.{ltb-true, ltb-false, lt-ltb, le-ltb, eq-eqb}
use lib.Dec.{T, ltb, eqb}
use lib.Ieee.{Float, nan, inf, fin, binary64, up, down, hid, ones, top, lt, eq, is_nan, fits, to_bits}
use Rattle.float.specs.Sign.{negative, abs}
use Rattle.float.specs.Order.{before}
use Rattle.float.proofs.Signs.{the_nan, abs_fits, abs_number_stays}
use Rattle.float.proofs.Unsigned.{unsigned}
use Rattle.float.proofs.PatternOrder.{pattern_one, unsigned_pattern, unsigned_lt}

-- ---- by the signs
only : (p q : Bool) → p || (q && false) || false ≡ p
only true q = refl
only false true = refl
only false false = refl

some : (a b : ℕ) → ltb 0 (a + b) || (eqb a b && eqb a 0 && true) || false ≡ true
some a b = go (ltb 0 (a + b)) refl
  where
    none : ltb 0 (a + b) ≡ false → (a ≡ b) × (a ≡ 0)
    none h = let l : a + b ≤ 0 = ltb-false 0 (a + b) h in (omega arith, omega arith)

    go : (t : Bool) → ltb 0 (a + b) ≡ t → t || (eqb a b && eqb a 0 && true) || false ≡ true
    go true h = refl
    go false h = rw (eq-eqb a b (none h).0, eq-eqb a 0 (none h).1)

abbrev by_signs : Bool → Bool → Float → Float → Bool
by_signs false false a b = lt (abs a) (abs b)
by_signs false true a b = false
by_signs true false a b = true
by_signs true true a b = lt (abs b) (abs a)

before_signs : (a b : Float) → is_nan a ≡ false → is_nan b ≡ false → before a b ≡ by_signs (negative a) (negative b) a b
unfolding before negative abs lt eq is_nan
before_signs nan b m n = absurd (true≢false m)
before_signs (inf s) nan m n = absurd (true≢false n)
before_signs (inf true) (inf true) m n = refl
before_signs (inf true) (inf false) m n = refl
before_signs (inf false) (inf true) m n = refl
before_signs (inf false) (inf false) m n = refl
before_signs (inf true) (fin true k d) m n = refl
before_signs (inf true) (fin false k d) m n = refl
before_signs (inf false) (fin true k d) m n = refl
before_signs (inf false) (fin false k d) m n = refl
before_signs (fin s i e) nan m n = absurd (true≢false n)
before_signs (fin true i e) (inf true) m n = refl
before_signs (fin true i e) (inf false) m n = refl
before_signs (fin false i e) (inf true) m n = refl
before_signs (fin false i e) (inf false) m n = refl
before_signs (fin true i e) (fin true k d) m n = only (ltb (k * up d * down e) (i * up e * down d)) (eq (fin true i e) (fin true k d))
before_signs (fin true i e) (fin false k d) m n = some (i * up e * down d) (k * up d * down e)
before_signs (fin false i e) (fin true k d) m n = only false (eq (fin false i e) (fin true k d))
before_signs (fin false i e) (fin false k d) m n = only (ltb (i * up e * down d) (k * up d * down e)) (eq (fin false i e) (fin false k d))

-- ---- the key: a magnitude's pattern above the middle, or the same way below it, and a NaN at the end
abbrev middle : ℕ
middle = top binary64

unfoldable pub key : Float → ℕ
key x = cond (is_nan x) (2 * middle) (cond (negative x) (middle - suc (to_bits binary64 (abs x))) (middle + to_bits binary64 (abs x)))

abs_unsigned : (x : Float) → T (unsigned (abs x))
unfolding abs
abs_unsigned nan = tt
abs_unsigned (inf s) = tt
abs_unsigned (fin s m e) = tt

room : (x : Float) → T (fits binary64 x) → is_nan x ≡ false → to_bits binary64 (abs x) < middle
room x h n =
    let l : to_bits binary64 (abs x) ≤ ones binary64 * hid binary64 = unsigned_pattern binary64 (abs x) (abs_fits binary64 x h) (abs_number_stays x n) (abs_unsigned x) in
    omega arith

magnitudes : (a b : Float) → T (fits binary64 a) → T (fits binary64 b) → is_nan a ≡ false → is_nan b ≡ false → lt (abs a) (abs b) ≡ ltb (to_bits binary64 (abs a)) (to_bits binary64 (abs b))
magnitudes a b h k m n =
    unsigned_lt binary64 (abs a) (abs b) (abs_fits binary64 a h) (abs_fits binary64 b k) (abs_number_stays a m) (abs_number_stays b n) (abs_unsigned a) (abs_unsigned b)

same_test : (a b c d : ℕ) → (a < b → c < d) → (c < d → a < b) → ltb a b ≡ ltb c d
same_test a b c d f g = go (ltb a b) refl
  where
    not_less : (c d : ℕ) → (c < d → ⊥) → d ≤ c
    not_less c d h = omega arith

    clash : (a b : ℕ) → b ≤ a → a < b → ⊥
    clash a b h k = omega arith

    go : (t : Bool) → ltb a b ≡ t → t ≡ ltb c d
    go true e = sym (lt-ltb c d (f (ltb-true a b e)))
    go false e = sym (le-ltb c d (not_less c d (λ l. clash a b (ltb-false a b e) (g l))))

module _ (x : Float) where
  key_nan : is_nan x ≡ true → key x ≡ 2 * middle
  unfolding key
  key_nan n = rw n

  key_plus : is_nan x ≡ false → negative x ≡ false → key x ≡ middle + to_bits binary64 (abs x)
  unfolding key
  key_plus n s = rw (n, s)

  key_minus : is_nan x ≡ false → negative x ≡ true → key x ≡ middle - suc (to_bits binary64 (abs x))
  unfolding key
  key_minus n s = rw (n, s)

  key_number : T (fits binary64 x) → is_nan x ≡ false → key x < 2 * middle
  key_number h n = go (negative x) refl
    where
      go : (s : Bool) → negative x ≡ s → key x < 2 * middle
      go true s = omega (arith, key_minus n s)
      go false s = omega (arith, key_plus n s, room x h n)

-- ---- with a NaN
nan_first : (b : Float) → before nan b ≡ false
unfolding before lt eq is_nan
nan_first nan = refl
nan_first (inf s) = refl
nan_first (fin s m e) = refl

nan_last : (a : Float) → is_nan a ≡ false → before a nan ≡ true
unfolding before lt eq is_nan
nan_last nan n = absurd (true≢false n)
nan_last (inf s) n = refl
nan_last (fin s m e) n = refl

-- a number is its sign and its magnitude
sign_and_size : (a b : Float) → is_nan a ≡ false → is_nan b ≡ false → negative a ≡ negative b → abs a ≡ abs b → a ≡ b
unfolding negative abs is_nan
sign_and_size nan b m n s e = absurd (true≢false m)
sign_and_size (inf p) nan m n s e = absurd (true≢false n)
sign_and_size (inf p) (inf q) m n s e = ap inf s
sign_and_size (inf p) (fin q j d) m n s e = cc
sign_and_size (fin p i c) nan m n s e = absurd (true≢false n)
sign_and_size (fin p i c) (inf q) m n s e = cc
sign_and_size (fin p i c) (fin q j d) m n s e = cc

-- ---- the order is that of the keys
module _ (a b : Float) (h : T (fits binary64 a)) (k : T (fits binary64 b)) where
  abbrev A : ℕ
  A = to_bits binary64 (abs a)

  abbrev B : ℕ
  B = to_bits binary64 (abs b)

  numbers : is_nan a ≡ false → is_nan b ≡ false → (s : Bool) → negative a ≡ s → (t : Bool) → negative b ≡ t → by_signs s t a b ≡ ltb (key a) (key b)
  numbers m n true s true t =
      magnitudes b a k h n m ∙ same_test B A (key a) (key b) (λ l. omega (arith, l, key_minus a m s, key_minus b n t, room a h m, room b k n)) (λ l. omega (arith, l, key_minus a m s, key_minus b n t, room a h m, room b k n))
  numbers m n true s false t = sym (lt-ltb (key a) (key b) (omega (arith, key_minus a m s, key_plus b n t)))
  numbers m n false s true t = sym (le-ltb (key a) (key b) (omega (arith, key_plus a m s, key_minus b n t)))
  numbers m n false s false t =
      magnitudes a b h k m n ∙ same_test A B (key a) (key b) (λ l. omega (arith, l, key_plus a m s, key_plus b n t)) (λ l. omega (arith, l, key_plus a m s, key_plus b n t))

  pub before_key : before a b ≡ ltb (key a) (key b)
  before_key = go (is_nan a) refl (is_nan b) refl
    where
      at_most : (x : Float) → T (fits binary64 x) → key x ≤ 2 * middle
      at_most x h = pick (is_nan x) refl
        where
          pick : (n : Bool) → is_nan x ≡ n → key x ≤ 2 * middle
          pick true n = omega (arith, key_nan x n)
          pick false n = omega (arith, key_number x h n)

      go : (m : Bool) → is_nan a ≡ m → (n : Bool) → is_nan b ≡ n → before a b ≡ ltb (key a) (key b)
      go true m n' n = ap (λ (x : Float). before x b) (the_nan a m) ∙ nan_first b ∙ sym (le-ltb (key a) (key b) (omega (arith, key_nan a m, at_most b k)))
      go false m true n = ap (before a) (the_nan b n) ∙ nan_last a m ∙ sym (lt-ltb (key a) (key b) (omega (arith, key_nan b n, key_number a h m)))
      go false m false n = before_signs a b m n ∙ numbers m n (negative a) refl (negative b) refl

  -- two floats with one key are one
  key_one : key a ≡ key b → a ≡ b
  key_one e = go (is_nan a) refl (is_nan b) refl (negative a) refl (negative b) refl
    where
      by_size : is_nan a ≡ false → is_nan b ≡ false → negative a ≡ negative b → A ≡ B → a ≡ b
      by_size m n s p = sign_and_size a b m n s (pattern_one binary64 (abs a) (abs b) (abs_fits binary64 a h) (abs_fits binary64 b k) p)

      go : (m : Bool) → is_nan a ≡ m → (n : Bool) → is_nan b ≡ n → (s : Bool) → negative a ≡ s → (t : Bool) → negative b ≡ t → a ≡ b
      go true m true n s' s t' t = the_nan a m ∙ sym (the_nan b n)
      go true m false n s' s t' t = absurd (apart (key_nan a m) (key_number b k n))
        where
          apart : key a ≡ 2 * middle → key b < 2 * middle → ⊥
          apart p q = omega arith
      go false m true n s' s t' t = absurd (apart (key_nan b n) (key_number a h m))
        where
          apart : key b ≡ 2 * middle → key a < 2 * middle → ⊥
          apart p q = omega arith
      go false m false n true s true t = by_size m n (s ∙ sym t) (omega (arith, key_minus a m s, key_minus b n t, room a h m, room b k n))
      go false m false n false s false t = by_size m n (s ∙ sym t) (omega (arith, key_plus a m s, key_plus b n t))
      go false m false n true s false t = absurd (omega (arith, key_minus a m s, key_plus b n t))
      go false m false n false s true t = absurd (omega (arith, key_plus a m s, key_minus b n t))

-- ---- the theorem: no float stands before itself, what stands before one that stands before c stands before c, and of two that differ one stands before the other
pub before_irreflexive : (a : Float) → T (fits binary64 a) → before a a ≡ false
before_irreflexive a h = before_key a a h h ∙ le-ltb (key a) (key a) (omega arith)

pub before_transitive : (a b c : Float) → T (fits binary64 a) → T (fits binary64 b) → T (fits binary64 c) → before a b ≡ true → before b c ≡ true → before a c ≡ true
before_transitive a b c h k l p q =
    let u = ltb-true (key a) (key b) (sym (before_key a b h k) ∙ p) in
    let v = ltb-true (key b) (key c) (sym (before_key b c k l) ∙ q) in
    before_key a c h l ∙ lt-ltb (key a) (key c) (omega arith)

pub before_total : (a b : Float) → T (fits binary64 a) → T (fits binary64 b) → before a b ≡ false → before b a ≡ false → a ≡ b
before_total a b h k p q =
    let u = ltb-false (key a) (key b) (sym (before_key a b h k) ∙ p) in
    let v = ltb-false (key b) (key a) (sym (before_key b a k h) ∙ q) in
    key_one a b h k (omega arith)
