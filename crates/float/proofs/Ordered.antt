-- What the larger of two is, and where a stands before b. Assumes nothing.
use mathlib.Core.Path.{◌≡◌, refl, sym, ◌∙◌, ap}
use mathlib.Core.Bool.{Bool, true, false, not, ◌&&◌, ◌||◌, cond, false≢true}
use lib.Ieee.{Float, nan, inf, fin, lt, eq, ne, is_nan, neg}
use Rattle.float.specs.Numbers.{0f}
use Rattle.float.specs.Sign.{negative}
use Rattle.float.specs.Order.{max, before}
use Rattle.float.proofs.Signs.{nan_is}

-- ---- the larger
pub max_less : (a b : Float) → lt a b ≡ true → b ≡ max a b
unfolding max
max_less a b h = go (is_nan a)
  where
    go : (n : Bool) → b ≡ cond n b (cond (lt a b) b a)
    go true = refl
    go false = rw h

pub max_nan : (a b : Float) → ne a a ≡ true → b ≡ max a b
unfolding max
max_nan a b h = rw (sym (nan_is a) ∙ h)

pub max_first : (a b : Float) → lt a b ≡ false → ne a a ≡ false → a ≡ max a b
unfolding max
max_first a b h n = rw (sym (nan_is a) ∙ n, h)

-- ---- the total order
equal_to_nan : (a : Float) → eq a nan ≡ false
unfolding eq
equal_to_nan nan = refl
equal_to_nan (inf s) = refl
equal_to_nan (fin s m e) = refl

equal_no_nan : (a b : Float) → eq a b ≡ true → is_nan b ≡ false
unfolding is_nan
equal_no_nan a nan h = absurd (false≢true (sym (equal_to_nan a) ∙ h))
equal_no_nan a (inf s) h = refl
equal_no_nan a (fin s m e) h = refl

not_not : (b : Bool) → not (not b) ≡ b
not_not true = refl
not_not false = refl

equals_itself : (a : Float) → eq a a ≡ not (is_nan a)
unfolding ne
equals_itself a =
    let h : not (eq a a) ≡ is_nan a = nan_is a in
    sym (not_not (eq a a)) ∙ ap not h

pub before_less : (a b : Float) → lt a b ≡ true → true ≡ before a b
unfolding before
before_less a b h = rw h

or_none : (p : Bool) → p ≡ p || false
or_none true = refl
or_none false = refl

pub before_equal : (a b : Float) → lt a b ≡ false → eq a b ≡ true → negative a && not (negative b) ≡ before a b
unfolding before
before_equal a b h k = rw (h, k, equal_no_nan a b k) (or_none (negative a && not (negative b)))

pub before_else : (a b : Float) → lt a b ≡ false → eq a b ≡ false → ne b b && eq a a ≡ before a b
unfolding before
before_else a b h k = rw (h, k, nan_is b, equals_itself a)

-- ---- what the order is: between two unequal numbers that of `<`, and −0 before +0
pub before_numbers : (a b : Float) → is_nan b ≡ false → eq a b ≡ false → before a b ≡ lt a b
unfolding before
before_numbers a b n h = rw (h, n) (go (lt a b))
  where
    go : (t : Bool) → t || false || false ≡ t
    go true = refl
    go false = refl

pub zeros_in_order : (before (neg 0f) 0f ≡ true) × (before 0f (neg 0f) ≡ false)
unfolding before negative lt eq is_nan neg lib.Ieee.of_bits
zeros_in_order = (refl, refl)
