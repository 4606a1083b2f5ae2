-- The larger of two is one of them, and neither is above it; a NaN gives way. Assumes nothing.
use mathlib.Core.Path.{◌≡◌, refl, sym, ◌∙◌, ap}
use mathlib.Core.Bool.{Bool, true, false, cond, true≢false}
use lib.Dec.{T}
use lib.Ieee.{Float, nan, binary64, lt, is_nan, fits}
use Rattle.float.specs.Order.{max}
use Rattle.float.proofs.Signs.{the_nan}
use Rattle.float.proofs.Plain.{under_nan}
use Rattle.float.proofs.Ordered.{before_less}
use Rattle.float.proofs.TotalOrder.{before_irreflexive, before_transitive}

fails : (b : Bool) → (b ≡ true → ⊥) → b ≡ false
fails true h = absurd (h refl)
fails false h = refl

module _ (a b : Float) (h : T (fits binary64 a)) (k : T (fits binary64 b)) where
  pub lt_irreflexive : lt a a ≡ false
  lt_irreflexive = fails (lt a a) (λ l. true≢false (before_less a a l ∙ before_irreflexive a h))

  pub lt_asymmetric : lt a b ≡ true → lt b a ≡ false
  lt_asymmetric l =
      fails (lt b a) (λ m. true≢false (sym (before_transitive a b a h k h (sym (before_less a b l)) (sym (before_less b a m))) ∙ before_irreflexive a h))

pub max_of_nan : (a : Float) → (max nan a ≡ a) × (max a nan ≡ a)
unfolding max is_nan
max_of_nan a = (refl, go (is_nan a) refl)
  where
    go : (n : Bool) → is_nan a ≡ n → cond (is_nan a) nan (cond (lt a nan) nan a) ≡ a
    go true n = simp (n, the_nan a n)
    go false n = simp (n, (under_nan a).0)

pub max_largest : (a b : Float) → T (fits binary64 a) → T (fits binary64 b) → (lt (max a b) a ≡ false) × (lt (max a b) b ≡ false)
unfolding max
max_largest a b h k = go (is_nan a) refl (lt a b) refl
  where
    go : (n : Bool) → is_nan a ≡ n → (l : Bool) → lt a b ≡ l → (lt (cond n b (cond l b a)) a ≡ false) × (lt (cond n b (cond l b a)) b ≡ false)
    go true n l' l = (ap (lt b) (the_nan a n) ∙ (under_nan b).0, lt_irreflexive b a k h)
    go false n true l = (lt_asymmetric a b h k l, lt_irreflexive b a k h)
    go false n false l = (lt_irreflexive a b h k, l)
