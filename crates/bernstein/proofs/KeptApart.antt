-- What dropping keeps: a part of the list, in its order, in which no two neighbours are near, and near to which lies all that was dropped. Assumes nothing.
use mathlib.Core.Path.{◌≡◌, refl}
use mathlib.Core.List.{List, [], ◌∷◌}
use mathlib.Core.Bool.{Bool, true, false, cond}
use mathlib.Core.Logic.{inl, inr}
use lib.Ieee.{Float, lt}
use Rattle.float.specs.Numbers.{◌⊖◌}
use Rattle.float.specs.Sign.{abs}
use Rattle.bernstein.specs.Roots.{dedup_after, dedup_of}
use Rattle.bernstein.specs.Sorted.{All, Apart, Covered, by_first, by_later, PartOf, nothing, left_out, taken_in}

module _ (w : Float) where
  after_apart : (k : Float) (l : List Float) → Apart w (k ∷ dedup_after w k l)
  unfolding dedup_after
  after_apart k [] = tt
  after_apart k (x ∷ l) = go (lt (abs (x ⊖ k)) w) refl (after_apart k l) (after_apart x l)
    where
      go : (t : Bool) → lt (abs (x ⊖ k)) w ≡ t → Apart w (k ∷ dedup_after w k l) → Apart w (x ∷ dedup_after w x l)
          → Apart w (k ∷ cond t (dedup_after w k l) (x ∷ dedup_after w x l))
      go true e d r = d
      go false e d r = (e, r)

  pub dedup_apart : (l : List Float) → Apart w (dedup_of w l)
  unfolding dedup_of
  dedup_apart [] = tt
  dedup_apart (x ∷ l) = after_apart x l

  later_too : (k : Float) (r l : List Float) → All (λ x. Covered w x r) l → All (λ x. Covered w x (k ∷ r)) l
  later_too k r [] h = tt
  later_too k r (x ∷ l) h = (by_later h.0, later_too k r l h.1)

  after_covered : (k : Float) (l : List Float) → All (λ x. Covered w x (k ∷ dedup_after w k l)) l
  unfolding dedup_after
  after_covered k [] = tt
  after_covered k (x ∷ l) = go (lt (abs (x ⊖ k)) w) refl (after_covered k l) (after_covered x l)
    where
      go : (t : Bool) → lt (abs (x ⊖ k)) w ≡ t → All (λ z. Covered w z (k ∷ dedup_after w k l)) l → All (λ z. Covered w z (x ∷ dedup_after w x l)) l
          → All (λ z. Covered w z (k ∷ cond t (dedup_after w k l) (x ∷ dedup_after w x l))) (x ∷ l)
      go true e d r = (by_first (inr e), d)
      go false e d r = (by_later (by_first (inl refl)), later_too k (x ∷ dedup_after w x l) l r)

  pub dedup_covered : (l : List Float) → All (λ x. Covered w x (dedup_of w l)) l
  unfolding dedup_of
  dedup_covered [] = tt
  dedup_covered (x ∷ l) = (by_first (inl refl), after_covered x l)

  cond_part : (t : Bool) (x : Float) (a b l : List Float) → PartOf a l → PartOf b l → PartOf (cond t a (x ∷ b)) (x ∷ l)
  cond_part true x a b l h k = left_out h
  cond_part false x a b l h k = taken_in k

  after_part : (k : Float) (l : List Float) → PartOf (dedup_after w k l) l
  unfolding dedup_after
  after_part k [] = nothing
  after_part k (x ∷ l) = cond_part (lt (abs (x ⊖ k)) w) x (dedup_after w k l) (dedup_after w x l) l (after_part k l) (after_part x l)

  pub dedup_part : (l : List Float) → PartOf (dedup_of w l) l
  unfolding dedup_of
  dedup_part [] = nothing
  dedup_part (x ∷ l) = taken_in (after_part x l)
