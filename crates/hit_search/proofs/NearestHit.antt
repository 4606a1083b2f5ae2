-- The nearest of a list of hits. Assumes nothing.
use Rattle.std.proofs.Common.{◌≡◌, refl, ap, ℕ, List, [], ◌∷◌, length, ◌⊎◌, inl, inr, arith}
use Rattle.std.proofs.Math.Option.{Option}
use Rattle.std.specs.Prelude.{Float}
use Rattle.support.specs.Pieces.{zip_points}
use Rattle.hit_search.specs.NearestHit.{Support, Best, best_of}

no_points : (xs ys : List Float) → (length xs ≡ 0) ⊎ (length ys ≡ 0) → zip_points xs ys ≡ []
unfolding zip_points
no_points [] ys h = refl
no_points (x ∷ xs) [] h = refl
no_points (x ∷ xs) (y ∷ ys) (inl h) = absurd (omega arith)
no_points (x ∷ xs) (y ∷ ys) (inr h) = absurd (omega arith)

-- where no hit is left, the best so far is the best
pub best_at_end : (s : Support) (by : ℕ) (b : Option Best) (xs ys : List Float) → (length xs ≡ 0) ⊎ (length ys ≡ 0) → best_of s by b (zip_points xs ys) ≡ b
unfolding best_of
best_at_end s by b xs ys h = ap (best_of s by b) (no_points xs ys h)
