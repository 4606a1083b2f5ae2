-- Plumbing: a test over a list, its first and its last, and a list by its places.
use Rattle.std.specs.Prelude.{ℕ, zero, suc, Bool, false, ◌||◌, List, [], ◌∷◌, ◌++◌}

module _ {A : Type 0} where
  unfoldable pub any : (A → Bool) → List A → Bool
  any p [] = false
  any p (a ∷ l) = p a || any p l

  unfoldable pub first_or : A → List A → A
  first_or z [] = z
  first_or z (a ∷ l) = a

  unfoldable pub last_or : A → List A → A
  last_or z [] = z
  last_or z (a ∷ l) = last_or a l

  -- n entries, each by its place
  unfoldable pub rows : ℕ → (ℕ → A) → List A
  rows zero f = []
  rows (suc n) f = rows n f ++ f n ∷ []
