-- What sorting and dropping achieve, for `proofs/SortedLists.antt` and `proofs/KeptApart.antt`. Definitions only.
use Rattle.std.specs.Prelude.{List, [], ◌∷◌, true, false, ◌⊎◌, ◌≡◌, T, Float}
use Rattle.std.specs.Float.{binary64}
use Rattle.std.specs.Float.Ieee.{fits, lt}
use Rattle.float.specs.Numbers.{◌⊖◌}
use Rattle.float.specs.Sign.{abs}
use Rattle.float.specs.Order.{before}

abbrev pub All : (Float → Type 0) → List Float → Type 0
All P [] = Unit {0}
All P (x ∷ l) = P x × All P l

-- each is a binary64, as every float of a program is
abbrev pub Fit : List Float → Type 0
Fit l = All (λ x. T (fits binary64 x)) l

-- none stands before one that it comes behind
abbrev pub Ordered : List Float → Type 0
Ordered [] = Unit {0}
Ordered (x ∷ l) = All (λ y. before y x ≡ false) l × Ordered l

-- no two neighbours lie nearer than w to each other
abbrev pub Apart : Float → List Float → Type 0
Apart w [] = Unit {0}
Apart w (x ∷ []) = Unit {0}
Apart w (x ∷ y ∷ l) = (lt (abs (y ⊖ x)) w ≡ false) × Apart w (y ∷ l)

-- x is one of a list, or lies nearer than w to one of it
pub data Covered (w x : Float) : List Float → Type 0 where
  by_first : {k : Float} {l : List Float} → (x ≡ k) ⊎ (lt (abs (x ⊖ k)) w ≡ true) → Covered w x (k ∷ l)
  by_later : {k : Float} {l : List Float} → Covered w x l → Covered w x (k ∷ l)

-- a list with some of its elements left out
pub data PartOf : List Float → List Float → Type 0 where
  nothing : PartOf [] []
  left_out : {x : Float} {k l : List Float} → PartOf k l → PartOf k (x ∷ l)
  taken_in : {x : Float} {k l : List Float} → PartOf k l → PartOf (x ∷ k) (x ∷ l)
