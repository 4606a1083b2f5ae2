-- Look-ups by id in a list of ids.
use Rattle.std.specs.Prelude.{ℕ, ◌%◌, ◌≤◌, ◌<◌, ◌≡◌, Bool, false, ◌||◌, List, [], ◌∷◌, length, get_or, set, ltb, eqb, Option, Some, None}
use Rattle.sketch.specs.Lists.{ite}

-- whether the id is in the list
abbrev pub among : ℕ → List ℕ → Bool
among i [] = false
among i (j ∷ js) = eqb i j || among i js

-- each id is above the one before it, the first above `below`
abbrev pub Above : ℕ → List ℕ → Type 0
Above below [] = Unit {0}
Above below (i ∷ is) = (below < i) × Above i is

-- ids that rise strictly
abbrev pub Ascends : List ℕ → Type 0
Ascends [] = Unit {0}
Ascends (i ∷ is) = Above i is

-- what a look-up answers: a place where the id stands, or the list's length, and in a list that rises the latter only where it stands nowhere
pub record Found (id : ℕ) (ids : List ℕ) (r : ℕ) : Type 0 where
  pub within : r ≤ length ids
  pub here : r < length ids → get_or ids r 0 ≡ id
  pub nowhere : Ascends ids → r ≡ length ids → among id ids ≡ false

-- a look-up's answer: a place where the id stands, or none, and in a list that rises none only where it stands nowhere
abbrev pub FoundAt : ℕ → List ℕ → Option ℕ → Type 0
FoundAt id ids (Some k) = (k < length ids) × (get_or ids k 0 ≡ id)
FoundAt id ids None = Ascends ids → among id ids ≡ false

-- the sort that stands beside the first such id, 0 where there is none
unfoldable pub sort_among : ℕ → List ℕ → List ℕ → ℕ
sort_among i [] ss = 0
sort_among i (j ∷ js) [] = 0
sort_among i (j ∷ js) (s ∷ ss) = ite (eqb i j) s (sort_among i js ss)

-- a table of guesses, direct-mapped, with an id's place: ids with one remainder by 1,024 share an entry, and a table too short for it stays
abbrev pub noted : List ℕ → ℕ → ℕ → List ℕ
noted near id place = ite (ltb (id % 1024) (length near)) (set near (id % 1024) (place % 65536)) near
