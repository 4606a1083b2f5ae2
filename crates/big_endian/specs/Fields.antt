-- Big-endian numbers in byte lists, at every width, and a run of bytes written over a part of a list.
use Rattle.std.specs.Prelude.{ℕ, zero, suc, ◌+◌, ◌*◌, ◌/◌, ◌%◌, cond, List, [], ◌∷◌, ◌++◌, leb, length, take, drop, get_or}

-- the big-endian value of the n bytes at `at`; bytes past the end count as 0
unfoldable pub field : List ℕ → ℕ → ℕ → ℕ
field s at zero = 0
field s at (suc n) = field s at n * 256 + get_or s (at + n) 0

-- the n low bytes of v, the highest first
unfoldable pub bytes : ℕ → ℕ → List ℕ
bytes zero v = []
bytes (suc n) v = bytes n (v / 256) ++ (v % 256 ∷ [])

-- the n elements at `at`
abbrev pub part : List ℕ → ℕ → ℕ → List ℕ
part s at n = take n (drop at s)

-- l with the list b in the place of as many elements from `at` on
unfoldable pub over : List ℕ → ℕ → List ℕ → List ℕ
over l at b = take at l ++ (b ++ drop (at + length b) l)

-- b written over l where it fits, and l unchanged where it doesn't
unfoldable pub over_if_fits : List ℕ → ℕ → List ℕ → List ℕ
over_if_fits l at b = cond (leb (at + length b) (length l)) (over l at b) l
