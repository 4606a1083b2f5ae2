-- The first or the last of some cuts, as one pass over them finds it, for the contracts of functions that nothing outside calls.
-- Definitions only.
use Rattle.std.specs.Prelude.{Bool, true, false, not, ◌&&◌, cond, List, [], ◌∷◌, Option, Some, None, Float}
use Rattle.std.specs.Bool.{beq}
use Rattle.std.specs.Float.Ieee.{lt}
use Rattle.float.specs.Numbers.{0f}
use Rattle.float.specs.Order.{before}
use Rattle.sketch.specs.Lists.{keep}
use Rattle.cuts.specs.declared.Cut.{Cut}
use Rattle.cuts.specs.declared.Side.{Side}
use Rattle.cuts.specs.declared.Side.TheVariants.{Before, After, NotPast, Past, Any}
use Rattle.image.specs.Stored.{Binary64}
use Rattle.cuts.specs.Bracket.{sort_cuts, last_one, first_one}

-- a parameter that a search is for, on a curve whose ends are low and high
unfoldable pub wanted : Side → Float → Float → Float → Float → Bool
wanted Before low high tq t = lt low t && lt t high && lt t tq
wanted After low high tq t = lt low t && lt t high && lt tq t
wanted NotPast low high tq t = not (lt tq t)
wanted Past low high tq t = lt tq t
wanted Any low high tq t = true

-- a parameter has 64 bits, as every one that is read has
abbrev pub Good : Cut → Type 0
Good k = Binary64 k.t

abbrev pub Fit : List Cut → Type 0
Fit [] = Unit {0}
Fit (k ∷ l) = Good k × Fit l

-- the better of a cut and the best found before it: of equals the last found stands last, and the first found first
unfoldable pub nearer : Bool → Option Cut → Cut → Cut
nearer last None k = k
nearer last (Some b) k = cond (beq (before k.t b.t) last) b k

-- the first or the last of a list, if it has one
unfoldable pub end_of : Bool → List Cut → List Cut
end_of true l = last_one l
end_of false l = first_one l

-- in order, the cuts whose parameters pass
abbrev pub sorted : (Cut → Bool) → List Cut → List Cut
sorted q l = sort_cuts [] (keep q l)

-- of these the first or the last
abbrev pub nearest : Bool → (Float → Bool) → List Cut → List Cut
nearest last p l = end_of last (sorted (λ k. p k.t) l)

-- of two lists, the first that holds something
unfoldable pub or_else : List Cut → List Cut → List Cut
or_else [] m = m
or_else (k ∷ l) m = k ∷ l

-- the first or the last on one side, else of all
unfoldable pub or_of_all : Bool → Side → Float → List Cut → List Cut
or_of_all last side tq l = or_else (nearest last (wanted side 0f 0f tq) l) (nearest last (wanted Any 0f 0f tq) l)
