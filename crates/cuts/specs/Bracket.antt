-- The cuts on both sides of a place on a curve: bracket. Definitions only.
use Rattle.std.specs.Prelude.{Bool, not, ◌&&◌, ◌||◌, cond, List, [], ◌∷◌, ◌++◌, Float}
use Rattle.std.specs.Float.Ieee.{lt}
use Rattle.float.specs.Numbers.{◌⊕◌, ◌⊖◌, ◌⊗◌, 1e-9}
use Rattle.float.specs.Order.{before}
use Rattle.shape.specs.declared.Shape.{Shape}
use Rattle.shape.specs.declared.Range.{Range}
use Rattle.shape.specs.Measures.{range, is_full}
use Rattle.sketch.specs.Lists.{keep}
use Rattle.cuts.specs.Lists.{first_or, last_or}
use Rattle.cuts.specs.declared.Cut.{Cut}
use Rattle.cuts.specs.declared.Neighbours.{Neighbours}
use Rattle.cuts.specs.declared.Neighbours.TheVariants.{Zero, One, Two}

-- more than 1e-9 of the span away from both ends of the range
unfoldable pub within : Range → Float → Bool
within r t =
    let margin = 1e-9 ⊗ (r.end ⊖ r.start) in
    lt (r.start ⊕ margin) t && lt t (r.end ⊖ margin)

-- a full curve has no ends
unfoldable pub interior : Shape → Cut → Bool
interior sh k = is_full sh || within (range sh) k.t

-- put in by the total order of parameters, behind its equals
unfoldable pub insert_cut : Cut → List Cut → List Cut
insert_cut k [] = k ∷ []
insert_cut k (j ∷ l) = cond (before k.t j.t) (k ∷ j ∷ l) (j ∷ insert_cut k l)

unfoldable pub sort_cuts : List Cut → List Cut → List Cut
sort_cuts s [] = s
sort_cuts s (k ∷ l) =
    let now = insert_cut k s in
    sort_cuts now l

unfoldable pub in_order : Shape → List Cut → List Cut
in_order sh cuts = sort_cuts [] (keep (interior sh) cuts)

-- the nearest before tq, if there is one, then the nearest after it
unfoldable pub last_one : List Cut → List Cut
last_one [] = []
last_one (k ∷ l) = last_or k l ∷ []

unfoldable pub first_one : List Cut → List Cut
first_one [] = []
first_one (k ∷ l) = k ∷ []

unfoldable pub beside : Float → List Cut → List Cut
beside tq cuts = last_one (keep (λ k. lt k.t tq) cuts) ++ first_one (keep (λ k. lt tq k.t) cuts)

-- going round, of two cuts or more: the last that is not past tq, else the last of all, and the first that is, else the first of all; these two in order
unfoldable pub around : Float → List Cut → List Cut
around tq [] = []
around tq (k ∷ []) = []
around tq (k ∷ j ∷ l) =
    let cuts = k ∷ j ∷ l in
    let behind = last_or (last_or j l) (keep (λ i. not (lt tq i.t)) cuts) in
    let ahead = first_or k (keep (λ i. lt tq i.t) cuts) in
    sort_cuts [] (behind ∷ ahead ∷ [])

unfoldable pub bracket : Shape → Float → List Cut → List Cut
bracket sh tq cuts =
    let sorted = in_order sh cuts in
    cond (is_full sh) (around tq sorted) (beside tq sorted)

-- as the code answers it
abbrev pub neighbours : Neighbours → List Cut
neighbours Zero = []
neighbours (One k) = k ∷ []
neighbours (Two k j) = k ∷ j ∷ []
