-- The sorts of curves, and their numbers.
use mathlib.Core.Path.{◌≡◌, refl, sym, ap, ◌∙◌}
use mathlib.Core.Bool.{Bool, ◌&&◌, ◌||◌}
use mathlib.Core.List.{List, map}
use Prim.Native.Nat.{ℕ, ◌≤◌, ◌<◌}
use native.Mathlib.Omega.{arith}
use lib.ListN.{length, get_or}
use lib.Dec.{eqb, ltb}
use Rattle.std.specs.Prelude.{Option, Some, None, is_some}
use Rattle.std.specs.Option.{option_eq, option_copied, MatchOption}
use denote.Ref.{Bor}
use Rattle.std.specs.List.{HoldsAt}
use Rattle.sketch.specs.declared.Sort.{Sort}
use Rattle.sketch.specs.declared.Sort.TheVariants.{Line, Round, Freeform}
use Rattle.sketch.specs.contracts.SortPartialEq as Equal
use Rattle.sketch.specs.Lookup.{Ascends, FoundAt, sort_among}
use Rattle.sketch.specs.Sorts.{number_or_zero, sort_number_of}
use Rattle.sketch.proofs.Ascent.{sort_at_lem, sort_nowhere}
use Rattle.sketch.proofs.Facts.{get_or_mapped}

-- ---- tests of sorts are tests of their numbers

pub some_sort : (o : Option Sort) → is_some o ≡ ltb 0 (sort_number_of o)
some_sort None = refl
some_sort (Some Line) = refl
some_sort (Some Round) = refl
some_sort (Some Freeform) = refl

abbrev same : Option Sort → Option Sort → Bool
same o p = option_eq Equal.TheImpl.eq-value.it o p

pub same_line : (o : Option Sort) → same o (Some Line) ≡ eqb (sort_number_of o) 1
same_line None = refl
same_line (Some Line) = refl
same_line (Some Round) = refl
same_line (Some Freeform) = refl

pub same_round : (o : Option Sort) → same o (Some Round) ≡ eqb (sort_number_of o) 2
same_round None = refl
same_round (Some Line) = refl
same_round (Some Round) = refl
same_round (Some Freeform) = refl

-- two sorts are equal, and a line's or a round's, where both are a line's or both a round's
pub same_sort : (o p : Option Sort) → (same o p && (same o (Some Line) || same o (Some Round)))
    ≡ (eqb (sort_number_of o) 1 && eqb (sort_number_of p) 1 || eqb (sort_number_of o) 2 && eqb (sort_number_of p) 2)
same_sort None None = refl
same_sort None (Some Line) = refl
same_sort None (Some Round) = refl
same_sort None (Some Freeform) = refl
same_sort (Some Line) None = refl
same_sort (Some Line) (Some Line) = refl
same_sort (Some Line) (Some Round) = refl
same_sort (Some Line) (Some Freeform) = refl
same_sort (Some Round) None = refl
same_sort (Some Round) (Some Line) = refl
same_sort (Some Round) (Some Round) = refl
same_sort (Some Round) (Some Freeform) = refl
same_sort (Some Freeform) None = refl
same_sort (Some Freeform) (Some Line) = refl
same_sort (Some Freeform) (Some Round) = refl
same_sort (Some Freeform) (Some Freeform) = refl

-- ---- the sort at a place

module _ {A : Type 0} (number : A → ℕ) (id : ℕ) (ids : List ℕ) (sorts : List A) (h : Ascends ids) where
  pub sort_missing : FoundAt id ids None → 0 ≡ sort_among id ids (map number sorts)
  sort_missing f = sym (sort_nowhere id ids (map number sorts) (f h))

  module _ (e : length ids ≡ length sorts) (k : ℕ) (f : FoundAt id ids (Some k)) where
    pub sort_there : (d : A) → number (get_or sorts k d) ≡ sort_among id ids (map number sorts)
    sort_there d = sym (sort_at_lem id ids (map number sorts) k h f.0 f.1 ∙ get_or_mapped number 0 d sorts k (omega arith))

    -- as `get` tells it
    pub sort_got : (g : Option (Bor A)) → MatchOption g (length sorts ≤ k) (λ x. (k < length sorts) × HoldsAt (λ y. x.now ≡ y) sorts k)
        → number_or_zero number (option_copied g) ≡ sort_among id ids (map number sorts)
    sort_got None m = absurd (omega arith)
    sort_got (Some x) m = ap number (m.1 x.now) ∙ sort_there x.now
