-- Small sums, tests joined, relations left, and ids among two lists. Assumes nothing.
use mathlib.Core.Path.{◌≡◌, refl, ap, ◌∙◌, sym}
use mathlib.Core.Bool.{Bool, true, false, ◌||◌, not, ◌&&◌}
use mathlib.Core.List.{List, [], ◌∷◌, ◌++◌}
use mathlib.Core.Option.{some, none}
use Prim.Native.Nat.{ℕ, suc, ◌+◌}
use native.Mathlib.Omega.{arith}
use lib.Dec.{eqb}
use Rattle.sketch.specs.Lookup.{among}
use Rattle.sketch.specs.declared.Relation.{Relation}
use Rattle.sketch.specs.declared.Relation.TheVariants.{Equal}
use Rattle.sketch.specs.Lists.{ite, keep}
use Rattle.edit_plan.specs.Steps.{is_some, drop_if, release_relation}

pub add_none : (n : ℕ) → n + 0 ≡ n
add_none n = omega arith

pub add_two : (n : ℕ) → n + 2 ≡ suc (suc n)
add_two n = omega arith

pub add_three : (n : ℕ) → n + 3 ≡ suc (suc (suc n))
add_three n = omega arith

pub add_four : (n : ℕ) → n + 4 ≡ suc (suc (suc (suc n)))
add_four n = omega arith

pub or_false : (a : Bool) → (a || false) ≡ a
or_false true = refl
or_false false = refl

pub or_true : (a : Bool) → (a || true) ≡ true
or_true true = refl
or_true false = refl

pub or_two : (a b : Bool) → (a || (b || true)) ≡ true
or_two true b = refl
or_two false b = or_true b

-- ---- relations

pub is_some_lem : {A : Type 0} (b : Bool) (x : A) → is_some (ite b (some x) none) ≡ b
is_some_lem true x = refl
is_some_lem false x = refl

module _ (v : Relation) (t : ℕ) (b : Bool) (x : ℕ × ℕ) where
  pub equal_left : {p q : ℕ} → v ≡ Equal p q → drop_if (b && (eqb p t || eqb q t)) (Equal p q) ≡ release_relation t (ite b (some x) none) v
  unfolding release_relation
  equal_left {p} {q} e = simp (e, is_some_lem)

-- ---- ids among two lists

pub among_append : (p : ℕ) (xs ys : List ℕ) → among p (xs ++ ys) ≡ (among p xs || among p ys)
among_append p [] ys = refl
among_append p (x ∷ xs) ys = ap (λ t. eqb p x || t) (among_append p xs ys) ∙ go (eqb p x)
  where
    go : (b : Bool) → (b || (among p xs || among p ys)) ≡ ((b || among p xs) || among p ys)
    go true = refl
    go false = refl

pub or_assoc : (a b c : Bool) → ((a || b) || c) ≡ (a || (b || c))
or_assoc true b c = refl
or_assoc false b c = refl

-- ---- what is left of a relation

module _ (f : Relation → Bool) (l : List Relation) (w : Relation) (e : l ≡ w ∷ []) where
  pub left_is : drop_if (not (f w)) w ≡ keep f l
  left_is = go (f w) refl ∙ ap (keep f) (sym e)
    where
      go : (b : Bool) → f w ≡ b → ite (not b) [] (w ∷ []) ≡ ite b (w ∷ []) []
      go true h = refl
      go false h = refl
