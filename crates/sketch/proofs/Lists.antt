-- Laws of filters and of joined lists. Assumes nothing.
use mathlib.Core.Path.{◌≡◌, refl, ap}
use mathlib.Core.Bool.{Bool, true, false, ◌&&◌}
use mathlib.Core.List.{List, [], ◌∷◌, ◌++◌, append_assoc}
use Rattle.sketch.specs.Lists.{ite, keep, concat_map}

module _ {A : Type 0} where
  pub keep_append : (p : A → Bool) (l m : List A) → keep p (l ++ m) ≡ keep p l ++ keep p m
  keep_append p [] m = refl
  keep_append p (a ∷ l) m = go (p a) (keep_append p l m)
    where
      go : (b : Bool) → keep p (l ++ m) ≡ keep p l ++ keep p m → ite b (a ∷ keep p (l ++ m)) (keep p (l ++ m)) ≡ ite b (a ∷ keep p l) (keep p l) ++ keep p m
      go true e = ap (λ (r : List A). a ∷ r) e
      go false e = e

  pub keep_twice : (p q : A → Bool) (l : List A) → keep p (keep q l) ≡ keep (λ a. q a && p a) l
  keep_twice p q [] = refl
  keep_twice p q (a ∷ l) = go (q a) (keep_twice p q l)
    where
      go : (b : Bool) → keep p (keep q l) ≡ keep (λ a. q a && p a) l
          → keep p (ite b (a ∷ keep q l) (keep q l)) ≡ ite (b && p a) (a ∷ keep (λ a. q a && p a) l) (keep (λ a. q a && p a) l)
      go true e = ap (λ (r : List A). ite (p a) (a ∷ r) r) e
      go false e = e

  pub keep_same : (p q : A → Bool) (l : List A) → ((a : A) → p a ≡ q a) → keep p l ≡ keep q l
  keep_same p q [] h = refl
  keep_same p q (a ∷ l) h = let e = keep_same p q l h in rw (h a, e)

  pub keep_true : (p : A → Bool) → ((a : A) → p a ≡ true) → (l : List A) → keep p l ≡ l
  keep_true p h [] = refl
  keep_true p h (a ∷ l) = rw (h a) (ap (λ t. a ∷ t) (keep_true p h l))

pub concat_map_append : {A B : Type 0} (f : A → List B) (l m : List A) → concat_map f (l ++ m) ≡ concat_map f l ++ concat_map f m
concat_map_append f [] m = refl
concat_map_append f (a ∷ l) m = rw (concat_map_append f l m, append_assoc)
