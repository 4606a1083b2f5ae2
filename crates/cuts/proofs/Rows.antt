-- A list by its places, and a test of its entries. Assumes nothing.
use mathlib.Core.Path.{◌≡◌, refl, sym, ap, ◌∙◌}
use mathlib.Core.Bool.{Bool, true, false, ◌||◌}
use mathlib.Core.List.{List, [], ◌∷◌, ◌++◌}
use Prim.Native.Nat.{ℕ, zero, suc, ◌+◌, ◌-◌, ◌<◌}
use native.Mathlib.Numerals.{add-one, unary_clauses}
use native.Mathlib.Omega.{arith}
use lib.ListN.{length, length-append}
use Rattle.cuts.specs.Lists.{any, rows}

or_false : (a : Bool) → a || false ≡ a
or_false true = refl
or_false false = refl

or_assoc : (a b c : Bool) → (a || b) || c ≡ a || (b || c)
or_assoc true b c = refl
or_assoc false b c = refl

pub or_true : (a : Bool) → a || true ≡ true
or_true true = refl
or_true false = refl

module _ {A : Type 0} where
  pub rows_length : (n : ℕ) (f : ℕ → A) → length (rows n f) ≡ n
  unfolding rows
  rows_length zero f = refl
  rows_length (suc n) f = let e = rows_length n f in simp length-append (omega arith)

  -- equal rows, equal tables
  pub rows_same : (n : ℕ) (f g : ℕ → A) → ((i : ℕ) → i < n → f i ≡ g i) → rows n f ≡ rows n g
  unfolding rows
  rows_same zero f g h = refl
  rows_same (suc n) f g h =
      let e : rows n f ≡ rows n g = rows_same n f g (λ i k. h i (omega arith)) in
      rw (e, h n (omega arith))

  any_append : (p : A → Bool) (l m : List A) → any p (l ++ m) ≡ any p l || any p m
  unfolding any
  any_append p [] m = refl
  any_append p (a ∷ l) m = ap (λ b. p a || b) (any_append p l m) ∙ sym (or_assoc (p a) (any p l) (any p m))

  any_rows : (p : A → Bool) (n : ℕ) (f : ℕ → A) → any p (rows (suc n) f) ≡ any p (rows n f) || p (f n)
  unfolding rows any
  any_rows p n f = any_append p (rows n f) (f n ∷ []) ∙ ap (λ b. any p (rows n f) || b) (or_false (p (f n)))

  any_more : (p : A → Bool) (n k : ℕ) (f : ℕ → A) → any p (rows n f) ≡ true → any p (rows (n + k) f) ≡ true
  any_more p n zero f e = simp unary_clauses e
  any_more p n (suc k) f e = simp unary_clauses (any_rows p (n + k) f ∙ rw (any_more p n k f e))

  -- none so far, and not this one either
  pub any_none : (p : A → Bool) (i : ℕ) (f : ℕ → A) → any p (rows i f) ≡ false → p (f i) ≡ false → any p (rows (i + 1) f) ≡ false
  any_none p i f e h = rw add-one (any_rows p i f ∙ rw (e, h))

  -- one that passes
  pub any_hit : (p : A → Bool) (n i : ℕ) (f : ℕ → A) → i < n → p (f i) ≡ true → any p (rows n f) ≡ true
  any_hit p n i f h e =
      let g : suc i + (n - suc i) ≡ n = omega arith in
      rw (← g) (any_more p (suc i) (n - suc i) f (any_rows p i f ∙ rw e (or_true (any p (rows i f)))))

-- two tests that agree row by row agree on both tables
pub any_across : {A B : Type 0} (p : A → Bool) (q : B → Bool) (n : ℕ) (f : ℕ → A) (g : ℕ → B) → ((i : ℕ) → i < n → p (f i) ≡ q (g i)) → any p (rows n f) ≡ any q (rows n g)
unfolding rows any
any_across p q zero f g h = refl
any_across p q (suc n) f g h =
    let e : any p (rows n f) ≡ any q (rows n g) = any_across p q n f g (λ i k. h i (omega arith)) in
    any_rows p n f ∙ rw (e, h n (omega arith)) (sym (any_rows q n g))
