-- Plumbing: choices, tests over lists, and rules of which the first broken one counts.
use Rattle.std.specs.Prelude.{ℕ, Bool, true, false, ◌&&◌, List, [], ◌∷◌, ◌++◌}

abbrev pub ite : {A : Type 0} → Bool → A → A → A
ite true a b = a
ite false a b = b

abbrev pub every : {A : Type 0} → (A → Bool) → List A → Bool
every f [] = true
every f (a ∷ l) = f a && every f l

abbrev pub keep : {A : Type 0} → (A → Bool) → List A → List A
keep f [] = []
keep f (a ∷ l) = ite (f a) (a ∷ keep f l) (keep f l)

abbrev pub concat_map : {A B : Type 0} → (A → List B) → List A → List B
concat_map f [] = []
concat_map f (a ∷ l) = f a ++ concat_map f l

-- the number of the rule where it is broken, else what the later rules give; 0 stands for none broken
unfoldable pub guard_number : Bool → ℕ → ℕ → ℕ
guard_number true n rest = rest
guard_number false n rest = n
