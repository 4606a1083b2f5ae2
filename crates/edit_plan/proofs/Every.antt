-- Lists: what holds of every entry, ids that rise, membership. Assumes nothing.
use mathlib.Core.Path.{◌≡◌, refl, sym, ap, ◌∙◌}
use mathlib.Core.Bool.{Bool, true, false, ◌||◌}
use mathlib.Core.List.Memᴰ
use mathlib.Core.List.{List, [], ◌∷◌, ◌++◌, map, Memᴰ}
use mathlib.Core.Option.{some}
use mathlib.Core.Logic.{⊎_elim}
use Prim.Native.Nat.{ℕ, suc, ◌≤◌, ◌<◌}
use native.Mathlib.Omega.{arith}
use lib.ListN.{length, length-append}
use lib.Dec.{eqb}
use borrow.Author.Tests.{eq-eqb, ne_eqb, eqb-true, eqb-false, not-true}
use Rattle.sketch.specs.declared.Curve.{Curve}
use Rattle.sketch.specs.Lists.{ite, every, keep, concat_map}
use Rattle.sketch.specs.Lookup.{among}
use Rattle.sketch.specs.Drawing.{curve_ids, curve_in}
use Rattle.sketch.specs.Valid.{differ}
use Rattle.sketch.specs.Facts.{Every, Rising}
use Rattle.sketch.proofs.Bools.{never, and_left, and_right, both}
use Rattle.edit_plan.specs.Counts.{occurrences}

-- ---- Bool

pub or_cases : {A : Type 0} (a b : Bool) → a || b ≡ true → (a ≡ true → A) → (b ≡ true → A) → A
or_cases true b h f g = f refl
or_cases false b h f g = g h

pub or_left : (a b : Bool) → a ≡ true → a || b ≡ true
or_left true b h = refl
or_left false b h = never h

pub or_right : (a b : Bool) → b ≡ true → a || b ≡ true
or_right true b h = refl
or_right false b h = h

pub differ_is : (a b : ℕ) → differ a b ≡ true → a ≡ b → ⊥
differ_is a b h = eqb-false a b (not-true (eqb a b) h)

pub is_differ : (a b : ℕ) → (a ≡ b → ⊥) → differ a b ≡ true
is_differ a b h = rw (ne_eqb a b h)

-- ---- Every

module _ {A : Type 0} where
  pub every_append : (f : A → Bool) (xs ys : List A) → Every f xs → Every f ys → Every f (xs ++ ys)
  every_append f [] ys h k = k
  every_append f (x ∷ xs) ys h k = (h.0, every_append f xs ys h.1 k)

  pub every_as : (f g : A → Bool) (l : List A) → ((a : A) → f a ≡ true → g a ≡ true) → Every f l → Every g l
  every_as f g [] k h = tt
  every_as f g (a ∷ l) k h = (k a h.0, every_as f g l k h.1)

  pub every_map : (f g : A → Bool) (m : A → A) (l : List A) → ((a : A) → Memᴰ a l → f a ≡ true → g (m a) ≡ true) → Every f l → Every g (map m l)
  every_map f g m [] k h = tt
  every_map f g m (a ∷ l) k h = (k a (Memᴰ.head refl) h.0, every_map f g m l (λ b q. k b (Memᴰ.tail q)) h.1)

  pub every_keep : (f g p : A → Bool) (l : List A) → ((a : A) → Memᴰ a (keep p l) → p a ≡ true → f a ≡ true → g a ≡ true) → Every f l → Every g (keep p l)
  every_keep f g p [] k h = tt
  every_keep f g p (a ∷ l) k h = go (p a) refl k (every_keep f g p l)
    where
      go : (b : Bool) → p a ≡ b → ((x : A) → Memᴰ x (ite b (a ∷ keep p l) (keep p l)) → p x ≡ true → f x ≡ true → g x ≡ true) → (((x : A) → Memᴰ x (keep p l) → p x ≡ true → f x ≡ true → g x ≡ true) → Every f l → Every g (keep p l)) → Every g (ite b (a ∷ keep p l) (keep p l))
      go true q k ih = (k a (Memᴰ.head refl) q h.0, ih (λ x m. k x (Memᴰ.tail m)) h.1)
      go false q k ih = ih k h.1

  pub every_concat_map : (f g : A → Bool) (s : A → List A) (l : List A) → ((a : A) → f a ≡ true → Every g (s a)) → Every f l → Every g (concat_map s l)
  every_concat_map f g s [] k h = tt
  every_concat_map f g s (a ∷ l) k h = every_append g (s a) (concat_map s l) (k a h.0) (every_concat_map f g s l k h.1)

  pub every_at : (f : A → Bool) (l : List A) (a : A) → Memᴰ a l → Every f l → f a ≡ true
  every_at f [] a m h = absurd (Memᴰ.not-nil m)
  every_at f (x ∷ l) a m h = ⊎_elim (λ e. ap f e ∙ h.0) (λ q. every_at f l a q h.1) (Memᴰ.cases_cons m)

  pub length_concat_map : (s : A → List A) (l : List A) → ((a : A) → length (s a) ≤ 1) → length (concat_map s l) ≤ length l
  length_concat_map s [] k = omega arith
  length_concat_map s (a ∷ l) k = simp length-append (omega (arith, k a, length_concat_map s l k))

  pub length_keep : (p : A → Bool) (l : List A) → length (keep p l) ≤ length l
  length_keep p [] = omega arith
  length_keep p (a ∷ l) = go (p a) (length_keep p l)
    where
      go : (b : Bool) → length (keep p l) ≤ length l → length (ite b (a ∷ keep p l) (keep p l)) ≤ suc (length l)
      go true ih = omega arith
      go false ih = omega arith

-- ---- among

pub among_same : (i : ℕ) (l : List ℕ) → among i (i ∷ l) ≡ true
among_same i l = rw (eq-eqb i i refl)

pub among_dropped : (f : ℕ → Bool) (i : ℕ) (l : List ℕ) → f i ≡ false → among i (keep f l) ≡ false
among_dropped f i [] h = refl
among_dropped f i (j ∷ l) h = go (f j) refl (among_dropped f i l h)
  where
    go : (b : Bool) → f j ≡ b → among i (keep f l) ≡ false → among i (ite b (j ∷ keep f l) (keep f l)) ≡ false
    go true q ih = rw (ne_eqb i j (λ e. never (sym h ∙ ap f e ∙ q))) ih
    go false q ih = ih

pub among_left : (i : ℕ) (xs ys : List ℕ) → among i xs ≡ true → among i (xs ++ ys) ≡ true
among_left i [] ys h = never h
among_left i (x ∷ xs) ys h = or_cases (eqb i x) (among i xs) h (λ q. or_left (eqb i x) _ q) (λ q. or_right (eqb i x) _ (among_left i xs ys q))

pub among_right : (i : ℕ) (xs ys : List ℕ) → among i ys ≡ true → among i (xs ++ ys) ≡ true
among_right i [] ys h = h
among_right i (x ∷ xs) ys h = or_right (eqb i x) _ (among_right i xs ys h)

pub every_imp : (f g : ℕ → Bool) (l : List ℕ) → ((i : ℕ) → among i l ≡ true → f i ≡ true → g i ≡ true) → every f l ≡ true → every g l ≡ true
every_imp f g [] k h = h
every_imp f g (i ∷ l) k h =
    both (g i) (every g l) (k i (among_same i l) (and_left (f i) (every f l) h))
    (every_imp f g l (λ j q. k j (or_right (eqb j i) _ q)) (and_right (f i) (every f l) h))

pub every_in : (f : ℕ → Bool) (l : List ℕ) (i : ℕ) → every f l ≡ true → among i l ≡ true → f i ≡ true
every_in f [] i h m = never m
every_in f (j ∷ l) i h m =
    or_cases (eqb i j) (among i l) m (λ q. ap f (eqb-true i j q) ∙ and_left (f j) (every f l) h) (λ q. every_in f l i (and_right (f j) (every f l) h) q)

-- ---- rising ids

pub rising_more : (n n' b : ℕ) (l : List ℕ) → n ≤ n' → Rising n b l → Rising n' b l
rising_more n n' b [] g h = tt
rising_more n n' b (i ∷ l) g h = (h.0, omega arith, rising_more n n' i l g h.2)

pub rising_end : (n b : ℕ) (l : List ℕ) → b < n → Rising n b l → Rising (suc n) b (l ++ (n ∷ []))
rising_end n b [] g h = (g, omega arith, tt)
rising_end n b (i ∷ l) g h = (h.0, omega arith, rising_end n i l h.1 h.2)

pub rising_from : (n b b' : ℕ) (l : List ℕ) → b' ≤ b → Rising n b l → Rising n b' l
rising_from n b b' [] g h = tt
rising_from n b b' (i ∷ l) g h = (omega arith, h.1, h.2)

module _ {A : Type 0} (id : A → ℕ) where
  pub rising_keep : (p : A → Bool) (n b : ℕ) (l : List A) → Rising n b (map id l) → Rising n b (map id (keep p l))
  rising_keep p n b [] h = tt
  rising_keep p n b (a ∷ l) h = go (p a) (rising_keep p n (id a) l h.2)
    where
      go : (u : Bool) → Rising n (id a) (map id (keep p l)) → Rising n b (map id (ite u (a ∷ keep p l) (keep p l)))
      go true ih = (h.0, h.1, ih)
      go false ih = rising_from n (id a) b (map id (keep p l)) (omega arith) ih

pub rising_low : (n b i : ℕ) (l : List ℕ) → Rising n b l → i ≤ b → occurrences i l ≡ 0
rising_low n b i [] h g = refl
rising_low n b i (x ∷ l) h g = rw (ne_eqb i x (λ e. omega arith)) (omega (arith, rising_low n x i l h.2 (omega arith)))

pub rising_high : (n b i : ℕ) (l : List ℕ) → Rising n b l → n ≤ i → occurrences i l ≡ 0
rising_high n b i [] h g = refl
rising_high n b i (x ∷ l) h g = rw (ne_eqb i x (λ e. omega arith)) (omega (arith, rising_high n x i l h.2 g))

pub rising_among : (n b i : ℕ) (l : List ℕ) → Rising n b l → among i l ≡ true → (b < i) × (i < n)
rising_among n b i [] h m = never m
rising_among n b i (x ∷ l) h m =
    or_cases (eqb i x) (among i l) m (λ q. let e = eqb-true i x q in (omega arith, omega arith)) (λ q. let k = rising_among n x i l h.2 q in (omega arith, omega arith))

-- the curve in the table is the one that a look-up finds
pub look_member : (n b : ℕ) (cs : List Curve) (c : Curve) → Rising n b (curve_ids cs) → Memᴰ c cs → (curve_in cs c.id ≡ some c) × (b < c.id)
unfolding curve_in
look_member n b [] c h m = absurd (Memᴰ.not-nil m)
look_member n b (x ∷ cs) c h m = ⊎_elim first (λ q. later (look_member n x.id cs c h.2 q)) (Memᴰ.cases_cons m)
  where
    first : c ≡ x → (ite (eqb c.id x.id) (some x) (curve_in cs c.id) ≡ some c) × (b < c.id)
    first e = (rw (eq-eqb c.id x.id (ap (λ (y : Curve). y.id) e)) (ap some (sym e)), omega (arith, h.0, ap (λ (y : Curve). y.id) e))

    later : (curve_in cs c.id ≡ some c) × (x.id < c.id) → (ite (eqb c.id x.id) (some x) (curve_in cs c.id) ≡ some c) × (b < c.id)
    later k = (rw (ne_eqb c.id x.id (λ e. omega arith)) k.0, omega arith)

pub member_look : (cs : List Curve) (i : ℕ) (c : Curve) → curve_in cs i ≡ some c → Memᴰ c cs
unfolding curve_in
member_look [] i c e = let z : ◌≡◌ {A = ℕ} 0 1 = cc in absurd (omega arith)
member_look (x ∷ cs) i c e = go (eqb i x.id) e (member_look cs i c)
  where
    go : (u : Bool) → ite u (some x) (curve_in cs i) ≡ some c → (curve_in cs i ≡ some c → Memᴰ c cs) → Memᴰ c (x ∷ cs)
    go true e ih = let p : c ≡ x = cc in Memᴰ.head p
    go false e ih = Memᴰ.tail (ih e)

pub rising_look : {n : ℕ} (cs : List Curve) (b t : ℕ) (c : Curve) → Rising n b (curve_ids cs) → curve_in cs t ≡ some c → t < n
unfolding curve_in
rising_look [] b t c h e = let z : ◌≡◌ {A = ℕ} 0 1 = cc in absurd (omega arith)
rising_look {n} (x ∷ cs) b t c h e = go (eqb t x.id) refl e (rising_look cs x.id t c h.2)
  where
    go : (u : Bool) → eqb t x.id ≡ u → ite u (some x) (curve_in cs t) ≡ some c → (curve_in cs t ≡ some c → t < n) → t < n
    go true q e ih = omega (arith, eqb-true t x.id q, h.1)
    go false q e ih = ih e
