-- Tables of curves by id: what a look-up finds after a kind is set, a curve is added, a curve goes. And what holds of an outcome that is accepted. Assumes nothing.
use mathlib.Core.Path.{◌≡◌, refl, sym, ap, ◌∙◌, subst}
use mathlib.Core.Bool.{Bool, true, false, not}
use mathlib.Core.List.{List, [], ◌∷◌, ◌++◌, map}
use mathlib.Core.Option.{some, none}
use Prim.Native.Nat.{ℕ, ◌+◌, ◌<◌}
use native.Mathlib.Omega.{arith}
use lib.Dec.{eqb}
use borrow.Author.Tests.{eq-eqb, ne_eqb, eqb-true}
use Rattle.sketch.specs.declared.Curve.{Curve}
use Rattle.sketch.specs.declared.CurveKind.{CurveKind}
use Rattle.sketch.specs.Lists.{ite}
use Rattle.sketch.specs.Drawing.{curve_ids, curve_in}
use Rattle.edit_plan.specs.Counts.{occurrences}
use Rattle.edit_plan.specs.Outcome.{Outcome, refused, accepted, ◌then◌, guard}
use Rattle.edit_plan.specs.Tables.{rekind, others}

-- ---- how often an id is in a list

pub occ_append : (i : ℕ) (xs ys : List ℕ) → occurrences i (xs ++ ys) ≡ occurrences i xs + occurrences i ys
occ_append i [] ys = omega arith
occ_append i (x ∷ xs) ys = let h = occ_append i xs ys in omega arith

pub occ_same : (i : ℕ) (xs : List ℕ) → occurrences i (i ∷ xs) ≡ 1 + occurrences i xs
occ_same i xs = rw (eq-eqb i i refl)

pub occ_other : (i x : ℕ) (xs : List ℕ) → (i ≡ x → ⊥) → occurrences i (x ∷ xs) ≡ occurrences i xs
occ_other i x xs h = rw (ne_eqb i x h) (omega arith)

-- ---- what holds of an outcome where it is not refused

abbrev pub Holds : {D A : Type 0} → (D → A → Type 0) → Outcome D A → Type 0
Holds P (refused n) = Unit {0}
Holds P (accepted d a) = P d a

pub holds_then : {D A B : Type 0} (P : D → A → Type 0) (Q : D → B → Type 0) (o : Outcome D A) (f : D → A → Outcome D B) → Holds P o → ((d : D) (a : A) → P d a → Holds Q (f d a)) → Holds Q (o then f)
holds_then P Q (refused n) f h k = tt
holds_then P Q (accepted d a) f h k = k d a h

pub holds_map : {D A : Type 0} (P Q : D → A → Type 0) (o : Outcome D A) → ((d : D) (a : A) → P d a → Q d a) → Holds P o → Holds Q o
holds_map P Q (refused n) f h = tt
holds_map P Q (accepted d a) f h = f d a h

pub holds_guard : {D A : Type 0} (P : D → A → Type 0) (b : Bool) (n : ℕ) (o : Outcome D A) → (b ≡ true → Holds P o) → Holds P (guard b n o)
unfolding guard
holds_guard P true n o h = h refl
holds_guard P false n o h = tt

pub holds_at : {D A : Type 0} (P : D → A → Type 0) (o : Outcome D A) (d : D) (a : A) → Holds P o → o ≡ accepted d a → P d a
holds_at P o d a h e = subst (Holds P) e h

-- ---- look-ups

pub look_none : (cs : List Curve) (i : ℕ) → occurrences i (curve_ids cs) ≡ 0 → curve_in cs i ≡ none
unfolding curve_in
look_none [] i z = refl
look_none (c ∷ cs) i z = go (eqb i c.id) z (look_none cs i)
  where
    go : (b : Bool) → ite b 1 0 + occurrences i (curve_ids cs) ≡ 0 → (occurrences i (curve_ids cs) ≡ 0 → curve_in cs i ≡ none) → ite b (some c) (curve_in cs i) ≡ none
    go true z ih = absurd (omega arith)
    go false z ih = ih (omega arith)

pub look_some : (cs : List Curve) (i : ℕ) (c : Curve) → curve_in cs i ≡ some c → (0 < occurrences i (curve_ids cs)) × (c.id ≡ i)
unfolding curve_in
look_some [] i c e = let z : ◌≡◌ {A = ℕ} 0 1 = cc in absurd (omega arith)
look_some (x ∷ cs) i c e = go (eqb i x.id) refl e (look_some cs i c)
  where
    go : (b : Bool) → eqb i x.id ≡ b → ite b (some x) (curve_in cs i) ≡ some c → (curve_in cs i ≡ some c → (0 < occurrences i (curve_ids cs)) × (c.id ≡ i)) → (0 < ite b 1 0 + occurrences i (curve_ids cs)) × (c.id ≡ i)
    go true q e ih = let p : x ≡ c = cc in (omega arith, ap (λ (y : Curve). y.id) (sym p) ∙ sym (eqb-true i x.id q))
    go false q e ih = let h = ih e in (omega arith, h.1)

pub look_left : (xs ys : List Curve) (i : ℕ) → occurrences i (curve_ids ys) ≡ 0 → curve_in (xs ++ ys) i ≡ curve_in xs i
unfolding curve_in
look_left [] ys i z = look_none ys i z
look_left (x ∷ xs) ys i z = ap (ite (eqb i x.id) (some x)) (look_left xs ys i z)

pub look_right : (xs ys : List Curve) (i : ℕ) → occurrences i (curve_ids xs) ≡ 0 → curve_in (xs ++ ys) i ≡ curve_in ys i
unfolding curve_in
look_right [] ys i z = refl
look_right (x ∷ xs) ys i z = go (eqb i x.id) z (look_right xs ys i)
  where
    go : (b : Bool) → ite b 1 0 + occurrences i (curve_ids xs) ≡ 0 → (occurrences i (curve_ids xs) ≡ 0 → curve_in (xs ++ ys) i ≡ curve_in ys i) → ite b (some x) (curve_in (xs ++ ys) i) ≡ curve_in ys i
    go true z ih = absurd (omega arith)
    go false z ih = ih (omega arith)

pub ids_append : (xs ys : List Curve) → curve_ids (xs ++ ys) ≡ curve_ids xs ++ curve_ids ys
ids_append [] ys = refl
ids_append (x ∷ xs) ys = ap (λ (r : List ℕ). x.id ∷ r) (ids_append xs ys)

pub occ_ids : (i : ℕ) (xs ys : List Curve) → occurrences i (curve_ids (xs ++ ys)) ≡ occurrences i (curve_ids xs) + occurrences i (curve_ids ys)
occ_ids i xs ys = ap (occurrences i) (ids_append xs ys) ∙ occ_append i (curve_ids xs) (curve_ids ys)

-- ---- a kind set

pub ids_set : (t : ℕ) (k : CurveKind) (cs : List Curve) → curve_ids (map (rekind t k) cs) ≡ curve_ids cs
ids_set t k [] = refl
ids_set t k (c ∷ cs) = ap (λ (r : List ℕ). c.id ∷ r) (ids_set t k cs)

rekind_other : (t : ℕ) (k : CurveKind) (c : Curve) → (t ≡ c.id → ⊥) → rekind t k c ≡ c
rekind_other t k c ne = rw (ne_eqb t c.id ne)

pub rekind_same : (t : ℕ) (k : CurveKind) (c : Curve) → c.id ≡ t → (rekind t k c).kind ≡ k
rekind_same t k c e = rw (eq-eqb t c.id (sym e))

pub look_set : (t : ℕ) (k : CurveKind) (cs : List Curve) (i : ℕ) (c : Curve) → curve_in cs i ≡ some c → curve_in (map (rekind t k) cs) i ≡ some (rekind t k c)
unfolding curve_in
look_set t k [] i c e = let z : ◌≡◌ {A = ℕ} 0 1 = cc in absurd (omega arith)
look_set t k (x ∷ cs) i c e = go (eqb i x.id) e (look_set t k cs i c)
  where
    go : (b : Bool) → ite b (some x) (curve_in cs i) ≡ some c → (curve_in cs i ≡ some c → curve_in (map (rekind t k) cs) i ≡ some (rekind t k c)) → ite b (some (rekind t k x)) (curve_in (map (rekind t k) cs) i) ≡ some (rekind t k c)
    go true e ih = let p : x ≡ c = cc in ap (λ (y : Curve). some (rekind t k y)) p
    go false e ih = ih e

pub look_set_other : (t : ℕ) (k : CurveKind) (cs : List Curve) (i : ℕ) → (i ≡ t → ⊥) → curve_in (map (rekind t k) cs) i ≡ curve_in cs i
unfolding curve_in
look_set_other t k [] i ne = refl
look_set_other t k (x ∷ cs) i ne = go (eqb i x.id) refl (look_set_other t k cs i ne)
  where
    go : (b : Bool) → eqb i x.id ≡ b → curve_in (map (rekind t k) cs) i ≡ curve_in cs i → ite b (some (rekind t k x)) (curve_in (map (rekind t k) cs) i) ≡ ite b (some x) (curve_in cs i)
    go true q ih = ap some (rekind_other t k x (λ e. ne (eqb-true i x.id q ∙ sym e)))
    go false q ih = ih

-- ---- a curve gone

pub occ_gone : (g : ℕ) (cs : List Curve) → occurrences g (curve_ids (others g cs)) ≡ 0
occ_gone g [] = refl
occ_gone g (c ∷ cs) = go (eqb g c.id) refl (occ_gone g cs)
  where
    go : (b : Bool) → eqb g c.id ≡ b → occurrences g (curve_ids (others g cs)) ≡ 0 → occurrences g (curve_ids (ite (not b) (c ∷ others g cs) (others g cs))) ≡ 0
    go true q ih = ih
    go false q ih = rw q (omega arith)

pub occ_stays : (g i : ℕ) (cs : List Curve) → (i ≡ g → ⊥) → occurrences i (curve_ids (others g cs)) ≡ occurrences i (curve_ids cs)
occ_stays g i [] ne = refl
occ_stays g i (c ∷ cs) ne = go (eqb g c.id) refl (occ_stays g i cs ne)
  where
    go : (b : Bool) → eqb g c.id ≡ b → occurrences i (curve_ids (others g cs)) ≡ occurrences i (curve_ids cs) → occurrences i (curve_ids (ite (not b) (c ∷ others g cs) (others g cs))) ≡ ite (eqb i c.id) 1 0 + occurrences i (curve_ids cs)
    go true q ih = rw (ne_eqb i c.id (λ e. ne (e ∙ sym (eqb-true g c.id q)))) (omega arith)
    go false q ih = omega arith

pub look_stays : (g i : ℕ) (cs : List Curve) → (i ≡ g → ⊥) → curve_in (others g cs) i ≡ curve_in cs i
unfolding curve_in
look_stays g i [] ne = refl
look_stays g i (c ∷ cs) ne = go (eqb g c.id) refl (look_stays g i cs ne)
  where
    go : (b : Bool) → eqb g c.id ≡ b → curve_in (others g cs) i ≡ curve_in cs i → curve_in (ite (not b) (c ∷ others g cs) (others g cs)) i ≡ ite (eqb i c.id) (some c) (curve_in cs i)
    go true q ih = rw (ne_eqb i c.id (λ e. ne (e ∙ sym (eqb-true g c.id q)))) ih
    go false q ih = ap (ite (eqb i c.id) (some c)) ih
