-- A piece that was added and removed again leaves nothing: the removal of a curve that only this edit added. Assumes nothing.
use mathlib.Core.Path.{◌≡◌, refl, sym, ap, ◌∙◌}
use mathlib.Core.Bool.{Bool, true, false, not, ◌&&◌, ◌||◌}
use mathlib.Core.List.{List, [], ◌∷◌, ◌++◌, map, append-nil}
use mathlib.Core.Option.{Option, some, none}
use Prim.Native.Nat.{ℕ, ◌+◌}
use native.Mathlib.Omega.{arith}
use lib.Dec.{eqb}
use borrow.Author.Tests.{eq-eqb, ne_eqb, eqb-true}
use Rattle.sketch.specs.declared.Point.{Point}
use Rattle.sketch.specs.declared.Curve.{Curve}
use Rattle.sketch.specs.declared.CurveKind.{CurveKind}
use Rattle.sketch.specs.declared.Relation.{Relation}
use Rattle.sketch.specs.declared.Relation.TheVariants.{Coincident, PointOnCurve, Collinear, Equal, Length, Distance, Midpoint, ArcLength, ArcSweep}
use Rattle.sketch.specs.Lists.{ite, every, keep, concat_map}
use Rattle.sketch.specs.Lookup.{among}
use Rattle.sketch.specs.Drawing.{Drawing, curve_ids, curve_in, uses_of, points_of, no_slots}
use Rattle.sketch.specs.Facts.{Every, Rising}
use Rattle.sketch.proofs.Bools.{never}
use Rattle.edit_plan.specs.Counts.{occurrences}
use Rattle.edit_plan.specs.Tables.{new_curve, rekind, curves_of, uses, others, of_id, orphans, remove}
use Rattle.edit_plan.specs.Steps.{is_some, drop_if, measured, release_relation}
use Rattle.edit_plan.specs.Changes.{staying, unused_by}
use Rattle.edit_plan.proofs.Every.{every_append, rising_low}
use Rattle.edit_plan.proofs.Leaves.{among_append}
use Rattle.sketch.proofs.Lists.{keep_append}
use Rattle.edit_plan.proofs.Fresh.{unnamed}

-- ---- lists

-- two walks are one
pub keep_concat_map : {A B : Type 0} (f : B → Bool) (g : A → List B) (l : List A) → keep f (concat_map g l) ≡ concat_map (λ a. keep f (g a)) l
keep_concat_map f g [] = refl
keep_concat_map f g (a ∷ l) = keep_append f (g a) (concat_map g l) ∙ ap (λ t. keep f (g a) ++ t) (keep_concat_map f g l)

pub keep_every : {A : Type 0} (f : A → Bool) (l : List A) → Every f l → keep f l ≡ l
keep_every f [] h = refl
keep_every f (a ∷ l) h = rw h.0 (ap (λ t. a ∷ t) (keep_every f l h.1))

-- what is in use stays, whatever goes
pub in_use_stays : (cs : List Curve) (l : List ℕ) (p : ℕ) → among p (uses cs) ≡ true → staying (unused_by cs l) p ≡ true
in_use_stays cs [] p h = refl
in_use_stays cs (q ∷ l) p h = go (among q (uses cs)) refl (in_use_stays cs l p h)
  where
    go : (b : Bool) → among q (uses cs) ≡ b → staying (unused_by cs l) p ≡ true → staying (ite (not b) (q ∷ unused_by cs l) (unused_by cs l)) p ≡ true
    go true e ih = ih
    go false e ih = rw (ne_eqb p q (λ z. never (sym e ∙ ap (λ n. among n (uses cs)) (sym z) ∙ h))) ih

-- ---- a curve that is not there

module _ (g : ℕ) where
  pub others_none : (cs : List Curve) → occurrences g (curve_ids cs) ≡ 0 → others g cs ≡ cs
  others_none [] z = refl
  others_none (c ∷ cs) z = go (eqb g c.id) z (others_none cs)
    where
      go : (b : Bool) → ite b 1 0 + occurrences g (curve_ids cs) ≡ 0 → (occurrences g (curve_ids cs) ≡ 0 → others g cs ≡ cs) → ite (not b) (c ∷ others g cs) (others g cs) ≡ c ∷ cs
      go true z ih = absurd (omega arith)
      go false z ih = ap (λ t. c ∷ t) (ih (omega arith))

  of_none : (cs : List Curve) → occurrences g (curve_ids cs) ≡ 0 → of_id g cs ≡ []
  of_none [] z = refl
  of_none (c ∷ cs) z = go (eqb g c.id) z (of_none cs)
    where
      go : (b : Bool) → ite b 1 0 + occurrences g (curve_ids cs) ≡ 0 → (occurrences g (curve_ids cs) ≡ 0 → of_id g cs ≡ []) → ite b (c ∷ of_id g cs) (of_id g cs) ≡ []
      go true z ih = absurd (omega arith)
      go false z ih = ih (omega arith)

  pub rekind_none : (k : CurveKind) (cs : List Curve) → occurrences g (curve_ids cs) ≡ 0 → map (rekind g k) cs ≡ cs
  rekind_none k [] z = refl
  rekind_none k (c ∷ cs) z = go (eqb g c.id) refl z (rekind_none k cs)
    where
      go : (b : Bool) → eqb g c.id ≡ b → ite b 1 0 + occurrences g (curve_ids cs) ≡ 0 → (occurrences g (curve_ids cs) ≡ 0 → map (rekind g k) cs ≡ cs) → map (rekind g k) (c ∷ cs) ≡ c ∷ cs
      go true q z ih = absurd (omega arith)
      go false q z ih = rw q (ap (λ t. c ∷ t) (ih (omega arith)))

  module _ (k : CurveKind) (b : Bool) (xs ys : List Curve) (zx : occurrences g (curve_ids xs) ≡ 0) (zy : occurrences g (curve_ids ys) ≡ 0) where
    others_added : others g (xs ++ (new_curve g k b ∷ ys)) ≡ xs ++ ys
    others_added = keep_append (λ (c : Curve). not (eqb g c.id)) xs (new_curve g k b ∷ ys) ∙ rw (eq-eqb g g refl, others_none xs zx, others_none ys zy)

    of_added : of_id g (xs ++ (new_curve g k b ∷ ys)) ≡ new_curve g k b ∷ []
    of_added = keep_append (λ (c : Curve). eqb g c.id) xs (new_curve g k b ∷ ys) ∙ rw (eq-eqb g g refl, of_none xs zx, of_none ys zy)

    orphans_added : orphans g (xs ++ (new_curve g k b ∷ ys)) ≡ unused_by (xs ++ ys) (uses_of k no_slots)
    orphans_added = rw (others_added, of_added, append-nil)

    pub remove_added :
        (n : ℕ) (ps : List Point) (rs : List Relation)
        → let os = unused_by (xs ++ ys) (uses_of k no_slots) in
        remove g (record { next = n; points = ps; curves = xs ++ (new_curve g k b ∷ ys); relations = rs })
        ≡ record { next = n; points = keep (λ q. staying os q.id) ps; curves = xs ++ ys; relations = keep (λ r. unnamed g r && every (staying os) (points_of r)) rs }
    remove_added n ps rs =
        let cs = xs ++ (new_curve g k b ∷ ys) in
        let with_these : List ℕ → List Curve → Drawing = λ os l. record { next = n; points = keep (λ q. staying os q.id) ps; curves = l; relations = keep (λ r. unnamed g r && every (staying os) (points_of r)) rs } in
        ap (with_these (orphans g cs)) others_added ∙ ap (λ os. with_these os (xs ++ ys)) orphans_added

-- a kind set twice
pub rekind_twice : (t : ℕ) (k k' : CurveKind) (cs : List Curve) → map (rekind t k') (map (rekind t k) cs) ≡ map (rekind t k') cs
rekind_twice t k k' [] = refl
rekind_twice t k k' (c ∷ cs) = go (eqb t c.id) refl (rekind_twice t k k' cs)
  where
    go : (b : Bool) → eqb t c.id ≡ b → map (rekind t k') (map (rekind t k) cs) ≡ map (rekind t k') cs → map (rekind t k') (map (rekind t k) (c ∷ cs)) ≡ map (rekind t k') (c ∷ cs)
    go true q ih = rw q (ap (λ l. record { id = c.id; construction = c.construction; centerline = c.centerline; infinite = c.infinite; kind = k'; slots = c.slots } ∷ l) ih)
    go false q ih = rw q (ap (λ l. c ∷ l) ih)

-- ---- the one curve with an id

module _ (t : ℕ) (c : Curve) where
  -- what curves use once t has the kind k: what t uses then, and what the others do
  pub uses_rekind :
      (k : CurveKind) (n b p : ℕ) (cs : List Curve) → Rising n b (curve_ids cs) → curve_in cs t ≡ some c
      → among p (uses (map (rekind t k) cs)) ≡ (among p (uses_of k c.slots) || among p (uses (others t cs)))
  unfolding curve_in
  uses_rekind k n b p [] r e = let z : ◌≡◌ {A = ℕ} 0 1 = cc in absurd (omega arith)
  uses_rekind k n b p (x ∷ cs) r e = go (eqb t x.id) refl e (uses_rekind k n x.id p cs r.2)
    where
      swapped : (a b c : Bool) → (a || (b || c)) ≡ (b || (a || c))
      swapped true true c = refl
      swapped true false c = refl
      swapped false b c = refl

      go : (u : Bool) → eqb t x.id ≡ u → ite u (some x) (curve_in cs t) ≡ some c → (curve_in cs t ≡ some c → among p (uses (map (rekind t k) cs)) ≡ (among p (uses_of k c.slots) || among p (uses (others t cs)))) → among p (uses (map (rekind t k) (x ∷ cs))) ≡ (among p (uses_of k c.slots) || among p (uses (ite (not u) (x ∷ others t cs) (others t cs))))
      go true q e ih =
          let i : x ≡ c = cc in
          let z : occurrences t (curve_ids cs) ≡ 0 = rising_low n x.id t (curve_ids cs) r.2 (omega (arith, eqb-true t x.id q)) in
          rw (q, rekind_none t k cs z, others_none t cs z)
          (among_append p (uses_of k x.slots) (uses cs) ∙ ap (λ (y : Curve). among p (uses_of k y.slots) || among p (uses cs)) i)
      go false q e ih =
          let u = uses_of x.kind x.slots in
          rw q
          (among_append p u (uses (map (rekind t k) cs))
          ∙ ap (λ y. among p u || y) (ih e)
          ∙ swapped (among p u) (among p (uses_of k c.slots)) (among p (uses (others t cs)))
          ∙ ap (λ y. among p (uses_of k c.slots) || y) (sym (among_append p u (uses (others t cs)))))

  pub of_found : (n b : ℕ) (cs : List Curve) → Rising n b (curve_ids cs) → curve_in cs t ≡ some c → of_id t cs ≡ c ∷ []
  unfolding curve_in
  of_found n b [] r e = let z : ◌≡◌ {A = ℕ} 0 1 = cc in absurd (omega arith)
  of_found n b (x ∷ cs) r e = go (eqb t x.id) refl e (of_found n x.id cs r.2)
    where
      go : (u : Bool) → eqb t x.id ≡ u → ite u (some x) (curve_in cs t) ≡ some c → (curve_in cs t ≡ some c → of_id t cs ≡ c ∷ []) → ite u (x ∷ of_id t cs) (of_id t cs) ≡ c ∷ []
      go true q e ih =
          let i : x ≡ c = cc in
          let z : occurrences t (curve_ids cs) ≡ 0 = rising_low n x.id t (curve_ids cs) r.2 (omega (arith, eqb-true t x.id q)) in
          rw (of_none t cs z) (ap (λ y. y ∷ []) i)
      go false q e ih = ih e

-- ---- relations that don't name it

pub keep_unnamed : (g : ℕ) (f : Relation → Bool) (l : List Relation) → Every (unnamed g) l → keep (λ r. unnamed g r && f r) l ≡ keep f l
keep_unnamed g f [] h = refl
keep_unnamed g f (r ∷ l) h = rw (h.0, keep_unnamed g f l h.1)

dropped_unnamed : (g : ℕ) (b : Bool) (r : Relation) → unnamed g r ≡ true → Every (unnamed g) (drop_if b r)
dropped_unnamed g true r h = tt
dropped_unnamed g false r h = (h, tt)

released_unnamed : (g t : ℕ) (e : Option (ℕ × ℕ)) (r : Relation) → unnamed g r ≡ true → Every (unnamed g) (release_relation t e r)
unfolding release_relation measured curves_of
released_unnamed g t e (Coincident p q) h = (h, tt)
released_unnamed g t e (PointOnCurve p c) h = (h, tt)
released_unnamed g t e (Collinear a b) h = (h, tt)
released_unnamed g t e (Equal a b) h = dropped_unnamed g (is_some e && (eqb a t || eqb b t)) (Equal a b) h
released_unnamed g t e (Length l v) h = go (eqb l t) e
  where
    go : (b : Bool) (e : Option (ℕ × ℕ)) → Every (unnamed g) (ite b (measured e v) (Length l v ∷ []))
    go true none = tt
    go true (some e) = (refl, tt)
    go false e = (h, tt)
released_unnamed g t e (Distance p q v) h = (h, tt)
released_unnamed g t e (Midpoint p l) h = dropped_unnamed g (eqb l t) (Midpoint p l) h
released_unnamed g t e (ArcLength c v) h = dropped_unnamed g (eqb c t) (ArcLength c v) h
released_unnamed g t e (ArcSweep c v) h = dropped_unnamed g (eqb c t) (ArcSweep c v) h

pub freed_unnamed : (g t : ℕ) (e : Option (ℕ × ℕ)) (l : List Relation) → Every (unnamed g) l → Every (unnamed g) (concat_map (release_relation t e) l)
freed_unnamed g t e [] h = tt
freed_unnamed g t e (r ∷ l) h = every_append (unnamed g) (release_relation t e r) (concat_map (release_relation t e) l) (released_unnamed g t e r h.0) (freed_unnamed g t e l h.1)
