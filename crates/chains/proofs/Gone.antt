-- Removing a curve leaves a valid drawing. Assumes nothing.
use mathlib.Core.Path.{◌≡◌, refl, sym, ap, ◌∙◌, subst}
use mathlib.Core.Bool.{Bool, true, false, not, ◌&&◌, ◌||◌}
use mathlib.Core.List.Memᴰ
use mathlib.Core.List.{List, [], ◌∷◌, Memᴰ}
use mathlib.Core.Logic.{⊎_elim}
use Prim.Native.Nat.{ℕ}
use native.Mathlib.Omega.{arith}
use lib.Dec.{eqb}
use borrow.Author.Tests.{eqb-true, not-true}
use Rattle.sketch.specs.declared.Point.{Point}
use Rattle.sketch.specs.declared.Curve.{Curve}
use Rattle.sketch.specs.declared.Relation.{Relation}
use Rattle.sketch.specs.Lists.{ite, every, keep}
use Rattle.sketch.specs.Lookup.{among}
use Rattle.sketch.specs.Drawing.{Drawing, Limits, point_ids, uses_of, points_of}
use Rattle.sketch.specs.Valid.{ok_point, ok_curve, ok_relation, sort_at, sound_curve, sound_relation}
use Rattle.sketch.specs.Facts.{Valid}
use Rattle.sketch.proofs.Bools.{never, and_left, and_right}
use Rattle.edit_plan.specs.Tables.{curves_of, uses, others, of_id, stays, remove}
use Rattle.edit_plan.proofs.Tables.{look_stays}
use Rattle.edit_plan.proofs.Every.{or_right, every_keep, length_keep, among_dropped, among_left, among_right, every_in, rising_keep}
use Rattle.chains.proofs.Grown.{has, sort_on, relation_kept, curve_kept}

among_keep : (f : ℕ → Bool) (p : ℕ) (ps : List Point) → among p (point_ids ps) ≡ true → f p ≡ true → among p (point_ids (keep (λ q. f q.id) ps)) ≡ true
among_keep f p [] h k = h
among_keep f p (q ∷ ps) h k = go (f q.id) refl (eqb p q.id) refl h (λ u. among_keep f p ps u k)
  where
    go : (b : Bool) → f q.id ≡ b → (e : Bool) → eqb p q.id ≡ e → e || among p (point_ids ps) ≡ true → (among p (point_ids ps) ≡ true → among p (point_ids (keep (λ q. f q.id) ps)) ≡ true) → among p (point_ids (ite b (q ∷ keep (λ q. f q.id) ps) (keep (λ q. f q.id) ps))) ≡ true
    go true x true y h ih = rw y
    go true x false y h ih = or_right (eqb p q.id) _ (ih h)
    go false x true y h ih = never (sym x ∙ ap f (sym (eqb-true p q.id y)) ∙ k)
    go false x false y h ih = ih h

mem_uses : (p : ℕ) (cs : List Curve) (c : Curve) → Memᴰ c cs → among p (uses_of c.kind c.slots) ≡ true → among p (uses cs) ≡ true
mem_uses p [] c q h = absurd (Memᴰ.not-nil q)
mem_uses p (x ∷ cs) c q h =
    ⊎_elim (λ e. among_left p (uses_of x.kind x.slots) (uses cs) (subst (λ (y : Curve). among p (uses_of y.kind y.slots) ≡ true) e h))
    (λ r. among_right p (uses_of x.kind x.slots) (uses cs) (mem_uses p cs c r h)) (Memᴰ.cases_cons q)

module _ (m : Limits) (d : Drawing) (v : Valid m d) where
  module _ (g : ℕ) where
    kept_has : (p : ℕ) → has d p ≡ true → stays g d.curves p ≡ true → has (remove g d) p ≡ true
    kept_has p h k = among_keep (stays g d.curves) p d.points h k

    used_stays : (p : ℕ) → among p (uses (others g d.curves)) ≡ true → stays g d.curves p ≡ true
    used_stays p h = ap not (among_dropped (λ i. not (among i (uses (others g d.curves)))) p (uses (of_id g d.curves)) (ap not h))

    relation_stays : (r : Relation) → not (among g (curves_of r)) && every (stays g d.curves) (points_of r) ≡ true → sound_relation (has d) (sort_on d) r ≡ true → sound_relation (has (remove g d)) (sort_on (remove g d)) r ≡ true
    relation_stays r k h =
        let away = not-true (among g (curves_of r)) (and_left (not (among g (curves_of r))) (every (stays g d.curves) (points_of r)) k) in
        let all = and_right (not (among g (curves_of r))) (every (stays g d.curves) (points_of r)) k in
        relation_kept (has d) (has (remove g d)) (sort_on d) (sort_on (remove g d)) r
        (λ p q u. kept_has p u (every_in (stays g d.curves) (points_of r) p all q))
        (λ c q u. ap sort_at (look_stays g c d.curves (λ e. never (sym away ∙ ap (λ (i : ℕ). among i (curves_of r)) (sym e) ∙ q)))) h

    pub valid_remove : Valid m (remove g d)
    valid_remove =
        record {
          points_fit = omega (arith, v.points_fit, length_keep (λ (p : Point). stays g d.curves p.id) d.points);
          curves_fit = omega (arith, v.curves_fit, length_keep (λ (c : Curve). not (eqb g c.id)) d.curves);
          relations_fit = omega (arith, v.relations_fit, length_keep (λ (r : Relation). not (among g (curves_of r)) && every (stays g d.curves) (points_of r)) d.relations);
          next_low = v.next_low;
          next_high = v.next_high;
          points_rise = rising_keep (λ (p : Point). p.id) (λ p. stays g d.curves p.id) d.next 0 d.points v.points_rise;
          curves_rise = rising_keep (λ (c : Curve). c.id) (λ c. not (eqb g c.id)) d.next 0 d.curves v.curves_rise;
          points_ok = every_keep ok_point ok_point (λ p. stays g d.curves p.id) d.points (λ p q k h. h) v.points_ok;
          curves_ok = every_keep ok_curve ok_curve (λ c. not (eqb g c.id)) d.curves (λ c q k h. h) v.curves_ok;
          relations_ok = every_keep ok_relation ok_relation (λ r. not (among g (curves_of r)) && every (stays g d.curves) (points_of r)) d.relations (λ r q k h. h) v.relations_ok;
          curves_sound =
              every_keep (sound_curve (has d)) (sound_curve (has (remove g d))) (λ c. not (eqb g c.id)) d.curves
              (λ c q k h. curve_kept (has d) (has (remove g d)) c (λ p r u. kept_has p u (used_stays p (mem_uses p (others g d.curves) c q r))) h)
              v.curves_sound;
          relations_sound =
              every_keep (sound_relation (has d) (sort_on d)) (sound_relation (has (remove g d)) (sort_on (remove g d))) (λ r. not (among g (curves_of r)) && every (stays g d.curves) (points_of r)) d.relations
              (λ r q k h. relation_stays r k h) v.relations_sound;
        }
