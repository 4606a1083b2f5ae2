-- What a valid drawing gives: ids that are not below the next one are in no use. Assumes nothing.
use mathlib.Core.Path.{◌≡◌, refl, sym, ap, ◌∙◌}
use mathlib.Core.Bool.{Bool, true, false, not, ◌&&◌, ◌||◌}
use mathlib.Core.List.{List, [], ◌∷◌}
use Prim.Native.Nat.{ℕ, ◌≤◌, ◌<◌}
use lib.Dec.{eqb, ltb}
use borrow.Author.Tests.{ne_eqb}
use Rattle.sketch.specs.declared.Curve.{Curve}
use Rattle.sketch.specs.declared.Relation.{Relation}
use Rattle.sketch.specs.declared.Relation.TheVariants.{Coincident, PointOnCurve, Collinear, Equal, Length, Distance, Midpoint, ArcLength, ArcSweep}
use Rattle.sketch.specs.Lists.{ite, every}
use Rattle.sketch.specs.Lookup.{among}
use Rattle.sketch.specs.Drawing.{Drawing, Limits, point_ids, curve_ids, uses_of, points_of}
use Rattle.sketch.specs.Valid.{is_line_sort, is_round_sort, fits, apart, distinct, sound_curve, sound_relation, has_point, sort_at, sort_in}
use Rattle.sketch.specs.Facts.{Every, Valid}
use Rattle.sketch.proofs.Bools.{never, and_left, and_right}
use Rattle.edit_plan.specs.Counts.{occurrences}
use Rattle.edit_plan.specs.Tables.{curves_of, uses, others}
use Rattle.edit_plan.proofs.Every.{or_cases, every_as, every_in, rising_high, rising_among}
use Rattle.edit_plan.proofs.Tables.{look_none}
use Rattle.edit_plan.proofs.Leaves.{among_append}

-- a relation doesn't name the curve g
abbrev pub unnamed : ℕ → Relation → Bool
unnamed g r = not (among g (curves_of r))

-- a curve of which a sound relation asks something is not one that is missing
module _ (sort : ℕ → ℕ) (g : ℕ) (z : sort g ≡ 0) where
  other : (f : ℕ → Bool) (c : ℕ) → f 0 ≡ false → f (sort c) ≡ true → eqb g c ≡ false
  other f c n h = ne_eqb g c (λ e. never (sym n ∙ ap f (sym z) ∙ ap (λ i. f (sort i)) e ∙ h))

  one : (f : ℕ → Bool) (c : ℕ) → f 0 ≡ false → f (sort c) ≡ true → not (among g (c ∷ [])) ≡ true
  one f c n h = rw (other f c n h)

  two : (f f' : ℕ → Bool) (a b : ℕ) → f 0 ≡ false → f' 0 ≡ false → f (sort a) ≡ true → f' (sort b) ≡ true → not (among g (a ∷ b ∷ [])) ≡ true
  two f f' a b n n' h h' = rw (other f a n h, other f' b n' h')

  none_alike : (x y : Bool) → (x && false || y && false) ≡ false
  none_alike true true = refl
  none_alike true false = refl
  none_alike false true = refl
  none_alike false false = refl

  fits_unnamed : (r : Relation) → fits sort r ≡ true → unnamed g r ≡ true
  unfolding fits curves_of
  fits_unnamed (Coincident p q) h = refl
  fits_unnamed (PointOnCurve p c) h = one (λ s. ltb 0 s) c refl h
  fits_unnamed (Collinear a b) h = two is_line_sort is_line_sort a b refl refl (and_left _ (is_line_sort (sort b)) h) (and_right (is_line_sort (sort a)) _ h)
  fits_unnamed (Equal a b) h =
      two (λ s. is_line_sort s && is_line_sort (sort b) || is_round_sort s && is_round_sort (sort b)) (λ s. is_line_sort (sort a) && is_line_sort s || is_round_sort (sort a) && is_round_sort s) a b
      refl (none_alike (is_line_sort (sort a)) (is_round_sort (sort a))) h h
  fits_unnamed (Length l v) h = one is_line_sort l refl h
  fits_unnamed (Distance p q v) h = refl
  fits_unnamed (Midpoint p l) h = one is_line_sort l refl h
  fits_unnamed (ArcLength c v) h = one is_round_sort c refl h
  fits_unnamed (ArcSweep c v) h = one is_round_sort c refl h

-- what curves use is there
sound_uses : (has : ℕ → Bool) (t e : ℕ) (cs : List Curve) → Every (sound_curve has) cs → among e (uses (others t cs)) ≡ true → has e ≡ true
sound_uses has t e [] h m = never m
sound_uses has t e (c ∷ cs) h m = go (eqb t c.id) m (sound_uses has t e cs h.1)
  where
    own : every has (uses_of c.kind c.slots) ≡ true
    own = and_left (every has (uses_of c.kind c.slots)) (distinct c.kind) h.0

    go : (b : Bool) → among e (uses (ite (not b) (c ∷ others t cs) (others t cs))) ≡ true → (among e (uses (others t cs)) ≡ true → has e ≡ true) → has e ≡ true
    go true m ih = ih m
    go false m ih =
        or_cases (among e (uses_of c.kind c.slots)) (among e (uses (others t cs))) (sym (among_append e (uses_of c.kind c.slots) (uses (others t cs))) ∙ m)
        (λ q. every_in has (uses_of c.kind c.slots) e own q) ih

module _ {m : Limits} {d : Drawing} (v : Valid m d) where
  pub new_curve_lem : (g : ℕ) → d.next ≤ g → occurrences g (curve_ids d.curves) ≡ 0
  new_curve_lem g h = rising_high d.next 0 g (curve_ids d.curves) v.curves_rise h

  pub new_unnamed : (g : ℕ) → d.next ≤ g → Every (unnamed g) d.relations
  unfolding sort_at
  new_unnamed g h =
      every_as (sound_relation (has_point d.points) (sort_in d.curves)) (unnamed g) d.relations
      (λ r q.
      fits_unnamed (sort_in d.curves) g (ap sort_at (look_none d.curves g (new_curve_lem g h))) r
      (and_right (every (has_point d.points) (points_of r)) (fits (sort_in d.curves) r) (and_left (every (has_point d.points) (points_of r) && fits (sort_in d.curves) r) (apart r) q)))
      v.relations_sound

  pub point_old : (t e : ℕ) → among e (uses (others t d.curves)) ≡ true → e < d.next
  point_old t e h =
      let p = sound_uses (has_point d.points) t e d.curves v.curves_sound h in
      (rising_among d.next 0 e (point_ids d.points) v.points_rise p).1

  pub curve_old : (c : ℕ) → among c (curve_ids d.curves) ≡ true → c < d.next
  curve_old c h = (rising_among d.next 0 c (curve_ids d.curves) v.curves_rise h).1
