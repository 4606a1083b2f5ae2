-- A curve of a valid drawing is sound, and releasing its extent leaves the drawing valid. Assumes nothing.
use mathlib.Core.Path.{◌≡◌, refl, subst}
use mathlib.Core.Bool.{Bool, true, false, ◌&&◌, ◌||◌}
use mathlib.Core.List.{List, [], ◌∷◌}
use mathlib.Core.Option.{Option, some, none}
use Prim.Native.Nat.{ℕ}
use native.Mathlib.Omega.{arith}
use lib.Dec.{eqb}
use lib.Ieee.{Float}
use Rattle.sketch.specs.declared.Curve.{Curve}
use Rattle.sketch.specs.declared.CurveKind.{CurveKind}
use Rattle.sketch.specs.declared.CurveKind.TheVariants.{Line, Arc, Circle, Bezier, Conic}
use Rattle.sketch.specs.declared.Relation.{Relation}
use Rattle.sketch.specs.declared.Relation.TheVariants.{Coincident, PointOnCurve, Collinear, Equal, Length, Distance, Midpoint, ArcLength, ArcSweep}
use Rattle.sketch.specs.Lists.{ite, every}
use Rattle.sketch.specs.Drawing.{Drawing, Limits, curve_in, uses_of, points_of}
use Rattle.sketch.specs.Valid.{ok_curve, ok_relation, differ, distinct, sound_curve, fits, apart, sound_relation}
use Rattle.sketch.specs.Facts.{Every, Valid}
use Rattle.sketch.proofs.Bools.{and_left, and_right, both}
use Rattle.edit_plan.specs.Steps.{line_ends, is_some, drop_if, measured, release_relation, release_extent}
use Rattle.edit_plan.proofs.Every.{every_concat_map, every_at, length_concat_map, member_look}
use Rattle.edit_plan.proofs.Amounts.{released_one}
use Rattle.chains.proofs.Grown.{has, sort_on, sound_kind, Grown}

drop_every : (f : Relation → Bool) (b : Bool) (r : Relation) → f r ≡ true → Every f (drop_if b r)
drop_every f true r h = tt
drop_every f false r h = (h, tt)

module _ (m : Limits) (d : Drawing) (v : Valid m d) where
  module _ (t : ℕ) (c : Curve) (at : curve_in d.curves t ≡ some c) where
    -- the curve's own points are there, and differ
    pub curve_sound_lem : sound_curve (has d) c ≡ true
    curve_sound_lem = every_at (sound_curve (has d)) d.curves c (member_look d.curves t c at) v.curves_sound

    pub curve_ok : ok_curve c ≡ true
    curve_ok = every_at ok_curve d.curves c (member_look d.curves t c at) v.curves_ok

    ends_apart : (e : ℕ × ℕ) → line_ends c.kind ≡ some e → every (has d) (e.0 ∷ e.1 ∷ []) && differ e.0 e.1 ≡ true
    unfolding uses_of distinct
    ends_apart e q = go c.kind c.slots q curve_sound_lem
      where
        go : (k : CurveKind) (s : List ℕ) → line_ends k ≡ some e → sound_kind (has d) k s ≡ true → every (has d) (e.0 ∷ e.1 ∷ []) && differ e.0 e.1 ≡ true
        go (Line a b) s q h = let z : ◌≡◌ {A = ℕ × ℕ} (a, b) e = cc in subst (λ (y : ℕ × ℕ). every (has d) (y.0 ∷ y.1 ∷ []) && differ y.0 y.1 ≡ true) z h
        go (Arc o a b) s q h = let z : ◌≡◌ {A = ℕ} 0 1 = cc in absurd (omega arith)
        go (Circle o r) s q h = let z : ◌≡◌ {A = ℕ} 0 1 = cc in absurd (omega arith)
        go (Bezier n) s q h = let z : ◌≡◌ {A = ℕ} 0 1 = cc in absurd (omega arith)
        go (Conic a p b rho) s q h = let z : ◌≡◌ {A = ℕ} 0 1 = cc in absurd (omega arith)

    released_each : (f : Relation → Bool) (o : Option (ℕ × ℕ)) → ((e : ℕ × ℕ) (l : ℕ) (x : Float) → o ≡ some e → f (Length l x) ≡ true → f (Distance e.0 e.1 x) ≡ true) → (r : Relation) → f r ≡ true → Every f (release_relation t o r)
    unfolding release_relation measured
    released_each f o g (Coincident p q) h = (h, tt)
    released_each f o g (PointOnCurve p q) h = (h, tt)
    released_each f o g (Collinear a b) h = (h, tt)
    released_each f o g (Equal a b) h = drop_every f (is_some o && (eqb a t || eqb b t)) (Equal a b) h
    released_each f o g (Length l x) h = go (eqb l t) o g
      where
        go : (b : Bool) (o : Option (ℕ × ℕ)) → ((e : ℕ × ℕ) (l : ℕ) (x : Float) → o ≡ some e → f (Length l x) ≡ true → f (Distance e.0 e.1 x) ≡ true) → Every f (ite b (measured o x) (Length l x ∷ []))
        go true none g = tt
        go true (some e) g = (g e l x refl h, tt)
        go false o g = (h, tt)
    released_each f o g (Distance p q x) h = (h, tt)
    released_each f o g (Midpoint p l) h = drop_every f (eqb l t) (Midpoint p l) h
    released_each f o g (ArcLength a x) h = drop_every f (eqb a t) (ArcLength a x) h
    released_each f o g (ArcSweep a x) h = drop_every f (eqb a t) (ArcSweep a x) h

    as_distance : (e : ℕ × ℕ) (l : ℕ) (x : Float) → line_ends c.kind ≡ some e → sound_relation (has d) (sort_on d) (Length l x) ≡ true → sound_relation (has d) (sort_on d) (Distance e.0 e.1 x) ≡ true
    unfolding points_of fits apart
    as_distance e l x q h =
        let u = ends_apart e q in
        both (every (has d) (e.0 ∷ e.1 ∷ []) && true) (differ e.0 e.1)
        (both (every (has d) (e.0 ∷ e.1 ∷ [])) true (and_left (every (has d) (e.0 ∷ e.1 ∷ [])) (differ e.0 e.1) u) refl)
        (and_right (every (has d) (e.0 ∷ e.1 ∷ [])) (differ e.0 e.1) u)

    pub grown_release : Grown d (release_extent t c.kind d)
    grown_release = record { points = λ p h. h; sorts = λ i h. refl; next = omega arith }

    pub valid_release : Valid m (release_extent t c.kind d)
    unfolding ok_relation
    valid_release =
        record {
          points_fit = v.points_fit;
          curves_fit = v.curves_fit;
          relations_fit = omega (arith, v.relations_fit, length_concat_map (release_relation t (line_ends c.kind)) d.relations (released_one t (line_ends c.kind)));
          next_low = v.next_low;
          next_high = v.next_high;
          points_rise = v.points_rise;
          curves_rise = v.curves_rise;
          points_ok = v.points_ok;
          curves_ok = v.curves_ok;
          relations_ok = every_concat_map ok_relation ok_relation (release_relation t (line_ends c.kind)) d.relations (released_each ok_relation (line_ends c.kind) (λ e l x q h. h)) v.relations_ok;
          curves_sound = v.curves_sound;
          relations_sound =
              every_concat_map (sound_relation (has d) (sort_on d)) (sound_relation (has d) (sort_on d)) (release_relation t (line_ends c.kind)) d.relations
              (released_each (sound_relation (has d) (sort_on d)) (line_ends c.kind) as_distance) v.relations_sound;
        }
