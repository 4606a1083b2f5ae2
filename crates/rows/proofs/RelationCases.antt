-- What the rules of a relation come to for each sort of it.
use mathlib.Core.Path.{◌≡◌}
use mathlib.Core.Bool.{Bool, not, ◌&&◌, ◌||◌, and-true}
use Prim.Native.Nat.{ℕ}
use lib.Dec.{eqb, ltb}
use lib.Ieee.{Float}
use Rattle.sketch.specs.declared.Relation.{Relation}
use Rattle.sketch.specs.declared.Relation.TheVariants.{Coincident, PointOnCurve, Collinear, Equal, Length, Distance, Midpoint, ArcLength, ArcSweep}
use Rattle.sketch.specs.Drawing.{points_of}
use Rattle.sketch.specs.Valid.{fits, apart, sound_relation}

module _ (has : ℕ → Bool) (sort : ℕ → ℕ) (r : Relation) where
  module _ {p q : ℕ} {t u : Bool} where
    pub sound_coincident : r ≡ Coincident p q → t ≡ has p → u ≡ has q → (t && u && not (eqb p q)) ≡ sound_relation has sort r
    unfolding points_of fits apart
    sound_coincident e f g = simp (e, f, g, and-true)

  module _ {p c s : ℕ} {t : Bool} where
    pub sound_on_curve : r ≡ PointOnCurve p c → t ≡ has p → s ≡ sort c → (t && ltb 0 s) ≡ sound_relation has sort r
    unfolding points_of fits apart
    sound_on_curve e f g = simp (e, f, g, and-true)

  module _ {a b s t : ℕ} where
    pub sound_collinear : r ≡ Collinear a b → s ≡ sort a → t ≡ sort b → (eqb s 1 && eqb t 1 && not (eqb a b)) ≡ sound_relation has sort r
    unfolding points_of fits apart
    sound_collinear e f g = simp (e, f, g)

    pub sound_equal : r ≡ Equal a b → s ≡ sort a → t ≡ sort b → ((eqb s 1 && eqb t 1 || eqb s 2 && eqb t 2) && not (eqb a b)) ≡ sound_relation has sort r
    unfolding points_of fits apart
    sound_equal e f g = simp (e, f, g)

  module _ {l s : ℕ} {v : Float} where
    pub sound_length : r ≡ Length l v → s ≡ sort l → eqb s 1 ≡ sound_relation has sort r
    unfolding points_of fits apart
    sound_length e f = simp (e, f, and-true)

    pub sound_arc_length : r ≡ ArcLength l v → s ≡ sort l → eqb s 2 ≡ sound_relation has sort r
    unfolding points_of fits apart
    sound_arc_length e f = simp (e, f, and-true)

    pub sound_arc_sweep : r ≡ ArcSweep l v → s ≡ sort l → eqb s 2 ≡ sound_relation has sort r
    unfolding points_of fits apart
    sound_arc_sweep e f = simp (e, f, and-true)

  module _ {p q : ℕ} {v : Float} {t u : Bool} where
    pub sound_distance : r ≡ Distance p q v → t ≡ has p → u ≡ has q → (t && u && not (eqb p q)) ≡ sound_relation has sort r
    unfolding points_of fits apart
    sound_distance e f g = simp (e, f, g, and-true)

  module _ {p l s : ℕ} {t : Bool} where
    pub sound_midpoint : r ≡ Midpoint p l → t ≡ has p → s ≡ sort l → (t && eqb s 1) ≡ sound_relation has sort r
    unfolding points_of fits apart
    sound_midpoint e f g = simp (e, f, g, and-true)
