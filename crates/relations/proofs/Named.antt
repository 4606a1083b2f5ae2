-- Which points and curves a relation names, one law for each sort of it. Assumes nothing.
use mathlib.Core.Path.{◌≡◌, refl, ◌∙◌}
use mathlib.Core.Bool.{Bool, true, false, ◌||◌}
use Prim.Native.Nat.{ℕ}
use lib.Dec.{eqb}
use lib.Ieee.{Float}
use Rattle.sketch.specs.declared.Relation.{Relation}
use Rattle.sketch.specs.declared.Relation.TheVariants.{Coincident, PointOnCurve, Collinear, Equal, Length, Distance, Midpoint, ArcLength, ArcSweep}
use Rattle.sketch.specs.Drawing.{points_of}
use Rattle.edit_plan.specs.Tables.{curves_of}
use Rattle.relations.specs.Moves.{names}

or_none : (x : Bool) → x ≡ (x || false)
or_none true = refl
or_none false = refl

two_or_none : (x y : Bool) → (x || y) ≡ (x || (y || false))
two_or_none true y = refl
two_or_none false y = or_none y

either : (x y : Bool) → (x || y) ≡ ((x || false) || (y || false))
either true y = refl
either false y = or_none y

module _ (p c : ℕ) {r : Relation} where
  module _ {a b : ℕ} where
    pub names_coincident : r ≡ Coincident a b → (eqb p a || eqb p b) ≡ names p c r
    unfolding points_of curves_of
    names_coincident e = rw e (two_or_none (eqb p a) (eqb p b) ∙ or_none _)

    pub names_on_curve : r ≡ PointOnCurve a b → (eqb p a || eqb c b) ≡ names p c r
    unfolding points_of curves_of
    names_on_curve e = rw e (either (eqb p a) (eqb c b))

    pub names_collinear : r ≡ Collinear a b → (eqb c a || eqb c b) ≡ names p c r
    unfolding points_of curves_of
    names_collinear e = rw e (two_or_none (eqb c a) (eqb c b))

    pub names_equal : r ≡ Equal a b → (eqb c a || eqb c b) ≡ names p c r
    unfolding points_of curves_of
    names_equal e = rw e (two_or_none (eqb c a) (eqb c b))

    pub names_midpoint : r ≡ Midpoint a b → (eqb p a || eqb c b) ≡ names p c r
    unfolding points_of curves_of
    names_midpoint e = rw e (either (eqb p a) (eqb c b))

    pub names_distance : {v : Float} → r ≡ Distance a b v → (eqb p a || eqb p b) ≡ names p c r
    unfolding points_of curves_of
    names_distance e = rw e (two_or_none (eqb p a) (eqb p b) ∙ or_none _)

  module _ {a : ℕ} {v : Float} where
    pub names_length : r ≡ Length a v → eqb c a ≡ names p c r
    unfolding points_of curves_of
    names_length e = rw e (or_none (eqb c a))

    pub names_arc_length : r ≡ ArcLength a v → eqb c a ≡ names p c r
    unfolding points_of curves_of
    names_arc_length e = rw e (or_none (eqb c a))

    pub names_arc_sweep : r ≡ ArcSweep a v → eqb c a ≡ names p c r
    unfolding points_of curves_of
    names_arc_sweep e = rw e (or_none (eqb c a))
