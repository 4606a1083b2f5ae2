-- A move leaves every relation as it is that names neither the point nor the one curve that uses it: where all were met before, the first that
-- is not met is the first of those that name them. Assumes nothing.
use mathlib.Core.Path.{◌≡◌, refl, sym, ap, ◌∙◌}
use mathlib.Core.Bool.{Bool, true, false, not, ◌||◌}
use mathlib.Core.List.{List, [], ◌∷◌, ◌++◌, map}
use mathlib.Core.Option.{some}
use Prim.Native.Nat.{ℕ, suc}
use lib.Dec.{eqb}
use borrow.Author.Tests.{eqb-true, eqb-false}
use Rattle.geom.specs.declared.Vec2.{Vec2}
use Rattle.sketch.specs.Lists.{ite, every}
use Rattle.sketch.specs.Lookup.{among}
use Rattle.sketch.specs.Drawing.{Drawing, curve_in, uses_of, points_of}
use Rattle.sketch.specs.declared.Point.{Point}
use Rattle.sketch.specs.declared.Curve.{Curve}
use Rattle.sketch.specs.declared.CurveKind.{CurveKind}
use Rattle.sketch.specs.declared.CurveKind.TheVariants.{Line, Arc, Circle, Bezier, Conic}
use Rattle.sketch.specs.declared.Relation.{Relation}
use Rattle.sketch.specs.declared.Relation.TheVariants.{Coincident, PointOnCurve, Collinear, Equal, Length, Distance, Midpoint, ArcLength, ArcSweep}
use Rattle.sketch.proofs.Bools.{or_left_false, or_right_false, and_left, and_right}
use Rattle.edit_plan.specs.Tables.{moved, curves_of, uses, others}
use Rattle.edit_plan.proofs.Leaves.{among_append}
use Rattle.sketch_geometry.specs.Geometry.{position_of, shape_of, shape_from, shape_in}
use Rattle.sketch_geometry.proofs.RowPositions.{moved_other}
use Rattle.relations.specs.Met.{met, all_met, first_failing}
use Rattle.relations.specs.Moves.{names, met_if_named, first_named_unmet}

in_neither : (p : ℕ) (a b : List ℕ) → among p (a ++ b) ≡ false → (among p a ≡ false) × (among p b ≡ false)
in_neither p a b h =
    let g : (among p a || among p b) ≡ false = sym (among_append p a b) ∙ h in
    (or_left_false (among p a) (among p b) g, or_right_false (among p a) (among p b) g)

-- ---- points and shapes

module _ (p : ℕ) (v : Vec2) (ps : List Point) where
  abbrev after : List Point
  after = map (moved p v) ps

  kept_position : (i : ℕ) → eqb p i ≡ false → position_of after i ≡ position_of ps i
  kept_position i h = moved_other p v i (eqb-false p i h) ps

  -- of a curve that does not use the point
  kept_kind : (k : CurveKind) (slots : List ℕ) → among p (uses_of k slots) ≡ false → shape_of after k ≡ shape_of ps k
  unfolding shape_of uses_of
  kept_kind (Line a b) slots h =
      let g = or_right_false (eqb p a) _ h in
      rw (kept_position a (or_left_false (eqb p a) _ h), kept_position b (or_left_false (eqb p b) _ g))
  kept_kind (Arc c a b) slots h =
      let g = or_right_false (eqb p c) _ h in
      let k = or_right_false (eqb p a) _ g in
      rw (kept_position c (or_left_false (eqb p c) _ h), kept_position a (or_left_false (eqb p a) _ g), kept_position b (or_left_false (eqb p b) _ k))
  kept_kind (Circle c r) slots h = rw (kept_position c (or_left_false (eqb p c) _ h))
  kept_kind (Bezier n) slots h = refl
  kept_kind (Conic a m b rho) slots h = refl

  module _ (c : ℕ) where
    -- of another curve than the one that alone may use it
    kept_shape : (cs : List Curve) → among p (uses (others c cs)) ≡ false → (i : ℕ) → eqb c i ≡ false → shape_in after cs i ≡ shape_in ps cs i
    unfolding curve_in shape_from
    kept_shape [] u i h = refl
    kept_shape (x ∷ cs) u i h = go (eqb i x.id) refl (λ w. kept_shape cs w i h)
      where
        rest : (b : Bool) → among p (uses (ite (not b) (x ∷ others c cs) (others c cs))) ≡ false → among p (uses (others c cs)) ≡ false
        rest true u = u
        rest false u = (in_neither p (uses_of x.kind x.slots) (uses (others c cs)) u).1

        go : (b : Bool) → eqb i x.id ≡ b → (among p (uses (others c cs)) ≡ false → shape_in after cs i ≡ shape_in ps cs i)
            → shape_from after (ite b (some x) (curve_in cs i)) ≡ shape_from ps (ite b (some x) (curve_in cs i))
        go true e k =
            let z : eqb c x.id ≡ false = rw (← eqb-true i x.id e) h in
            kept_kind x.kind x.slots (in_neither p (uses_of x.kind x.slots) (uses (others c cs)) (rw z at u)).0
        go false e k = k (rest (eqb c x.id) u)

    -- ---- relations

    module _ (cs : List Curve) (u : among p (uses (others c cs)) ≡ false) where
      kept : (i : ℕ) → eqb c i ≡ false → shape_in after cs i ≡ shape_in ps cs i
      kept = kept_shape cs u

      kept_met : (r : Relation) → names p c r ≡ false → met after cs r ≡ met ps cs r
      unfolding met points_of curves_of
      kept_met (Coincident a b) h =
          let g = or_left_false (among p (a ∷ b ∷ [])) false h in
          let k = or_right_false (eqb p a) _ g in
          rw (kept_position a (or_left_false (eqb p a) _ g), kept_position b (or_left_false (eqb p b) false k))
      kept_met (PointOnCurve a g) h =
          let x = or_left_false (among p (a ∷ [])) _ h in
          let y = or_right_false (among p (a ∷ [])) _ h in
          rw (kept g (or_left_false (eqb c g) false y), kept_position a (or_left_false (eqb p a) false x))
      kept_met (Collinear a b) h =
          let y = or_right_false (eqb c a) _ h in
          rw (kept a (or_left_false (eqb c a) _ h), kept b (or_left_false (eqb c b) false y))
      kept_met (Equal a b) h =
          let y = or_right_false (eqb c a) _ h in
          rw (kept a (or_left_false (eqb c a) _ h), kept b (or_left_false (eqb c b) false y))
      kept_met (Length l w) h = rw (kept l (or_left_false (eqb c l) false h))
      kept_met (Distance a b w) h =
          let g = or_left_false (among p (a ∷ b ∷ [])) false h in
          let k = or_right_false (eqb p a) _ g in
          rw (kept_position a (or_left_false (eqb p a) _ g), kept_position b (or_left_false (eqb p b) false k))
      kept_met (Midpoint a l) h =
          let x = or_left_false (among p (a ∷ [])) _ h in
          let y = or_right_false (among p (a ∷ [])) _ h in
          rw (kept_position a (or_left_false (eqb p a) false x), kept l (or_left_false (eqb c l) false y))
      kept_met (ArcLength g w) h = refl
      kept_met (ArcSweep g w) h = refl

      same_test : (r : Relation) → met ps cs r ≡ true → met_if_named p v c ps cs r ≡ met after cs r
      same_test r h = go (names p c r) refl
        where
          go : (b : Bool) → names p c r ≡ b → (not b || met after cs r) ≡ met after cs r
          go true e = refl
          go false e = sym (kept_met r e ∙ h)

      same_first : (rs : List Relation) → every (met ps cs) rs ≡ true → first_failing (met_if_named p v c ps cs) rs ≡ first_failing (met after cs) rs
      same_first [] h = refl
      same_first (r ∷ rs) h =
          let a = same_test r (and_left (met ps cs r) _ h) in
          let b = same_first rs (and_right (met ps cs r) _ h) in
          ap (λ (x : Bool). ite x (suc (first_failing (met_if_named p v c ps cs) rs)) 0) a ∙ ap (λ (n : ℕ). ite (met after cs r) (suc n) 0) b

-- the search among those that name the point or the curve finds what the search among all finds
pub named_enough : (p : ℕ) (v : Vec2) (c : ℕ) (d : Drawing) → all_met d ≡ true → among p (uses (others c d.curves)) ≡ false
    → first_named_unmet p v c d ≡ first_failing (met (map (moved p v) d.points) d.curves) d.relations
named_enough p v c d m u = same_first p v d.points c d.curves u d.relations m
