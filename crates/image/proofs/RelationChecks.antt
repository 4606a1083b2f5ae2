-- What the tests of a relation's record come to, one law for each kind.
use mathlib.Core.Path.{◌≡◌, refl, sym, ap, ◌∙◌}
use mathlib.Core.Bool.{Bool, true, false, ◌&&◌, and-true}
use mathlib.Core.Logic.{◌⊎◌, inl, inr}
use Rattle.sketch.specs.Lists.{ite}
use mathlib.Core.List.{List}
use Prim.Native.Nat.{ℕ, zero, suc, ◌≤◌}
use native.Mathlib.Omega.{arith}
use lib.Dec.{eqb}
use borrow.Author.Tests.{ne_eqb, le-leb, lt-leb}
use Rattle.big_endian.specs.Fields.{field}
use Rattle.sketch.specs.Valid.{ok_relation, ok_measure}
use Rattle.sketch.specs.declared.Relation.TheVariants.{Coincident, PointOnCurve, Collinear, Equal, Length, Distance, Midpoint, ArcLength, ArcSweep}
use Rattle.image.specs.Records.{float_at, relation_fields, relation_by, relation_of}
use Rattle.image.specs.Image.{good_relation}

module _ (r : List ℕ) where
  -- the test of a relation whose kind's byte is k
  abbrev good_by : ℕ → Bool
  good_by k = relation_fields k (field r 5 4) (field r 9 8) && ok_relation (relation_by k (field r 1 4) (field r 5 4) (float_at r 9))

  module _ {v : ℕ} (e : v ≡ field r 9 8) where
    pub bare_1 : eqb v 0 ≡ good_by 1
    unfolding relation_fields relation_by ok_relation
    bare_1 = simp (e, and-true)

    pub bare_2 : eqb v 0 ≡ good_by 2
    unfolding relation_fields relation_by ok_relation
    bare_2 = simp (e, and-true)

    pub bare_3 : eqb v 0 ≡ good_by 3
    unfolding relation_fields relation_by ok_relation
    bare_3 = simp (e, and-true)

    pub bare_4 : eqb v 0 ≡ good_by 4
    unfolding relation_fields relation_by ok_relation
    bare_4 = simp (e, and-true)

    pub bare_7 : eqb v 0 ≡ good_by 7
    unfolding relation_fields relation_by ok_relation
    bare_7 = simp (e, and-true)

    -- the kinds without a value
    pub bare : (k : ℕ) → 1 ≤ k → k ≤ 9 → (k ≡ 5 → ⊥) → (k ≡ 6 → ⊥) → (k ≡ 8 → ⊥) → (k ≡ 9 → ⊥) → eqb v 0 ≡ good_by k
    bare zero l h h5 h6 h8 h9 = absurd (omega arith)
    bare (suc zero) l h h5 h6 h8 h9 = bare_1
    bare (suc (suc zero)) l h h5 h6 h8 h9 = bare_2
    bare (suc (suc (suc zero))) l h h5 h6 h8 h9 = bare_3
    bare (suc (suc (suc (suc zero)))) l h h5 h6 h8 h9 = bare_4
    bare (suc (suc (suc (suc (suc zero))))) l h h5 h6 h8 h9 = absurd (h5 refl)
    bare (suc (suc (suc (suc (suc (suc zero)))))) l h h5 h6 h8 h9 = absurd (h6 refl)
    bare (suc (suc (suc (suc (suc (suc (suc zero))))))) l h h5 h6 h8 h9 = bare_7
    bare (suc (suc (suc (suc (suc (suc (suc (suc zero)))))))) l h h5 h6 h8 h9 = absurd (h8 refl)
    bare (suc (suc (suc (suc (suc (suc (suc (suc (suc zero))))))))) l h h5 h6 h8 h9 = absurd (h9 refl)
    bare (suc (suc (suc (suc (suc (suc (suc (suc (suc (suc k)))))))))) l h h5 h6 h8 h9 = absurd (omega arith)

  module _ {t : Bool} (e : t ≡ ok_measure (float_at r 9)) where
    pub measured_6 : t ≡ good_by 6
    unfolding relation_fields relation_by ok_relation
    measured_6 = e

    module _ {b : ℕ} (f : b ≡ field r 5 4) where
      pub measured_5 : (eqb b 0 && t) ≡ good_by 5
      unfolding relation_fields relation_by ok_relation
      measured_5 = simp (e, f, and-true)

      pub measured_8 : (eqb b 0 && t) ≡ good_by 8
      unfolding relation_fields relation_by ok_relation
      measured_8 = simp (e, f, and-true)

      pub measured_9 : (eqb b 0 && t) ≡ good_by 9
      unfolding relation_fields relation_by ok_relation
      measured_9 = simp (e, f, and-true)

      -- the kinds with one id
      pub measured : (k : ℕ) → k ≤ 9 → 5 ≤ k → (k ≡ 6 → ⊥) → (k ≡ 7 → ⊥) → (eqb b 0 && t) ≡ good_by k
      measured (suc (suc (suc (suc (suc zero))))) h l h6 h7 = measured_5
      measured (suc (suc (suc (suc (suc (suc zero)))))) h l h6 h7 = absurd (h6 refl)
      measured (suc (suc (suc (suc (suc (suc (suc zero))))))) h l h6 h7 = absurd (h7 refl)
      measured (suc (suc (suc (suc (suc (suc (suc (suc zero)))))))) h l h6 h7 = measured_8
      measured (suc (suc (suc (suc (suc (suc (suc (suc (suc zero))))))))) h l h6 h7 = measured_9
      measured (suc (suc (suc (suc (suc (suc (suc (suc (suc (suc k)))))))))) h l h6 h7 = absurd (omega arith)
      measured zero h l h6 h7 = absurd (omega arith)
      measured (suc zero) h l h6 h7 = absurd (omega arith)
      measured (suc (suc zero)) h l h6 h7 = absurd (omega arith)
      measured (suc (suc (suc zero))) h l h6 h7 = absurd (omega arith)
      measured (suc (suc (suc (suc zero)))) h l h6 h7 = absurd (omega arith)

  not_known : (k : ℕ) → (k ≡ 1 → ⊥) → (k ≡ 2 → ⊥) → (k ≡ 3 → ⊥) → (k ≡ 4 → ⊥) → (k ≡ 5 → ⊥) → (k ≡ 6 → ⊥) → (k ≡ 7 → ⊥) → (k ≡ 8 → ⊥) → (k ≡ 9 → ⊥) → false ≡ good_by k
  unfolding relation_fields
  not_known zero h1 h2 h3 h4 h5 h6 h7 h8 h9 = refl
  not_known (suc zero) h1 h2 h3 h4 h5 h6 h7 h8 h9 = absurd (h1 refl)
  not_known (suc (suc zero)) h1 h2 h3 h4 h5 h6 h7 h8 h9 = absurd (h2 refl)
  not_known (suc (suc (suc zero))) h1 h2 h3 h4 h5 h6 h7 h8 h9 = absurd (h3 refl)
  not_known (suc (suc (suc (suc zero)))) h1 h2 h3 h4 h5 h6 h7 h8 h9 = absurd (h4 refl)
  not_known (suc (suc (suc (suc (suc zero))))) h1 h2 h3 h4 h5 h6 h7 h8 h9 = absurd (h5 refl)
  not_known (suc (suc (suc (suc (suc (suc zero)))))) h1 h2 h3 h4 h5 h6 h7 h8 h9 = absurd (h6 refl)
  not_known (suc (suc (suc (suc (suc (suc (suc zero))))))) h1 h2 h3 h4 h5 h6 h7 h8 h9 = absurd (h7 refl)
  not_known (suc (suc (suc (suc (suc (suc (suc (suc zero)))))))) h1 h2 h3 h4 h5 h6 h7 h8 h9 = absurd (h8 refl)
  not_known (suc (suc (suc (suc (suc (suc (suc (suc (suc zero))))))))) h1 h2 h3 h4 h5 h6 h7 h8 h9 = absurd (h9 refl)
  not_known (suc (suc (suc (suc (suc (suc (suc (suc (suc (suc k)))))))))) h1 h2 h3 h4 h5 h6 h7 h8 h9 = rw (le-leb 1 (suc (suc (suc (suc (suc (suc (suc (suc (suc (suc k)))))))))) (omega arith), lt-leb (suc (suc (suc (suc (suc (suc (suc (suc (suc (suc k)))))))))) 9 (omega arith))

  module _ {k : ℕ} (e : k ≡ field r 0 1) where
    pub relation_is : {n : ℕ} {t : Bool} → t ≡ good_by n → k ≡ n → t ≡ good_relation r
    relation_is g h = g ∙ ap good_by (sym h ∙ e)

    -- no other kind is known
    pub no_relation : (k ≡ 1 → ⊥) → (k ≡ 2 → ⊥) → (k ≡ 3 → ⊥) → (k ≡ 4 → ⊥) → (k ≡ 5 → ⊥) → (k ≡ 6 → ⊥) → (k ≡ 7 → ⊥) → (k ≡ 8 → ⊥) → (k ≡ 9 → ⊥) → false ≡ good_relation r
    no_relation h1 h2 h3 h4 h5 h6 h7 h8 h9 = not_known k h1 h2 h3 h4 h5 h6 h7 h8 h9 ∙ ap good_by e

    module _ {a b : ℕ} (f : a ≡ field r 1 4) (g : b ≡ field r 5 4) where
      pub is_coincident : k ≡ 1 → relation_of r ≡ Coincident a b
      unfolding relation_by
      is_coincident h = rw (← e, h, f, g)

      pub is_on_curve : k ≡ 2 → relation_of r ≡ PointOnCurve a b
      unfolding relation_by
      is_on_curve h = rw (← e, h, f, g)

      pub is_collinear : k ≡ 3 → relation_of r ≡ Collinear a b
      unfolding relation_by
      is_collinear h = rw (← e, h, f, g)

      pub is_equal : k ≡ 4 → relation_of r ≡ Equal a b
      unfolding relation_by
      is_equal h = rw (← e, h, f, g)

      pub is_length : k ≡ 5 → relation_of r ≡ Length a (float_at r 9)
      unfolding relation_by
      is_length h = rw (← e, h, f)

      pub is_distance : k ≡ 6 → relation_of r ≡ Distance a b (float_at r 9)
      unfolding relation_by
      is_distance h = rw (← e, h, f, g)

      pub is_midpoint : k ≡ 7 → relation_of r ≡ Midpoint a b
      unfolding relation_by
      is_midpoint h = rw (← e, h, f, g)

      pub is_arc_length : k ≡ 8 → relation_of r ≡ ArcLength a (float_at r 9)
      unfolding relation_by
      is_arc_length h = rw (← e, h, f)

      pub is_arc_sweep : (k ≡ 1 → ⊥) → (k ≡ 2 → ⊥) → (k ≡ 3 → ⊥) → (k ≡ 4 → ⊥) → (k ≡ 5 → ⊥) → (k ≡ 6 → ⊥) → (k ≡ 7 → ⊥) → (k ≡ 8 → ⊥) → relation_of r ≡ ArcSweep a (float_at r 9)
      unfolding relation_by
      is_arc_sweep h1 h2 h3 h4 h5 h6 h7 h8 = rw (← e, ne_eqb k 1 h1, ne_eqb k 2 h2, ne_eqb k 3 h3, ne_eqb k 4 h4, ne_eqb k 5 h5, ne_eqb k 6 h6, ne_eqb k 7 h7, ne_eqb k 8 h8, f)

    -- what is left
    pub is_arc : {a : ℕ} → a ≡ field r 1 4 → (k ≡ 1 → ⊥) → (k ≡ 2 → ⊥) → (k ≡ 3 → ⊥) → (k ≡ 4 → ⊥) → (k ≡ 5 → ⊥) → (k ≡ 6 → ⊥) → (k ≡ 7 → ⊥)
        → (relation_of r ≡ ArcLength a (float_at r 9)) ⊎ (relation_of r ≡ ArcSweep a (float_at r 9))
    unfolding relation_by
    is_arc {a} f h1 h2 h3 h4 h5 h6 h7 = rw (← e, ne_eqb k 1 h1, ne_eqb k 2 h2, ne_eqb k 3 h3, ne_eqb k 4 h4, ne_eqb k 5 h5, ne_eqb k 6 h6, ne_eqb k 7 h7, ← f) (go (eqb k 8))
      where
        go : (t : Bool) → (ite t (ArcLength a (float_at r 9)) (ArcSweep a (float_at r 9)) ≡ ArcLength a (float_at r 9)) ⊎ (ite t (ArcLength a (float_at r 9)) (ArcSweep a (float_at r 9)) ≡ ArcSweep a (float_at r 9))
        go true = inl refl
        go false = inr refl
