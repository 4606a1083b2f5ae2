-- Records whose floats are numbers: they spell something, and any other is out of range.
use mathlib.Core.Path.{◌≡◌, refl, sym, ap, ◌∙◌}
use mathlib.Core.Bool.{Bool, true, false, not, ◌&&◌, ◌||◌}
use mathlib.Core.List.{List}
use Prim.Native.Nat.{ℕ, zero, suc}
use native.Mathlib.Omega.{arith}
use lib.ListN.{drop}
use lib.Dec.{eqb, leb}
use lib.Ieee.{of_bits, nan_bits, binary64}
use borrow.Author.Tests.{eqb-true, le-leb, lt-leb}
use Rattle.big_endian.specs.Fields.{field}
use Rattle.sketch.specs.Lists.{every}
use Rattle.sketch.specs.Valid.{ok_point, ok_curve, ok_relation, ok_coordinate, ok_number, ok_radius, ok_rho, ok_measure, in_slots, sort_of, is_line_sort}
use Rattle.sketch.proofs.Bools.{and_both}
use Rattle.image.specs.Records.{point_form, point_of, curve_form, curve_of, relation_form, relation_of, slots_of, kind_of, relation_by, used_slots, curve_fields, relation_fields}
use Rattle.image.specs.Decode.{number_at, number_or_zero, read_point, read_curve, read_relation, plain_point, plain_curve, plain_relation}
use Rattle.image.proofs.Floats.{nan_fails, number_test, coordinate_rejects, radius_rejects, rho_rejects, measure_rejects}

-- of two that are not and_both true, one is false
either : (a b x : Bool) → (a && b) ≡ false → (a ≡ false → x ≡ false) → (b ≡ false → x ≡ false) → x ≡ false
either true b x e f g = g e
either false b x e f g = f refl

and_left : (a b : Bool) → a ≡ false → (a && b) ≡ false
and_left a b e = rw e

and_right : (a b : Bool) → b ≡ false → (a && b) ≡ false
and_right true b e = e
and_right false b e = refl

-- ---- points

module _ (r : List ℕ) where
  pub plain_x : plain_point r ≡ true → number_at r 4 ≡ true
  plain_x h = (and_both (point_form r) _ (and_both (point_form r && number_at r 4) _ h).0).1

  pub plain_y : plain_point r ≡ true → number_at r 12 ≡ true
  plain_y h = (and_both (point_form r && number_at r 4) _ h).1

  pub point_lost : plain_point r ≡ false → (point_form r && ok_point (point_of r)) ≡ false
  point_lost h =
      let ok = ok_point (point_of r) in
      either (point_form r && number_at r 4) (number_at r 12) (point_form r && ok) h
      (λ e. either (point_form r) (number_at r 4) (point_form r && ok) e (and_left (point_form r) ok)
      (λ z. and_right (point_form r) ok (and_left _ _ (nan_fails ok_coordinate coordinate_rejects (field r 4 8) z))))
      (λ z. and_right (point_form r) ok (and_right (ok_coordinate (of_bits binary64 (field r 4 8))) _ (nan_fails ok_coordinate coordinate_rejects (field r 12 8) z)))

  -- ---- curves

  pub plain_number : plain_curve r ≡ true → number_at r 39 ≡ true
  plain_number h = (and_both (curve_form r) _ h).1

  pub plain_value : plain_relation r ≡ true → number_at r 9 ≡ true
  plain_value h = (and_both (relation_form r) _ h).1

-- ---- bits of a NaN are not zero, so they stand where a number belongs, and there they are out of range

not_zero : (n : ℕ) → not (nan_bits binary64 n) ≡ false → eqb n 0 ≡ false
not_zero n h = go (eqb n 0) refl
  where
    go : (t : Bool) → eqb n 0 ≡ t → t ≡ false
    go false e = refl
    go true e =
        let z = eqb-true n 0 e in
        let f : not (nan_bits binary64 0) ≡ false = ap (λ (k : ℕ). not (nan_bits binary64 k)) (sym z) ∙ h in
        number_test 0 ∙ f

bare_first : (p q x y : Bool) → q ≡ false → (p && q && x && y) ≡ false
bare_first p q x y e = and_left (p && q && x) y (and_left (p && q) x (and_right p q e))

range_last : (p t q z : Bool) → q ≡ false → (p && (t && q && z)) ≡ false
range_last p t q z e = and_right p (t && q && z) (and_left (t && q) z (and_right t q e))

curve_nan : (k f g : ℕ) (s : List ℕ) (n : ℕ) (t z : Bool) → not (nan_bits binary64 n) ≡ false
    → (curve_fields k f g s n && (t && ok_number (kind_of k g s (of_bits binary64 n)) && z)) ≡ false
unfolding curve_fields used_slots kind_of ok_number
curve_nan zero f g s n t z h = refl
curve_nan (suc zero) f g s n t z h = bare_first (leb f 7 && eqb g 0) (eqb n 0) (every (λ i. eqb i 0) (drop 2 s)) (t && true && z) (not_zero n h)
curve_nan (suc (suc zero)) f g s n t z h = bare_first (leb f 7 && eqb g 0) (eqb n 0) (every (λ i. eqb i 0) (drop 3 s)) (t && true && z) (not_zero n h)
curve_nan (suc (suc (suc zero))) f g s n t z h = range_last (curve_fields 3 f g s n) t (ok_radius (of_bits binary64 n)) z (nan_fails ok_radius radius_rejects n h)
curve_nan (suc (suc (suc (suc zero)))) f g s n t z h = bare_first (leb f 7 && true) (eqb n 0) (every (λ i. eqb i 0) (drop (suc g) s)) (t && (leb 1 g && leb g 7) && z) (not_zero n h)
curve_nan (suc (suc (suc (suc (suc zero))))) f g s n t z h = range_last (curve_fields 5 f g s n) t (ok_rho (of_bits binary64 n)) z (nan_fails ok_rho rho_rejects n h)
curve_nan (suc (suc (suc (suc (suc (suc k)))))) f g s n t z h = rw (le-leb 1 (suc (suc (suc (suc (suc (suc k)))))) (omega arith), lt-leb (suc (suc (suc (suc (suc (suc k)))))) 5 (omega arith))

relation_nan : (k a b n : ℕ) → not (nan_bits binary64 n) ≡ false → (relation_fields k b n && ok_relation (relation_by k a b (of_bits binary64 n))) ≡ false
unfolding relation_fields relation_by ok_relation
relation_nan zero a b n h = refl
relation_nan (suc zero) a b n h = and_left _ _ (not_zero n h)
relation_nan (suc (suc zero)) a b n h = and_left _ _ (not_zero n h)
relation_nan (suc (suc (suc zero))) a b n h = and_left _ _ (not_zero n h)
relation_nan (suc (suc (suc (suc zero)))) a b n h = and_left _ _ (not_zero n h)
relation_nan (suc (suc (suc (suc (suc zero))))) a b n h = and_right (relation_fields 5 b n) (ok_measure (of_bits binary64 n)) (nan_fails ok_measure measure_rejects n h)
relation_nan (suc (suc (suc (suc (suc (suc zero)))))) a b n h = nan_fails ok_measure measure_rejects n h
relation_nan (suc (suc (suc (suc (suc (suc (suc zero))))))) a b n h = and_left _ _ (not_zero n h)
relation_nan (suc (suc (suc (suc (suc (suc (suc (suc zero)))))))) a b n h = and_right (relation_fields 8 b n) (ok_measure (of_bits binary64 n)) (nan_fails ok_measure measure_rejects n h)
relation_nan (suc (suc (suc (suc (suc (suc (suc (suc (suc zero))))))))) a b n h = and_right (relation_fields 9 b n) (ok_measure (of_bits binary64 n)) (nan_fails ok_measure measure_rejects n h)
relation_nan (suc (suc (suc (suc (suc (suc (suc (suc (suc (suc k)))))))))) a b n h = rw (le-leb 1 (suc (suc (suc (suc (suc (suc (suc (suc (suc (suc k)))))))))) (omega arith), lt-leb (suc (suc (suc (suc (suc (suc (suc (suc (suc (suc k)))))))))) 9 (omega arith))

module _ (r : List ℕ) where
  pub curve_lost : plain_curve r ≡ false → (curve_form r && ok_curve (curve_of r)) ≡ false
  curve_lost h =
      either (curve_form r) (number_at r 39) (curve_form r && ok_curve (curve_of r)) h (and_left (curve_form r) (ok_curve (curve_of r)))
      (curve_nan (field r 4 1) (field r 5 1) (field r 6 1) (slots_of r) (field r 39 8) (not (curve_of r).infinite || is_line_sort (sort_of (curve_of r).kind))
      (every (λ i. eqb i 0) (drop (in_slots (curve_of r).kind) (curve_of r).slots)))

  pub relation_lost : plain_relation r ≡ false → (relation_form r && ok_relation (relation_of r)) ≡ false
  relation_lost h =
      either (relation_form r) (number_at r 9) (relation_form r && ok_relation (relation_of r)) h (and_left (relation_form r) (ok_relation (relation_of r)))
      (relation_nan (field r 0 1) (field r 1 4) (field r 5 4) (field r 9 8))

-- ---- a number read: the two ways out

module _ (r : List ℕ) (at : ℕ) {n : ℕ} {t : Bool} (e : n ≡ field r at 8) (g : t ≡ not (nan_bits binary64 n)) where
  known : number_at r at ≡ t
  known = ap (λ (k : ℕ). not (nan_bits binary64 k)) (sym e) ∙ sym g

  pub number_is : t ≡ true → of_bits binary64 n ≡ number_or_zero r at
  number_is h = rw (known, h, e)

  pub number_is_none : t ≡ false → of_bits binary64 0 ≡ number_or_zero r at
  number_is_none h = rw (known, h)

-- ---- a record whose floats are numbers is read as what its bytes encode

module _ (r : List ℕ) where
  pub read_point_is : plain_point r ≡ true → read_point r ≡ point_of r
  read_point_is h = rw (plain_x r h, plain_y r h)

  pub read_curve_is : plain_curve r ≡ true → read_curve r ≡ curve_of r
  read_curve_is h = rw (plain_number r h)

  pub read_relation_is : plain_relation r ≡ true → read_relation r ≡ relation_of r
  read_relation_is h = rw (plain_value r h)
