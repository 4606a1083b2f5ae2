-- What the tests of one record come to, one law for each way out of them.
use mathlib.Core.Path.{◌≡◌, refl, sym, ap, ◌∙◌}
use mathlib.Core.Bool.{Bool, true, false, not, ◌&&◌, and_assoc, and-true, or-true, or-false}
use mathlib.Core.List.{List}
use Prim.Native.Nat.{ℕ, zero, suc, ◌+◌, ◌*◌, ◌/◌, ◌%◌, ◌≤◌, ◌<◌}
use native.Mathlib.Omega.{arith}
use native.Mathlib.Numerals.{add-one}
use lib.ListN.{length, drop, get_or}
use lib.Dec.{eqb, leb}
use lib.Ieee.{Float, nan_bits, binary64}
use borrow.Author.Tests.{eq-eqb, ne_eqb, eqb-true, eqb-false, le-leb, lt-leb}
use Rattle.big_endian.specs.Fields.{field}
use Rattle.big_endian.specs.Laws.{field_split}
use Rattle.sketch.specs.Lists.{ite, every}
use Rattle.sketch.specs.declared.CurveKind.TheVariants.{Line, Arc, Circle, Bezier, Conic}
use Rattle.sketch.specs.Valid.{ok_coordinate, ok_number, ok_radius, ok_rho, in_slots, sort_of}
use Rattle.image.specs.Records.{float_at, slots_of, ids_at, used_slots, curve_fields, kind_of, curve_of}
use Rattle.image.specs.Image.{good_point, good_curve}
use Rattle.image.specs.Clauses.{good_as}
use Rattle.image.proofs.Floats.{Rejects, nan_fails}

-- ---- numbers: bits that are no number's are out of range, whatever the range

pub out_of_range : (ok : Float → Bool) → Rejects ok → (r : List ℕ) (at : ℕ) {n : ℕ} {t : Bool} → n ≡ field r at 8 → t ≡ not (nan_bits binary64 n) → t ≡ false → false ≡ ok (float_at r at)
out_of_range ok e r at f g h = sym (nan_fails ok e (field r at 8) (ap (λ (k : ℕ). not (nan_bits binary64 k)) (sym f) ∙ sym g ∙ h))

-- ---- points

pub good_point_lem : (r : List ℕ) → (leb (field r 20 1) 1 && ok_coordinate (float_at r 4) && ok_coordinate (float_at r 12)) ≡ good_point r
good_point_lem r = and_assoc (leb (field r 20 1) 1) (ok_coordinate (float_at r 4)) (ok_coordinate (float_at r 12))

-- ---- slots

-- the slot at a place
pub slot_at : (r : List ℕ) (i : ℕ) → i < 8 → field r (7 + i * 4) 4 ≡ get_or (slots_of r) i 0
unfolding ids_at
slot_at r zero h = refl
slot_at r (suc zero) h = refl
slot_at r (suc (suc zero)) h = refl
slot_at r (suc (suc (suc zero))) h = refl
slot_at r (suc (suc (suc (suc zero)))) h = refl
slot_at r (suc (suc (suc (suc (suc zero))))) h = refl
slot_at r (suc (suc (suc (suc (suc (suc zero)))))) h = refl
slot_at r (suc (suc (suc (suc (suc (suc (suc zero))))))) h = refl
slot_at r (suc (suc (suc (suc (suc (suc (suc (suc i)))))))) h = absurd (omega arith)

pub eight_slots : (r : List ℕ) → length (slots_of r) ≡ 8
unfolding ids_at
eight_slots r = refl

-- two numbers side by side are 0 where both are
two_zeros : (x y : ℕ) → eqb (x * 4294967296 + y) 0 ≡ (eqb x 0 && eqb y 0)
two_zeros x y = go (eqb x 0) refl (eqb y 0) refl
  where
    left : (x y : ℕ) → x * 4294967296 + y ≡ 0 → x ≡ 0
    left x y h = omega arith

    right : (x y : ℕ) → x * 4294967296 + y ≡ 0 → y ≡ 0
    right x y h = omega arith

    go : (s : Bool) → eqb x 0 ≡ s → (t : Bool) → eqb y 0 ≡ t → eqb (x * 4294967296 + y) 0 ≡ (s && t)
    go true e true f = let a : x ≡ 0 = eqb-true x 0 e in let b : y ≡ 0 = eqb-true y 0 f in eq-eqb (x * 4294967296 + y) 0 (omega arith)
    go true e false f = ne_eqb (x * 4294967296 + y) 0 (λ h. eqb-false y 0 f (right x y h))
    go false e t f = ne_eqb (x * 4294967296 + y) 0 (λ h. eqb-false x 0 e (left x y h))

pub pair : (r : List ℕ) (at : ℕ) → eqb (field r at 8) 0 ≡ (eqb (field r at 4) 0 && eqb (field r (at + 4) 4) 0)
pair r at = ap (λ (n : ℕ). eqb n 0) (field_split r at 4 4) ∙ two_zeros (field r at 4) (field r (at + 4) 4)

-- ---- curves

module _ (r : List ℕ) where
  abbrev flags : ℕ
  flags = field r 5 1

  abbrev degree : ℕ
  degree = field r 6 1

  abbrev number : ℕ
  number = field r 39 8

  abbrev finite : Bool
  finite = not (eqb (flags / 4 % 2) 1)

  pub good_line : (leb flags 7 && eqb degree 0 && eqb number 0 && eqb (field r 15 8) 0 && eqb (field r 23 8) 0 && eqb (field r 31 8) 0) ≡ good_as 1 r
  unfolding curve_fields used_slots ids_at kind_of sort_of ok_number in_slots
  good_line = simp (pair r 15, pair r 23, pair r 31, and_assoc, and-true, or-true)

  pub good_arc : (leb flags 7 && eqb degree 0 && eqb number 0 && eqb (field r 19 4) 0 && eqb (field r 23 8) 0 && eqb (field r 31 8) 0 && finite) ≡ good_as 2 r
  unfolding curve_fields used_slots ids_at kind_of sort_of ok_number in_slots
  good_arc = simp (pair r 23, pair r 31, and_assoc, and-true, or-false)

  pub good_circle : {t : Bool} → t ≡ ok_radius (float_at r 39)
      → (leb flags 7 && eqb degree 0 && eqb (field r 11 4) 0 && eqb (field r 15 8) 0 && eqb (field r 23 8) 0 && eqb (field r 31 8) 0 && finite && t) ≡ good_as 3 r
  unfolding curve_fields used_slots ids_at kind_of sort_of ok_number in_slots
  good_circle e = simp (e, pair r 15, pair r 23, pair r 31, and_assoc, and-true, or-false)

  pub good_conic : {t : Bool} → t ≡ ok_rho (float_at r 39)
      → (leb flags 7 && eqb degree 0 && eqb (field r 19 4) 0 && eqb (field r 23 8) 0 && eqb (field r 31 8) 0 && finite && t) ≡ good_as 5 r
  unfolding curve_fields used_slots ids_at kind_of sort_of ok_number in_slots
  good_conic e = simp (e, pair r 23, pair r 31, and_assoc, and-true, or-false)

  pub good_bezier : {t : Bool} → t ≡ every (λ i. eqb i 0) (drop (degree + 1) (slots_of r))
      → (leb flags 7 && eqb number 0 && finite && leb 1 degree && leb degree 7 && t) ≡ good_as 4 r
  unfolding curve_fields used_slots kind_of sort_of ok_number in_slots
  good_bezier {t} e =
      let f : t ≡ every (λ i. eqb i 0) (drop (suc degree) (slots_of r)) = e ∙ ap (λ (n : ℕ). every (λ i. eqb i 0) (drop n (slots_of r))) (add-one degree) in
      twice (leb flags 7) (eqb number 0) t finite (leb 1 degree) (leb degree 7) ∙ simp (f, and-true, or-true, or-false)
    where
      never : (x : Bool) → (x && false) ≡ false
      never true = refl
      never false = refl

      twice : (a b x c d e : Bool) → (a && b && c && d && e && x) ≡ ((a && b && x) && ((c && (d && e)) && x))
      twice false b x c d e = refl
      twice true false x c d e = refl
      twice true true true c d e = simp and-true (and_assoc c d e)
      twice true true false c d e = never (c && d && e)

  -- no other kind is known
  pub no_kind : (k : ℕ) → (k ≡ 1 → ⊥) → (k ≡ 2 → ⊥) → (k ≡ 3 → ⊥) → (k ≡ 4 → ⊥) → (k ≡ 5 → ⊥) → false ≡ good_as k r
  unfolding curve_fields
  no_kind zero h1 h2 h3 h4 h5 = refl
  no_kind (suc zero) h1 h2 h3 h4 h5 = absurd (h1 refl)
  no_kind (suc (suc zero)) h1 h2 h3 h4 h5 = absurd (h2 refl)
  no_kind (suc (suc (suc zero))) h1 h2 h3 h4 h5 = absurd (h3 refl)
  no_kind (suc (suc (suc (suc zero)))) h1 h2 h3 h4 h5 = absurd (h4 refl)
  no_kind (suc (suc (suc (suc (suc zero))))) h1 h2 h3 h4 h5 = absurd (h5 refl)
  no_kind (suc (suc (suc (suc (suc (suc k)))))) h1 h2 h3 h4 h5 =
      rw (le-leb 1 (suc (suc (suc (suc (suc (suc k)))))) (omega arith), lt-leb (suc (suc (suc (suc (suc (suc k)))))) 5 (omega arith))

  -- what the kind's byte says of the curve that is spelled
  module _ {k : ℕ} (e : k ≡ field r 4 1) where
    pub kind_is : {n : ℕ} {t : Bool} → t ≡ good_as n r → k ≡ n → t ≡ good_curve r
    kind_is g h = g ∙ ap (λ (j : ℕ). good_as j r) (sym h ∙ e)

    pub unknown : (k ≡ 1 → ⊥) → (k ≡ 2 → ⊥) → (k ≡ 3 → ⊥) → (k ≡ 4 → ⊥) → (k ≡ 5 → ⊥) → false ≡ good_curve r
    unknown h1 h2 h3 h4 h5 = no_kind k h1 h2 h3 h4 h5 ∙ ap (λ (j : ℕ). good_as j r) e

    module _ {a b c : ℕ} (ea : a ≡ field r 7 4) (eb : b ≡ field r 11 4) (ec : c ≡ field r 15 4) where
      pub spells_line : k ≡ 1 → (curve_of r).kind ≡ Line a b
      unfolding kind_of ids_at
      spells_line h = rw (← e, h, ea, eb)

      pub spells_arc : k ≡ 2 → (curve_of r).kind ≡ Arc a b c
      unfolding kind_of ids_at
      spells_arc h = rw (← e, h, ea, eb, ec)

      pub spells_circle : k ≡ 3 → (curve_of r).kind ≡ Circle a (float_at r 39)
      unfolding kind_of ids_at
      spells_circle h = rw (← e, h, ea)

      pub spells_conic : (k ≡ 1 → ⊥) → (k ≡ 2 → ⊥) → (k ≡ 3 → ⊥) → (k ≡ 4 → ⊥) → (curve_of r).kind ≡ Conic a b c (float_at r 39)
      unfolding kind_of ids_at
      spells_conic h1 h2 h3 h4 = rw (← e, ne_eqb k 1 h1, ne_eqb k 2 h2, ne_eqb k 3 h3, ne_eqb k 4 h4, ea, eb, ec)

    pub spells_bezier : {g : ℕ} → g ≡ degree → k ≡ 4 → (curve_of r).kind ≡ Bezier g
    unfolding kind_of
    spells_bezier f h = rw (← e, h, f)

    pub bezier_slots : k ≡ 4 → slots_of r ≡ (curve_of r).slots
    bezier_slots h = rw (← e, h)

-- a kind's byte that is none of a line's, an arc's and a circle's is a freeform curve's
pub freeform_sort : (kind degree : ℕ) (s : List ℕ) (v : Float) → (kind ≡ 1 → ⊥) → (kind ≡ 2 → ⊥) → (kind ≡ 3 → ⊥) → true ≡ eqb (sort_of (kind_of kind degree s v)) 3
unfolding kind_of sort_of
freeform_sort kind degree s v a b c = rw (ne_eqb kind 1 a, ne_eqb kind 2 b, ne_eqb kind 3 c) (go (eqb kind 4))
  where
    go : (t : Bool) → true ≡ eqb (sort_of (ite t (Bezier degree) (Conic (get_or s 0 0) (get_or s 1 0) (get_or s 2 0) v))) 3
    go true = refl
    go false = refl

-- and one of theirs is not
pub other_sort : (kind degree : ℕ) (s : List ℕ) (v : Float) → 1 ≤ kind → kind ≤ 3 → false ≡ eqb (sort_of (kind_of kind degree s v)) 3
unfolding kind_of sort_of
other_sort zero degree s v l h = absurd (omega arith)
other_sort (suc zero) degree s v l h = refl
other_sort (suc (suc zero)) degree s v l h = refl
other_sort (suc (suc (suc zero))) degree s v l h = refl
other_sort (suc (suc (suc (suc k)))) degree s v l h = absurd (omega arith)
