-- A valid drawing of numbers that fit is read back from its image. Assumes nothing.
use mathlib.Core.Path.{◌≡◌, refl, sym, ap, subst, ◌∙◌}
use mathlib.Core.Bool.{Bool, true, false, not, ◌&&◌, ◌||◌}
use mathlib.Core.List.{List, [], ◌∷◌}
use Prim.Native.Nat.{ℕ, zero, suc, ◌≤◌, ◌<◌}
use native.Mathlib.Omega.{arith}
use lib.Dec.{leb, eqb}
use lib.ListN.{length, take, drop, replicate}
use lib.Ieee.{Float, binary64}
use lib.Ieee.Bits.{of_bits-fits}
use borrow.Author.Tests.{eqb-true, ltb-true, leb-true}
use Rattle.big_endian.specs.Fields.{field}
use Rattle.sketch.specs.declared.Point.{Point}
use Rattle.sketch.specs.declared.Curve.{Curve}
use Rattle.sketch.specs.declared.CurveKind.{CurveKind}
use Rattle.sketch.specs.declared.CurveKind.TheVariants.{Line, Arc, Circle, Bezier, Conic}
use Rattle.sketch.specs.declared.Relation.{Relation}
use Rattle.sketch.specs.declared.Relation.TheVariants.{Coincident, PointOnCurve, Collinear, Equal, Length, Distance, Midpoint, ArcLength, ArcSweep}
use Rattle.sketch.specs.Lists.{ite, every}
use Rattle.sketch.specs.Lookup.{among}
use Rattle.sketch.specs.Drawing.{Drawing, limits, point_ids, curve_ids, uses_of, points_of, no_slots, id_size}
use Rattle.sketch.specs.Valid.{ok_number, ok_curve, in_slots, sort_of, is_line_sort, is_round_sort, distinct, sound_curve, sound_relation, fits, apart, has_point, sort_at, sort_in, fault_of}
use Rattle.sketch.specs.Facts.{Every, Rising, Valid}
use Rattle.sketch.proofs.Facts.{curve_nowhere, ok_number_lem, valid_fault}
use Rattle.sketch.proofs.Bools.{never, and_both, all_three}
use Rattle.image.specs.Records.{ids_at, slots_of, float_at, kind_of, relation_by, point_of, curve_of, relation_of, point_x_at, point_y_at, curve_kind_at, degree_at, curve_number_at, first_id_at, second_id_at, value_at}
use Rattle.image.specs.Image.{point_rows, curve_rows, relation_rows, drawing_of}
use Rattle.image.specs.Image as I
use Rattle.image.specs.Encode.{encode, drawing_size}
use Rattle.image.specs.Stored.{Each, Id, Binary64, StoredPoint, StoredKind, StoredCurve, StoredRelation, Stored}
use Rattle.image.proofs.Curves.{zeros}
use Rattle.image.proofs.RoundTrips.{parse_encode, length_encode, result_none}
use Rattle.edit_plan.proofs.Every.{or_cases}
use Rattle.apply.proofs.RowRuns.{each_map}

-- ---- numbers that fit

abbrev pub PointNumbers : Point → Type 0
PointNumbers p = Binary64 p.x × Binary64 p.y

abbrev pub KindNumber : CurveKind → Type 0
KindNumber (Line a b) = Unit {0}
KindNumber (Arc c a b) = Unit {0}
KindNumber (Circle c r) = Binary64 r
KindNumber (Bezier n) = Unit {0}
KindNumber (Conic a p b rho) = Binary64 rho

abbrev pub CurveNumbers : Curve → Type 0
CurveNumbers c = KindNumber c.kind × (length c.slots ≡ 8)

abbrev pub RelationNumber : Relation → Type 0
RelationNumber (Coincident p q) = Unit {0}
RelationNumber (PointOnCurve p c) = Unit {0}
RelationNumber (Collinear a b) = Unit {0}
RelationNumber (Equal a b) = Unit {0}
RelationNumber (Length l v) = Binary64 v
RelationNumber (Distance p q v) = Binary64 v
RelationNumber (Midpoint p l) = Unit {0}
RelationNumber (ArcLength c v) = Binary64 v
RelationNumber (ArcSweep c v) = Binary64 v

-- its floats are binary64, and each curve has eight slots
pub record Numbers (d : Drawing) : Type 0 where
  pub points : Each PointNumbers d.points
  pub curves : Each CurveNumbers d.curves
  pub relations : Each RelationNumber d.relations

-- ---- ids

no_id : Id 0
no_id = omega arith

-- an id below the next id
id_below : (next i : ℕ) → next ≤ limits.ids → i < next → Id i
id_below next i h k = omega arith

among_below : (next below : ℕ) (is : List ℕ) (i : ℕ) → Rising next below is → among i is ≡ true → i < next
among_below next below [] i h e = never e
among_below next below (j ∷ js) i h e =
    or_cases (eqb i j) (among i js) e (λ u. let z = eqb-true i j u in omega (arith, h.1)) (λ u. among_below next j js i h.2 u)

-- ---- points

points_stored : (next below : ℕ) (ps : List Point) → next ≤ limits.ids → Rising next below (point_ids ps) → Each PointNumbers ps → Each StoredPoint ps
points_stored next below [] m h w = tt
points_stored next below (p ∷ ps) m h w = (
  record { id_fits = id_below next p.id m h.1; x_fits = w.0.0; y_fits = w.0.1 },
  points_stored next p.id ps m h.2 w.1,
)

-- ---- curves, `has` saying which points there are

module _ (has : ℕ → Bool) (known : (i : ℕ) → has i ≡ true → Id i) where
  kind_stored : (k : CurveKind) (s : List ℕ) → every has (uses_of k s) ≡ true → ok_number k ≡ true → KindNumber k → StoredKind k
  unfolding uses_of ok_number StoredKind
  kind_stored (Line a b) s h ok w =
      let u = and_both (has a) _ h in
      let v = and_both (has b) _ u.1 in
      (known a u.0, known b v.0)
  kind_stored (Arc c a b) s h ok w =
      let t = and_both (has c) _ h in
      let u = and_both (has a) _ t.1 in
      let v = and_both (has b) _ u.1 in
      (known c t.0, known a u.0, known b v.0)
  kind_stored (Circle c r) s h ok w = (known c (and_both (has c) _ h).0, w)
  kind_stored (Bezier n) s h ok w = let u : n ≤ 7 = leb-true n 7 (and_both (leb 1 n) (leb n 7) ok).1 in omega arith
  kind_stored (Conic a p b rho) s h ok w =
      let t = and_both (has a) _ h in
      let u = and_both (has p) _ t.1 in
      let v = and_both (has b) _ u.1 in
      (known a t.0, known p u.0, known b v.0, w)

  -- slots in use hold points, the others 0
  slots_stored : (n : ℕ) (s : List ℕ) → every has (take n s) ≡ true → every (λ (i : ℕ). eqb i 0) (drop n s) ≡ true → Each Id s
  slots_stored zero [] h k = tt
  slots_stored zero (i ∷ s) h k =
      let u = and_both (eqb i 0) (every (λ (j : ℕ). eqb j 0) s) k in
      (subst Id (sym (eqb-true i 0 u.0)) no_id, slots_stored zero s refl u.1)
  slots_stored (suc n) [] h k = tt
  slots_stored (suc n) (i ∷ s) h k =
      let u = and_both (has i) (every has (take n s)) h in
      (known i u.0, slots_stored n s u.1 k)

  used : (k : CurveKind) (s : List ℕ) → every has (uses_of k s) ≡ true → every has (take (in_slots k) s) ≡ true
  unfolding uses_of in_slots
  used (Line a b) s h = refl
  used (Arc c a b) s h = refl
  used (Circle c r) s h = refl
  used (Bezier n) s h = h
  used (Conic a p b rho) s h = refl

  curve_stored : (c : Curve) → Id c.id → ok_curve c ≡ true → sound_curve has c ≡ true → CurveNumbers c → StoredCurve c
  curve_stored c i ok sound w =
      let clear : every (λ (i : ℕ). eqb i 0) (drop (in_slots c.kind) c.slots) ≡ true =
      (and_both ((not c.infinite || is_line_sort (sort_of c.kind)) && ok_number c.kind) (every (λ (i : ℕ). eqb i 0) (drop (in_slots c.kind) c.slots)) ok).1 in
      let here = (and_both (every has (uses_of c.kind c.slots)) (distinct c.kind) sound).0 in
      record {
        id_fits = i;
        kind_fits = kind_stored c.kind c.slots here (ok_number_lem c ok) w.0;
        eight = w.1;
        slots_fit = slots_stored (in_slots c.kind) c.slots (used c.kind c.slots here) clear;
        beside = λ none. zeros c.slots (subst (λ (n : ℕ). every (λ (i : ℕ). eqb i 0) (drop n c.slots) ≡ true) none clear) ∙ ap (λ (n : ℕ). replicate n 0) w.1;
      }

  curves_stored : (next below : ℕ) (cs : List Curve) → next ≤ limits.ids → Rising next below (curve_ids cs) → Every ok_curve cs → Every (sound_curve has) cs → Each CurveNumbers cs → Each StoredCurve cs
  curves_stored next below [] m h ok sound w = tt
  curves_stored next below (c ∷ cs) m h ok sound w =
      (curve_stored c (id_below next c.id m h.1) ok.0 sound.0 w.0, curves_stored next c.id cs m h.2 ok.1 sound.1 w.1)

  -- ---- relations, `sort` giving the sorts of curves

  module _ (sort : ℕ → ℕ) (curve : (i : ℕ) → 0 < sort i → Id i) where
    line : (i : ℕ) → is_line_sort (sort i) ≡ true → Id i
    line i h = let z = eqb-true (sort i) 1 h in curve i (omega arith)

    round : (i : ℕ) → is_round_sort (sort i) ≡ true → Id i
    round i h = let z = eqb-true (sort i) 2 h in curve i (omega arith)

    relation_fits : (r : Relation) → every has (points_of r) ≡ true → fits sort r ≡ true → RelationNumber r → StoredRelation r
    unfolding points_of fits StoredRelation
    relation_fits (Coincident p q) h f w =
        let u = and_both (has p) _ h in
        (known p u.0, known q (and_both (has q) _ u.1).0)
    relation_fits (PointOnCurve p c) h f w = (known p (and_both (has p) _ h).0, curve c (ltb-true 0 (sort c) f))
    relation_fits (Collinear a b) h f w = let u = and_both (is_line_sort (sort a)) (is_line_sort (sort b)) f in (line a u.0, line b u.1)
    relation_fits (Equal a b) h f w =
        or_cases (is_line_sort (sort a) && is_line_sort (sort b)) (is_round_sort (sort a) && is_round_sort (sort b)) f
        (λ t. let u = and_both (is_line_sort (sort a)) (is_line_sort (sort b)) t in (line a u.0, line b u.1))
        (λ t. let u = and_both (is_round_sort (sort a)) (is_round_sort (sort b)) t in (round a u.0, round b u.1))
    relation_fits (Length l v) h f w = (line l f, w)
    relation_fits (Distance p q v) h f w =
        let u = and_both (has p) _ h in
        (known p u.0, known q (and_both (has q) _ u.1).0, w)
    relation_fits (Midpoint p l) h f w = (known p (and_both (has p) _ h).0, line l f)
    relation_fits (ArcLength c v) h f w = (round c f, w)
    relation_fits (ArcSweep c v) h f w = (round c f, w)

    relations_stored : (rs : List Relation) → Every (sound_relation has sort) rs → Each RelationNumber rs → Each StoredRelation rs
    relations_stored [] sound w = tt
    relations_stored (r ∷ rs) sound w =
        let u = all_three (every has (points_of r)) (fits sort r) (apart r) sound.0 in
        (relation_fits r u.0 u.1 w.0, relations_stored rs sound.1 w.1)

-- ---- drawings

-- a curve that is there is below the next id
sort_below : (next below : ℕ) (cs : List Curve) (i : ℕ) → Rising next below (curve_ids cs) → 0 < sort_in cs i → i < next
unfolding sort_at
sort_below next below cs i h k = go (among i (curve_ids cs)) refl
  where
    go : (b : Bool) → among i (curve_ids cs) ≡ b → i < next
    go true e = among_below next below (curve_ids cs) i h e
    go false e = let z : sort_in cs i ≡ 0 = ap sort_at (curve_nowhere i cs e) in absurd (omega arith)

pub numbers_stored : (d : Drawing) → Valid limits d → Numbers d → Stored d
numbers_stored d v w =
    let m = v.next_high in
    let known : (i : ℕ) → has_point d.points i ≡ true → Id i = λ i h. id_below d.next i m (among_below d.next 0 (point_ids d.points) i v.points_rise h) in
    let curve : (i : ℕ) → 0 < sort_in d.curves i → Id i = λ i h. id_below d.next i m (sort_below d.next 0 d.curves i v.curves_rise h) in
    record {
      next_fits = omega (arith, v.next_high);
      points_count = omega (arith, v.points_fit);
      curves_count = omega (arith, v.curves_fit);
      relations_count = omega (arith, v.relations_fit);
      points_fit = points_stored d.next 0 d.points m v.points_rise w.points;
      curves_fit = curves_stored (has_point d.points) known d.next 0 d.curves m v.curves_rise v.curves_ok v.curves_sound w.curves;
      relations_fit = relations_stored (has_point d.points) known (sort_in d.curves) curve d.relations v.relations_sound w.relations;
    }

-- its image has the drawing's size, and is read back as the drawing
pub new_image : (d : Drawing) → Valid limits d → Numbers d → (length (encode d) ≡ drawing_size d) × (I.parse (encode d) ≡ I.accepted d)
new_image d v w =
    let s = numbers_stored d v w in
    (length_encode d s, parse_encode d s ∙ result_none (fault_of limits d) d (valid_fault limits d v))

-- ---- what bytes encode

module _ (v : Float) (w : Binary64 v) where
  kind_number : (k degree : ℕ) (s : List ℕ) → KindNumber (kind_of k degree s v)
  unfolding kind_of
  kind_number k degree s = go (eqb k 1) (eqb k 2) (eqb k 3) (eqb k 4) _ _ _ _ _ _ _ _ _
    where
      go : (t u x y : Bool) (a b c d e f g h i : ℕ) → KindNumber (ite t (Line a b) (ite u (Arc c d e) (ite x (Circle f v) (ite y (Bezier degree) (Conic g h i v)))))
      go true u x y a b c d e f g h i = tt
      go false true x y a b c d e f g h i = tt
      go false false true y a b c d e f g h i = w
      go false false false true a b c d e f g h i = tt
      go false false false false a b c d e f g h i = w

  relation_number : (k a b : ℕ) → RelationNumber (relation_by k a b v)
  unfolding relation_by
  relation_number k a b = go (eqb k 1) (eqb k 2) (eqb k 3) (eqb k 4) (eqb k 5) (eqb k 6) (eqb k 7) (eqb k 8)
    where
      go : (c d e f g h i j : Bool)
          → RelationNumber (ite c (Coincident a b) (ite d (PointOnCurve a b) (ite e (Collinear a b) (ite f (Equal a b) (ite g (Length a v) (ite h (Distance a b v) (ite i (Midpoint a b) (ite j (ArcLength a v) (ArcSweep a v)))))))))
      go true d e f g h i j = tt
      go false true e f g h i j = tt
      go false false true f g h i j = tt
      go false false false true g h i j = tt
      go false false false false true h i j = w
      go false false false false false true i j = w
      go false false false false false false true j = tt
      go false false false false false false false true = w
      go false false false false false false false false = w

eight_slots : (r : List ℕ) → length (curve_of r).slots ≡ 8
unfolding ids_at
eight_slots r = go (eqb (field r curve_kind_at 1) 4)
  where
    go : (b : Bool) → length (ite b (slots_of r) no_slots) ≡ 8
    go true = refl
    go false = refl

-- the numbers of any image fit
pub drawing_numbers : (s : List ℕ) → Numbers (drawing_of s)
drawing_numbers s =
    record {
      points = each_map PointNumbers point_of (λ r. (of_bits-fits binary64 (field r point_x_at 8), of_bits-fits binary64 (field r point_y_at 8))) (point_rows s);
      curves = each_map CurveNumbers curve_of (λ r. (kind_number (float_at r curve_number_at) (of_bits-fits binary64 (field r curve_number_at 8)) (field r curve_kind_at 1) (field r degree_at 1) (slots_of r), eight_slots r)) (curve_rows s);
      relations = each_map RelationNumber relation_of (λ r. relation_number (float_at r value_at) (of_bits-fits binary64 (field r value_at 8)) (field r 0 1) (field r first_id_at id_size) (field r second_id_at id_size)) (relation_rows s);
    }
