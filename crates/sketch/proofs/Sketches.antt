-- The fault of a sketch from the tests of its counts, of its next id and of each of its tables.
use mathlib.Core.Path.{◌≡◌, sym, ◌∙◌, refl}
use mathlib.Core.Bool.{Bool, true, false, ◌&&◌, not, ◌||◌}
use mathlib.Core.List.{List, map}
use Prim.Native.Nat.{ℕ, ◌≤◌, ◌<◌}
use native.Mathlib.Omega.{arith}
use lib.ListN.{length, take, length-take, length-map}
use lib.Dec.{leb, ltb}
use borrow.Author.Tests.{leb-true, le-leb, lt-leb, ltb-false}
use Rattle.sketch.specs.declared.Point.{Point}
use Rattle.sketch.specs.declared.Curve.{Curve}
use Rattle.sketch.specs.declared.Sketch.{Sketch}
use Rattle.sketch.specs.Lists.{guard_number}
use Rattle.sketch.specs.Lookup.{Ascends}
use Rattle.sketch.specs.Drawing.{view, limits, point_ids, curve_ids}
use Rattle.sketch.specs.Valid.{ok_point, ok_curve, sound_curve, has_point, points_fault, curves_fault, relations_fault, counts_fit, sketch_fault}
use Rattle.sketch.specs.Facts.{Sized, Valid}
use Rattle.sketch.specs.Columns.{sorts_of, shapes_fault, PointsChecked, CurvesChecked, RelationsChecked}
use Rattle.sketch.proofs.Bools.{all_three, or_left_false, or_right_false, leb_ltb}
use Rattle.sketch.proofs.Facts.{guard_number_none, none_guard_number, table_first, table_later, table_ascends, curves_by_column, relations_by_columns, fault_valid, valid_fault}

-- ---- three counts against three limits

module _ (a b c x y z : ℕ) where
  none_over : ltb x a || ltb y b || ltb z c ≡ false → (a ≤ x) × (b ≤ y) × (c ≤ z)
  none_over h =
      let u = or_left_false (ltb x a || ltb y b) (ltb z c) h in
      (ltb-false x a (or_left_false (ltb x a) (ltb y b) u), ltb-false y b (or_right_false (ltb x a) (ltb y b) u), ltb-false z c (or_right_false (ltb x a || ltb y b) (ltb z c) h))

  some_over : ltb x a || ltb y b || ltb z c ≡ true → (leb a x && leb b y && leb c z) ≡ false
  some_over h = rw (leb_ltb a x, leb_ltb b y, leb_ltb c z) (go (ltb x a) (ltb y b) (ltb z c) h)
    where
      go : (u v w : Bool) → u || v || w ≡ true → (not u && not v && not w) ≡ false
      go true v w e = refl
      go false true w e = refl
      go false false true e = refl
      go false false false e = sym e

-- ---- counts within their limits

fits : {A : Type 0} (n m : ℕ) (l : List A) → n ≤ m → leb (length (take n l)) m ≡ true
fits n m l h = le-leb (length (take n l)) m (rw length-take (omega arith))

fits_mapped : {A B : Type 0} (f : A → B) (n m : ℕ) (l : List A) → n ≤ m → leb (length (map f (take n l))) m ≡ true
fits_mapped f n m l h = rw (length-map (take n l) f) (fits n m l h)

-- ---- counts and next id

abbrev point_id : Point → ℕ
point_id p = p.id

abbrev curve_id : Curve → ℕ
curve_id c = c.id

module _ (s : Sketch) where
  counts : Sized s → counts_fit s ≡ true
  counts z = rw (le-leb s.npoints 512 z.points, le-leb s.ncurves 128 z.curves, le-leb s.nrelations 256 z.relations)

  pub sized : counts_fit s ≡ true → Sized s
  sized h =
      let u = all_three (leb s.npoints 512) (leb s.ncurves 128) (leb s.nrelations 256) h in
      record { points = leb-true _ _ u.0; curves = leb-true _ _ u.1; relations = leb-true _ _ u.2 }

  -- a sketch has no fault exactly where its counts are within its tables and what it shows is valid
  pub sketch_valid : sketch_fault s ≡ 0 → Sized s × Valid limits (view s)
  sketch_valid h =
      let p = guard_number_none (counts_fit s) 3 _ (omega arith) h in
      (sized p.0, fault_valid limits (view s) p.1)

  pub valid_sketch : Sized s → Valid limits (view s) → sketch_fault s ≡ 0
  valid_sketch z v = none_guard_number (counts_fit s) 3 _ (counts z) (valid_fault limits (view s) v)

  pub fault_over : counts_fit s ≡ false → 3 ≡ sketch_fault s
  unfolding guard_number
  fault_over h = rw h

  abbrev relations_rest : ℕ
  relations_rest = relations_fault (view s).points (view s).curves (view s).relations

  abbrev points_rest : ℕ
  points_rest = points_fault s.next (view s).points (shapes_fault (view s))

  in_order_lem : Sized s → sketch_fault s ≡ guard_number (leb 1 s.next && leb s.next limits.ids) 4 points_rest
  unfolding guard_number
  in_order_lem z =
      rw (counts z, fits s.npoints 512 s.points z.points, fits s.ncurves 128 s.curves z.curves, fits_mapped (λ r. r.relation) s.nrelations 256 s.relations z.relations)

  pub fault_next : Sized s → s.next < 1 → 4 ≡ sketch_fault s
  unfolding guard_number
  fault_next z h = sym (in_order_lem z ∙ rw (lt-leb 1 s.next h))

  -- ---- the tables, one after another

  -- the counts and the next id are right, and the tables decide
  pub record Begun : Type 0 where
    pub rest : sketch_fault s ≡ points_rest

  -- the points are right, and the later tables decide
  pub record PointsPassed (ids : List ℕ) : Type 0 where
    pub rest : sketch_fault s ≡ shapes_fault (view s)
    pub column : take (length (view s).points) ids ≡ point_ids (view s).points
    pub rise : Ascends (take (length (view s).points) ids)

  -- of those the curves are right, and the relations decide
  pub record CurvesPassed (ids sorts : List ℕ) : Type 0 where
    pub rest : shapes_fault (view s) ≡ relations_rest
    pub column : take (length (view s).curves) ids ≡ curve_ids (view s).curves
    pub beside : take (length (view s).curves) sorts ≡ sorts_of (view s).curves
    pub rise : Ascends (take (length (view s).curves) ids)

  pub begun : Sized s → 1 ≤ s.next → s.next ≤ limits.ids → Begun
  unfolding guard_number
  begun z low high = record { rest = in_order_lem z ∙ rw (le-leb 1 s.next low, le-leb s.next limits.ids high) }

module _ {s : Sketch} (g : Begun s) {before ids : List ℕ} {p : ℕ} (t : PointsChecked s.next (view s).points (length (view s).points) before ids p) where
  pub fault_points : (p ≡ 0 → ⊥) → p ≡ sketch_fault s
  fault_points h = sym (g.rest ∙ table_first point_id ok_point (λ (x : Point). true) s.next 0 (view s).points _ p t.number h)

  pub points_passed : p ≡ 0 → PointsPassed s ids
  points_passed e =
      let n : points_fault s.next (view s).points 0 ≡ 0 = sym t.number ∙ e in
      record {
        rest = g.rest ∙ table_later point_id ok_point (λ (x : Point). true) s.next 0 (view s).points _ n;
        column = t.column e;
        rise = table_ascends point_id ok_point (λ (x : Point). true) s.next 0 (view s).points _ n (t.column e);
      }

module _ (s : Sketch) {points : List ℕ} (g : points ≡ point_ids (view s).points) where
  module _ {before was ids sorts : List ℕ} {c : ℕ}
      (t : CurvesChecked s.next points (view s).curves (length (view s).curves) before was ids sorts c) where
    abbrev sound : Curve → Bool
    sound = sound_curve (has_point (view s).points)

    number : c ≡ curves_fault s.next (view s).points (view s).curves 0
    number = t.number ∙ curves_by_column s.next (view s).points (view s).curves 0 g

    pub fault_curves : (c ≡ 0 → ⊥) → c ≡ shapes_fault (view s)
    fault_curves h = sym (table_first curve_id ok_curve sound s.next 0 (view s).curves _ c number h)

    pub curves_passed : c ≡ 0 → CurvesPassed s ids sorts
    curves_passed e =
        let n : curves_fault s.next (view s).points (view s).curves 0 ≡ 0 = sym number ∙ e in
        record {
          rest = table_later curve_id ok_curve sound s.next 0 (view s).curves _ n;
          column = t.column e;
          beside = t.beside e;
          rise = table_ascends curve_id ok_curve sound s.next 0 (view s).curves _ n (t.column e);
        }

  pub fault_relations :
      {ids sorts : List ℕ} {r : ℕ} → CurvesPassed s ids sorts → RelationsChecked points (take (length (view s).curves) ids) (take (length (view s).curves) sorts) (view s).relations r → r ≡ shapes_fault (view s)
  fault_relations h t =
      t.number ∙ relations_by_columns (view s).points (view s).curves (view s).relations g h.column h.beside ∙ sym h.rest
