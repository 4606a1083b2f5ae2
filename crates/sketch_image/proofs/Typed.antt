-- A sketch of the code's own types holds what `Stored` asks: ids, floats, degrees and slots fit their fields. Assumes nothing.
use mathlib.Core.Path.{◌≡◌, refl, sym, ap, ◌∙◌, subst}
use mathlib.Core.Bool.{true, not, ◌&&◌, ◌||◌}
use mathlib.Core.List.{List, [], ◌∷◌, map}
use Prim.Native.Nat.{ℕ, zero, suc}
use native.Mathlib.Omega.{arith}
use lib.ListN.{length, take, drop, replicate, length-map}
use lib.Dec.{T, eqb}
use lib.Seq.{length-take-le}
use mir.Val.{Val}
use base.Fml.{Fml}
use denote.Shadow.{shadow}
use denote.Array.{each}
use denote.Struct.Field.{u32-field}
use Rattle.sketch.specs.Lists.{every}
use Rattle.sketch.specs.Drawing.{view, no_slots}
use Rattle.sketch.specs.Valid.{is_line_sort, sort_of, ok_number, in_slots, ok_curve, sketch_fault}
use Rattle.sketch.specs.Facts.{Every}
use Rattle.sketch.specs.declared.Point.{Point}
use Rattle.sketch.specs.declared.Curve.{Curve}
use Rattle.sketch.specs.declared.CurveKind.{CurveKind}
use Rattle.sketch.specs.declared.CurveKind.TheVariants.{Line, Arc, Circle, Bezier, Conic}
use Rattle.sketch.specs.declared.Relation.{Relation}
use Rattle.sketch.specs.declared.Relation.TheVariants.{Coincident, PointOnCurve, Collinear, Equal, Length, Distance, Midpoint, ArcLength, ArcSweep}
use Rattle.sketch.specs.declared.RelationSlot.{RelationSlot}
use Rattle.sketch.specs.declared.Sketch.{Sketch}
use Rattle.sketch.specs.contracts.Point as P
use Rattle.sketch.specs.contracts.Curve as C
use Rattle.sketch.specs.contracts.CurveKind as K
use Rattle.sketch.specs.contracts.Relation as R
use Rattle.sketch.specs.contracts.RelationSlot as RS
use Rattle.sketch.specs.contracts.Sketch as S
use Rattle.sketch.proofs.Sketches.{sketch_valid}
use Rattle.sketch.proofs.Bools.{and_both}
use Rattle.image.specs.Encode.{drawing_size}
use Rattle.image.specs.Stored.{Each, Id, StoredPoint, StoredKind, StoredCurve, StoredRelation, Stored}
use Rattle.image.proofs.Curves.{zeros}
use Rattle.sketch_image.proofs.Written.{SizeIs, ready, ready_size}

-- ---- lists

each_typed : {A : Type 0} (own : A → List Val → Fml) (P : A → Type 0) → ((a : A) (u : List Val) → shadow (own a u) → P a) → (xs : List A) (us : List Val) → shadow (each A own xs us) → Each P xs
each_typed own P h [] us e = tt
each_typed own P h (x ∷ xs) [] e = absurd e
each_typed own P h (x ∷ xs) (u ∷ us) e = (h x (u ∷ []) e.0, each_typed own P h xs us e.1)

each_take : {A : Type 0} (P : A → Type 0) (n : ℕ) (xs : List A) → Each P xs → Each P (take n xs)
each_take P zero xs h = tt
each_take P (suc n) [] h = tt
each_take P (suc n) (x ∷ xs) h = (h.0, each_take P n xs h.1)

each_of_map : {A B : Type 0} (f : A → B) (P : B → Type 0) (xs : List A) → Each (λ a. P (f a)) xs → Each P (map f xs)
each_of_map f P [] h = tt
each_of_map f P (x ∷ xs) h = (h.0, each_of_map f P xs h.1)

-- ---- records

point_typed : (p : Point) (u : List Val) → shadow ((P.the_row).own_val p u) → StoredPoint p
point_typed p u h = record { id_fits = h.1.1.0.1; x_fits = subst T (sym h.1.1.1.1.0.1) tt; y_fits = subst T (sym h.1.1.1.1.1.0.1) tt }

kind_typed : (k : CurveKind) (u : List Val) → shadow ((K.the_row).own_val k u) → StoredKind k
unfolding StoredKind
kind_typed (Line a b) u h = let f = h.1.1.1.1 in (f.0.1, f.1.0.1)
kind_typed (Arc c a b) u h = let f = h.1.1.1.1 in (f.0.1, f.1.0.1, f.1.1.0.1)
kind_typed (Circle c r) u h = let f = h.1.1.1.1 in (f.0.1, subst T (sym f.1.0.1) tt)
kind_typed (Bezier n) u h = let f = h.1.1.1.1 in f.0.1
kind_typed (Conic a p b rho) u h = let f = h.1.1.1.1 in (f.0.1, f.1.0.1, f.1.1.0.1, subst T (sym f.1.1.1.0.1) tt)

relation_typed : (r : Relation) (u : List Val) → shadow ((R.the_row).own_val r u) → StoredRelation r
unfolding StoredRelation
relation_typed (Coincident p q) u h = let f = h.1.1.1.1 in (f.0.1, f.1.0.1)
relation_typed (PointOnCurve p c) u h = let f = h.1.1.1.1 in (f.0.1, f.1.0.1)
relation_typed (Collinear a b) u h = let f = h.1.1.1.1 in (f.0.1, f.1.0.1)
relation_typed (Equal a b) u h = let f = h.1.1.1.1 in (f.0.1, f.1.0.1)
relation_typed (Length l v) u h = let f = h.1.1.1.1 in (f.0.1, subst T (sym f.1.0.1) tt)
relation_typed (Distance p q v) u h = let f = h.1.1.1.1 in (f.0.1, f.1.0.1, subst T (sym f.1.1.0.1) tt)
relation_typed (Midpoint p l) u h = let f = h.1.1.1.1 in (f.0.1, f.1.0.1)
relation_typed (ArcLength c v) u h = let f = h.1.1.1.1 in (f.0.1, subst T (sym f.1.0.1) tt)
relation_typed (ArcSweep c v) u h = let f = h.1.1.1.1 in (f.0.1, subst T (sym f.1.0.1) tt)

slot_typed : (r : RelationSlot) (u : List Val) → shadow ((RS.the_row).own_val r u) → StoredRelation r.relation
slot_typed r u h = relation_typed r.relation _ h.1.1.0

-- all of `StoredCurve` but what its validity gives
record TypedCurve (c : Curve) : Type 0 where
  id_fits : Id c.id
  kind_fits : StoredKind c.kind
  eight : length c.slots ≡ 8
  slots_fit : Each Id c.slots

curve_typed : (c : Curve) (u : List Val) → shadow ((C.the_row).own_val c u) → TypedCurve c
curve_typed c u h =
    let slots = h.1.1.1.1.1.1.1.0 in
    record {
      id_fits = h.1.1.0.1;
      kind_fits = kind_typed c.kind _ h.1.1.1.1.1.1.0;
      eight = slots.1.0.1;
      slots_fit = each_typed u32-field.row.own_val Id (λ i w k. k.1) c.slots slots.0 slots.1.1;
    }

-- slots beside a kind that uses none hold 0
beside : (c : Curve) → length c.slots ≡ 8 → ok_curve c ≡ true → in_slots c.kind ≡ 0 → c.slots ≡ no_slots
beside c l ok none =
    let clear : every (λ (i : ℕ). eqb i 0) (drop (in_slots c.kind) c.slots) ≡ true =
    (and_both ((not c.infinite || is_line_sort (sort_of c.kind)) && ok_number c.kind) (every (λ (i : ℕ). eqb i 0) (drop (in_slots c.kind) c.slots)) ok).1 in
    zeros c.slots (subst (λ (n : ℕ). every (λ (i : ℕ). eqb i 0) (drop n c.slots) ≡ true) none clear) ∙ ap (λ (n : ℕ). replicate n 0) l

curves_stored : (cs : List Curve) → Each TypedCurve cs → Every ok_curve cs → Each StoredCurve cs
curves_stored [] h ok = tt
curves_stored (c ∷ cs) h ok =
    let t = h.0 in (
      record { id_fits = t.id_fits; kind_fits = t.kind_fits; eight = t.eight; slots_fit = t.slots_fit; beside = beside c t.eight ok.0 },
      curves_stored cs h.1 ok.1,
    )

-- ---- the sketch, by what holds of any value of its type

pub sketch_stored : (s : Sketch) (u : List Val) → shadow ((S.the_row).own_val s u) → sketch_fault s ≡ 0 → Stored (view s)
sketch_stored s u h e =
    let v = (sketch_valid s e).1 in
    let points = h.1.1.1.1.1.1.0 in
    let curves = h.1.1.1.1.1.1.1.0 in
    let relations = h.1.1.1.1.1.1.1.1.0 in
    record {
      next_fits = h.1.1.0.1;
      points_count = omega (arith, v.points_fit);
      curves_count = omega (arith, v.curves_fit);
      relations_count = omega (arith, v.relations_fit);
      points_fit = each_take StoredPoint s.npoints s.points (each_typed (P.the_row).own_val StoredPoint point_typed s.points points.0 points.1.1);
      curves_fit = curves_stored (take s.ncurves s.curves) (each_take TypedCurve s.ncurves s.curves (each_typed (C.the_row).own_val TypedCurve curve_typed s.curves curves.0 curves.1.1)) v.curves_ok;
      relations_fit = each_of_map (λ (r : RelationSlot). r.relation) StoredRelation (take s.nrelations s.relations)
          (each_take (λ (r : RelationSlot). StoredRelation r.relation) s.nrelations s.relations
          (each_typed (RS.the_row).own_val (λ (r : RelationSlot). StoredRelation r.relation) slot_typed s.relations relations.0 relations.1.1));
    }

-- its curves have eight slots each
pub sketch_slots : (s : Sketch) (u : List Val) → shadow ((S.the_row).own_val s u) → Each (λ (c : Curve). length c.slots ≡ 8) (take s.ncurves s.curves)
sketch_slots s u h =
    let curves = h.1.1.1.1.1.1.1.0 in
    each_eight (take s.ncurves s.curves) (each_take TypedCurve s.ncurves s.curves (each_typed (C.the_row).own_val TypedCurve curve_typed s.curves curves.0 curves.1.1))
  where
    each_eight : (cs : List Curve) → Each TypedCurve cs → Each (λ (c : Curve). length c.slots ≡ 8) cs
    each_eight [] w = tt
    each_eight (c ∷ cs) w = (w.0.eight, each_eight cs w.1)

-- its image's size, by its counts
pub sketch_size : (s : Sketch) (u : List Val) → shadow ((S.the_row).own_val s u) → sketch_fault s ≡ 0 → {n : ℕ} → SizeIs s n → n ≡ drawing_size (view s)
sketch_size s u h e is =
    let z = (sketch_valid s e).0 in
    let np : length s.points ≡ 512 = h.1.1.1.1.1.1.0.1.0.1 in
    let nc : length s.curves ≡ 128 = h.1.1.1.1.1.1.1.0.1.0.1 in
    let nr : length s.relations ≡ 256 = h.1.1.1.1.1.1.1.1.0.1.0.1 in
    let lp = length-take-le s.npoints s.points (omega (arith, z.points, np)) in
    let lc = length-take-le s.ncurves s.curves (omega (arith, z.curves, nc)) in
    let lr = length-take-le s.nrelations s.relations (omega (arith, z.relations, nr)) in
    ready_size s (ready s refl e) is ∙ rw (lp, lc, length-map, lr)
