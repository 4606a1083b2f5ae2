-- A relation that names neither the curve nor a point that goes is left as it is; and so as many rows are left as relations. Assumes nothing.
use mathlib.Core.Path.{◌≡◌, refl, sym, ap, ◌∙◌}
use mathlib.Core.Bool.{Bool, true, false, ◌&&◌, ◌||◌}
use mathlib.Core.List.{List, [], ◌∷◌, ◌++◌, map}
use Prim.Native.Nat.{ℕ, suc, ◌≤◌}
use native.Mathlib.Omega.{arith}
use lib.Dec.{eqb, ltb}
use lib.Ieee.{Float}
use lib.ListN.{length, length-append, length-map}
use borrow.Author.Tests.{ne_eqb, eqb-false}
use Rattle.std.specs.Prelude.{cond}
use Rattle.std.specs.List.{filter}
use Rattle.big_endian.specs.Fields.{field}
use Rattle.sketch.specs.declared.Relation.{Relation}
use Rattle.sketch.specs.declared.Relation.TheVariants.{Coincident, PointOnCurve, Collinear, Equal, Length, Distance, Midpoint, ArcLength, ArcSweep}
use Rattle.sketch.specs.Lists.{ite, every, keep, concat_map}
use Rattle.sketch.specs.Lookup.{among}
use Rattle.sketch.specs.Drawing.{points_of}
use Rattle.sketch.proofs.Bools.{or_left_false, or_right_false}
use Rattle.sketch.proofs.Lists.{keep_true}
use Rattle.image.specs.Records.{relation_by, relation_size}
use Rattle.image.specs.Decode.{read_relation}
use Rattle.image.specs.Encode.{encode_relation}
use Rattle.rows.specs.Rows.{rows_in, relations_in}
use Rattle.edit_plan.specs.declared.Extent.{Extent}
use Rattle.edit_plan.specs.Tables.{curves_of}
use Rattle.edit_plan.specs.Steps.{is_some, drop_if, release_relation}
use Rattle.edit_plan.specs.Changes.{chord, staying, left_by, left_of}
use Rattle.edit_plan.proofs.Every.{length_keep}
use Rattle.edit_plan.proofs.Amounts.{released_one}
use Rattle.apply.specs.Clauses.{concerned, left_row, left_rows}

and_false : (b : Bool) → (b && false) ≡ false
and_false true = refl
and_false false = refl

module _ (e : Extent) (os : List ℕ) where
  abbrev Stays : Relation → Type 0
  Stays v = left_of e os v ≡ v ∷ []

  stays : (v : Relation) → drop_if (among e.id (curves_of v)) v ≡ v ∷ [] → release_relation e.id (chord e) v ≡ v ∷ [] → every (staying os) (points_of v) ≡ true → Stays v
  stays v d r p = go e.whole
    where
      one : keep (λ r. every (staying os) (points_of r)) (v ∷ []) ≡ v ∷ []
      one = ap (λ b. ite b (v ∷ []) []) p

      go : (b : Bool) → keep (λ r. every (staying os) (points_of r)) (ite b (drop_if (among e.id (curves_of v)) v) (release_relation e.id (chord e) v)) ≡ v ∷ []
      go true = ap (keep (λ r. every (staying os) (points_of r))) d ∙ one
      go false = ap (keep (λ r. every (staying os) (points_of r))) r ∙ one

  module _ (a b : ℕ) (x : Float) (na : a ≡ e.id → ⊥) (nb : b ≡ e.id → ⊥) (pa : among a os ≡ false) (pb : among b os ≡ false) where
    ia : eqb e.id a ≡ false
    ia = ne_eqb e.id a (λ q. na (sym q))

    ib : eqb e.id b ≡ false
    ib = ne_eqb e.id b (λ q. nb (sym q))

    ai : eqb a e.id ≡ false
    ai = ne_eqb a e.id na

    bi : eqb b e.id ≡ false
    bi = ne_eqb b e.id nb

    coincident : Stays (Coincident a b)
    unfolding curves_of release_relation points_of
    coincident = stays (Coincident a b) refl refl (rw (pa, pb))

    on_curve : Stays (PointOnCurve a b)
    unfolding curves_of release_relation points_of
    on_curve = stays (PointOnCurve a b) (rw ib) refl (rw pa)

    collinear : Stays (Collinear a b)
    unfolding curves_of release_relation points_of
    collinear = stays (Collinear a b) (rw (ia, ib)) refl refl

    equal : Stays (Equal a b)
    unfolding curves_of release_relation points_of
    equal = stays (Equal a b) (rw (ia, ib)) (rw (ai, bi, and_false (is_some (chord e)))) refl

    measure : Stays (Length a x)
    unfolding curves_of release_relation points_of
    measure = stays (Length a x) (rw ia) (rw ai) refl

    distance : Stays (Distance a b x)
    unfolding curves_of release_relation points_of
    distance = stays (Distance a b x) refl refl (rw (pa, pb))

    midpoint : Stays (Midpoint a b)
    unfolding curves_of release_relation points_of
    midpoint = stays (Midpoint a b) (rw ib) (rw bi) (rw pa)

    arc_length : Stays (ArcLength a x)
    unfolding curves_of release_relation points_of
    arc_length = stays (ArcLength a x) (rw ia) (rw ai) refl

    arc_sweep : Stays (ArcSweep a x)
    unfolding curves_of release_relation points_of
    arc_sweep = stays (ArcSweep a x) (rw ia) (rw ai) refl

    either : (t : Bool) (v w : Relation) → Stays v → Stays w → Stays (ite t v w)
    either true v w p q = p
    either false v w p q = q

    by_kind : (k : ℕ) → Stays (relation_by k a b x)
    unfolding relation_by
    by_kind k =
        either (eqb k 1) _ _ coincident
        (either (eqb k 2) _ _ on_curve
        (either (eqb k 3) _ _ collinear
        (either (eqb k 4) _ _ equal
        (either (eqb k 5) _ _ measure
        (either (eqb k 6) _ _ distance
        (either (eqb k 7) _ _ midpoint
        (either (eqb k 8) _ _ arc_length arc_sweep)))))))

  pub unconcerned : (r : List ℕ) → concerned e os r ≡ false → left_of e os (read_relation r) ≡ read_relation r ∷ []
  unconcerned r h =
      let a = field r 1 4 in
      let b = field r 5 4 in
      let x = or_left_false ((eqb a e.id || eqb b e.id) || among a os) (among b os) h in
      let y = or_left_false (eqb a e.id || eqb b e.id) (among a os) x in
      by_kind a b _ (eqb-false a e.id (or_left_false (eqb a e.id) (eqb b e.id) y)) (eqb-false b e.id (or_right_false (eqb a e.id) (eqb b e.id) y))
      (or_right_false (eqb a e.id || eqb b e.id) (among a os) x) (or_right_false ((eqb a e.id || eqb b e.id) || among a os) (among b os) h) (field r 0 1)

  -- as many rows as relations, whatever the bytes
  row_count : (r : List ℕ) → length (left_row e os r) ≡ length (left_of e os (read_relation r))
  unfolding left_row
  row_count r = go (concerned e os r) refl
    where
      go : (b : Bool) → concerned e os r ≡ b → length (ite b (map encode_relation (left_of e os (read_relation r))) (r ∷ [])) ≡ length (left_of e os (read_relation r))
      go true h = length-map (left_of e os (read_relation r)) encode_relation
      go false h = sym (ap length (unconcerned r h))

  pub rows_counted : (t : List ℕ) → length (left_rows e os t) ≡ length (concat_map (left_of e os) (relations_in t))
  unfolding left_rows
  rows_counted t = go (rows_in relation_size t)
    where
      go : (rows : List (List ℕ)) → length (concat_map (left_row e os) rows) ≡ length (concat_map (left_of e os) (map read_relation rows))
      go [] = refl
      go (r ∷ rows) = length-append (left_row e os r) (concat_map (left_row e os) rows) ∙ rw (row_count r, go rows) (sym (length-append (left_of e os (read_relation r)) (concat_map (left_of e os) (map read_relation rows))))

  -- and at most one of each
  left_one : (v : Relation) → length (left_of e os v) ≤ 1
  left_one v = go e.whole (among e.id (curves_of v))
    where
      go : (b d : Bool) → length (keep (λ r. every (staying os) (points_of r)) (ite b (drop_if d v) (release_relation e.id (chord e) v))) ≤ 1
      go true true = omega arith
      go true false = omega (arith, length_keep (λ r. every (staying os) (points_of r)) (v ∷ []))
      go false d = omega (arith, length_keep (λ r. every (staying os) (points_of r)) (release_relation e.id (chord e) v), released_one e.id (chord e) v)

  pub left_counted : (rows : List (List ℕ)) → length (filter (λ r. ltb 0 (length (left_row e os r))) rows) ≡ length (concat_map (left_row e os) rows)
  left_counted [] = refl
  left_counted (r ∷ rows) = go (left_row e os r) (omega (arith, row_count r, left_one (read_relation r))) (left_counted rows)
    where
      go : (l : List (List ℕ)) → length l ≤ 1 → length (filter (λ r. ltb 0 (length (left_row e os r))) rows) ≡ length (concat_map (left_row e os) rows)
          → length (cond (ltb 0 (length l)) (r ∷ filter (λ r. ltb 0 (length (left_row e os r))) rows) (filter (λ r. ltb 0 (length (left_row e os r))) rows)) ≡ length (l ++ concat_map (left_row e os) rows)
      go [] h i = i
      go (x ∷ []) h i = ap suc i
      go (x ∷ y ∷ l) h i = absurd (omega arith)

  pub left_few : (t : List ℕ) → length (left_rows e os t) ≤ length (rows_in relation_size t)
  unfolding left_rows
  left_few t = go (rows_in relation_size t)
    where
      go : (rows : List (List ℕ)) → length (concat_map (left_row e os) rows) ≤ length rows
      go [] = omega arith
      go (r ∷ rows) = omega (arith, length-append (left_row e os r) (concat_map (left_row e os) rows), row_count r, left_one (read_relation r), go rows)

-- where fewer points go, as many are left at least
every_none : (l : List ℕ) → every (staying []) l ≡ true
every_none [] = refl
every_none (p ∷ l) = every_none l

keeps_fewer : (os : List ℕ) (l : List Relation) → length (keep (λ r. every (staying os) (points_of r)) l) ≤ length (keep (λ r. every (staying []) (points_of r)) l)
keeps_fewer os l = omega (arith, length_keep (λ r. every (staying os) (points_of r)) l, ap length (keep_true (λ r. every (staying []) (points_of r)) (λ r. every_none (points_of r)) l))

pub fewer_left : (e : Extent) (os t : List ℕ) → length (left_rows e os t) ≤ length (left_rows e [] t)
fewer_left e os t = omega (arith, rows_counted e os t, rows_counted e [] t, go (relations_in t))
  where
    go : (l : List Relation) → length (concat_map (left_of e os) l) ≤ length (concat_map (left_of e []) l)
    go [] = omega arith
    go (v ∷ l) = omega (arith, length-append (left_of e os v) (concat_map (left_of e os) l), length-append (left_of e [] v) (concat_map (left_of e []) l), keeps_fewer os (left_by e v), go l)
