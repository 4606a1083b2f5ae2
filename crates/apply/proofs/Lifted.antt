-- A good image: its rows are what its records are written as, and so the tables that are written are the encoding of the new drawing.
use mathlib.Core.Path.{◌≡◌, refl, sym, ap, subst, ◌∙◌}
use mathlib.Core.Bool.{Bool, true, false, ◌&&◌}
use mathlib.Core.List.{List, [], ◌∷◌, ◌++◌, map}
use Prim.Native.Nat.{ℕ, zero, suc}
use native.Mathlib.Omega.{arith}
use lib.ListN.{length, take, drop, set, length-map}
use lib.Dec.{eqb}
use Rattle.big_endian.specs.Fields.{over}
use Rattle.big_endian.specs.Laws.{Bytes}
use Rattle.sketch.specs.Lists.{ite, every, keep, concat_map}
use Rattle.sketch.specs.Drawing.{Drawing}
use Rattle.sketch.specs.Valid.{ok_point, ok_curve, ok_relation}
use Rattle.sketch.proofs.Bools.{and_both}
use Rattle.image.specs.Stored.{Each}
use Rattle.image.specs.Records.{point_size, curve_size, relation_size, point_form, point_of, curve_form, curve_of, relation_form, relation_of}
use Rattle.image.specs.Image.{header_size, point_count, curve_count, relation_count, curves_from, relations_from, point_rows, curve_rows, relation_rows, drawing_of, next_at, image_fault}
use Rattle.image.specs.Decode.{read_point, read_curve, read_relation, plain_point, plain_curve, plain_relation}
use Rattle.image.specs.Encode.{encode_point, encode_curve, encode_relation, encode}
use Rattle.image.proofs.Headers.{Head}
use Rattle.image.proofs.Tables.{Proper, rows_proper, length_rows}
use Rattle.image.proofs.Points.{point_back}
use Rattle.image.proofs.Curves.{curve_back}
use Rattle.image.proofs.Relations.{relation_back}
use Rattle.image.proofs.RoundTrips.{Sound, image_kept}
use Rattle.image.proofs.GoodImages.{plain_points, plain_curves, plain_relations}
use Rattle.image.proofs.Plain.{read_point_is, read_curve_is, read_relation_is}
use Rattle.rows.specs.Rows.{rows_in, points_in, curves_in, relations_in, point_table, curve_table, relation_table}
use Rattle.rows.proofs.GoodTables.{point_rows_in, curve_rows_in, relation_rows_in, points_in_lem, curves_in_lem, relations_in_lem}
use Rattle.edit_plan.proofs.Loops.{map_append}
use Rattle.edit_plan.specs.declared.Extent.{Extent}
use Rattle.edit_plan.specs.declared.Change.{Change}
use Rattle.edit_plan.specs.declared.Plan.{Plan}
use Rattle.edit_plan.specs.Changes.{is_whole, left_of, staying, points_new, curves_new, relations_new}
use Rattle.apply.specs.Answers.{Answer}
use Rattle.apply.specs.Applied.{changed_by, without_curve, plan_extent, plan_orphans, plan_change, plan_refusal, drawing_after, removed_by, refusal_with, Answered, PlanWritten}
use Rattle.apply.specs.Clauses.{row_bytes, drawing_read, staying_rows, concerned, left_row, left_rows, points_after, curves_after, curves_without, relations_after, rows_image, TablesWithin, image_after, RowsApplied}
use Rattle.apply.proofs.Concerned.{unconcerned}

-- ---- rows that are written as they are read

module _ {A : Type 0} (enc : A → List ℕ) (read : List ℕ → A) where
  abbrev pub Back : List (List ℕ) → Type 0
  Back rows = Each (λ r. enc (read r) ≡ r) rows

  pub map_back : (rows : List (List ℕ)) → Back rows → map enc (map read rows) ≡ rows
  map_back [] w = refl
  map_back (r ∷ rows) w = rw (w.0, map_back rows w.1)

  pub keep_back : (f : A → Bool) (rows : List (List ℕ)) → Back rows → keep (λ r. f (read r)) rows ≡ map enc (keep f (map read rows))
  keep_back f [] w = refl
  keep_back f (r ∷ rows) w = go (f (read r)) (keep_back f rows w.1)
    where
      go : (b : Bool) → keep (λ r. f (read r)) rows ≡ map enc (keep f (map read rows)) → ite b (r ∷ keep (λ r. f (read r)) rows) (keep (λ r. f (read r)) rows) ≡ map enc (ite b (read r ∷ keep f (map read rows)) (keep f (map read rows)))
      go true ih = rw (w.0, ih)
      go false ih = ih

  pub set_back : (rows : List (List ℕ)) (k : ℕ) (a : A) → Back rows → set rows k (enc a) ≡ map enc (set (map read rows) k a)
  set_back [] zero a w = refl
  set_back [] (suc k) a w = refl
  set_back (r ∷ rows) zero a w = ap (λ (x : List (List ℕ)). enc a ∷ x) (sym (map_back rows w.1))
  set_back (r ∷ rows) (suc k) a w = rw (w.0, set_back rows k a w.1)

  take_back : (k : ℕ) (rows : List (List ℕ)) → Back rows → take k rows ≡ map enc (take k (map read rows))
  take_back zero rows w = refl
  take_back (suc k) [] w = refl
  take_back (suc k) (r ∷ rows) w = rw w.0 (ap (λ (x : List (List ℕ)). r ∷ x) (take_back k rows w.1))

  drop_back : (k : ℕ) (rows : List (List ℕ)) → Back rows → drop k rows ≡ map enc (drop k (map read rows))
  drop_back zero rows w = sym (map_back rows w)
  drop_back (suc k) [] w = refl
  drop_back (suc k) (r ∷ rows) w = drop_back k rows w.1

  pub without_back : (k : ℕ) (rows : List (List ℕ)) → Back rows → take k rows ++ drop (suc k) rows ≡ map enc (take k (map read rows) ++ drop (suc k) (map read rows))
  without_back k rows w = rw (map_append enc (take k (map read rows)) (drop (suc k) (map read rows)), ← take_back k rows w, ← drop_back (suc k) rows w)

  backs : (of : List ℕ → A) (form : List ℕ → Bool) (ok : A → Bool) (plain : List ℕ → Bool) (size : ℕ)
      → ((r : List ℕ) → Bytes r → length r ≡ size → form r ≡ true → ok (of r) ≡ true → enc (of r) ≡ r) → ((r : List ℕ) → plain r ≡ true → read r ≡ of r)
      → (rows : List (List ℕ)) → Each (Proper size) rows → every (λ r. form r && ok (of r)) rows ≡ true → every plain rows ≡ true → Back rows
  backs of form ok plain size back is [] w h p = tt
  backs of form ok plain size back is (r ∷ rows) w h p =
      let k = and_both (form r && ok (of r)) _ h in
      let t = and_both (form r) _ k.0 in
      let q = and_both (plain r) _ p in
      (ap enc (is r q.0) ∙ back r w.0.are_bytes w.0.long t.0 t.1, backs of form ok plain size back is rows w.1 k.1 q.1)

left_back : (e : Extent) (os : List ℕ) (rows : List (List ℕ)) → Back encode_relation read_relation rows → concat_map (left_row e os) rows ≡ map encode_relation (concat_map (left_of e os) (map read_relation rows))
unfolding left_row
left_back e os [] w = refl
left_back e os (r ∷ rows) w =
    ap (λ (x : List (List ℕ)). left_row e os r ++ x) (left_back e os rows w.1) ∙ ap (λ (x : List (List ℕ)). x ++ map encode_relation (concat_map (left_of e os) (map read_relation rows))) (go (concerned e os r) refl)
    ∙ sym (map_append encode_relation (left_of e os (read_relation r)) (concat_map (left_of e os) (map read_relation rows)))
  where
    go : (b : Bool) → concerned e os r ≡ b → ite b (map encode_relation (left_of e os (read_relation r))) (r ∷ []) ≡ map encode_relation (left_of e os (read_relation r))
    go true h = refl
    go false h = sym (ap (map encode_relation) (unconcerned e os r h) ∙ ap (λ (x : List ℕ). x ∷ []) w.0)

-- ---- the image of a drawing, by its rows

row_bytes_map : {A : Type 0} (enc : A → List ℕ) (l : List A) → row_bytes (map enc l) ≡ concat_map enc l
row_bytes_map enc [] = refl
row_bytes_map enc (a ∷ l) = ap (λ (x : List ℕ). enc a ++ x) (row_bytes_map enc l)

pub encode_rows : (d : Drawing) → rows_image d.next (map encode_point d.points) (map encode_curve d.curves) (map encode_relation d.relations) ≡ encode d
unfolding rows_image encode
encode_rows d =
    rw (length-map d.points encode_point, length-map d.curves encode_curve, length-map d.relations encode_relation, row_bytes_map encode_point d.points, row_bytes_map encode_curve d.curves, row_bytes_map encode_relation d.relations)

-- ---- tables whose rows are written as they are read

module _ (next : ℕ) (p c r : List ℕ) (bp : Back encode_point read_point (rows_in point_size p)) (bc : Back encode_curve read_curve (rows_in curve_size c)) (br : Back encode_relation read_relation (rows_in relation_size r)) where
  abbrev d : Drawing
  d = drawing_read next p c r

  staying_encoded : (os : List ℕ) → staying_rows os p ≡ map encode_point (keep (λ q. staying os q.id) (points_in p))
  unfolding staying_rows
  staying_encoded os = keep_back encode_point read_point (λ q. staying os q.id) (rows_in point_size p) bp

  left_encoded : (e : Extent) (os : List ℕ) → left_rows e os r ≡ map encode_relation (concat_map (left_of e os) (relations_in r))
  unfolding left_rows
  left_encoded e os = left_back e os (rows_in relation_size r) br

  changed_encoded : (k : ℕ) (e : Extent) (os : List ℕ) (h : Change) → rows_image h.next (points_after os h p) (curves_after k h c) (relations_after e os h r) ≡ encode (changed_by d k e os h)
  unfolding points_after curves_after relations_after
  changed_encoded k e os h =
      let x : points_after os h p ≡ map encode_point (changed_by d k e os h).points = ap (λ (x : List (List ℕ)). x ++ map encode_point (points_new h)) (staying_encoded os) ∙ sym (map_append encode_point (keep (λ q. staying os q.id) (points_in p)) (points_new h)) in
      let y : curves_after k h c ≡ map encode_curve (changed_by d k e os h).curves = ap (λ (x : List (List ℕ)). x ++ map encode_curve (curves_new h)) (set_back encode_curve read_curve (rows_in curve_size c) k h.kept bc) ∙ sym (map_append encode_curve (set (curves_in c) k h.kept) (curves_new h)) in
      let z : relations_after e os h r ≡ map encode_relation (changed_by d k e os h).relations = ap (λ (x : List (List ℕ)). x ++ map encode_relation (relations_new h)) (left_encoded e os) ∙ sym (map_append encode_relation (concat_map (left_of e os) (relations_in r)) (relations_new h)) in
      rw (x, y, z) (encode_rows (changed_by d k e os h))

  without_encoded : (k : ℕ) (e : Extent) (os : List ℕ) → rows_image next (staying_rows os p) (curves_without k c) (left_rows e os r) ≡ encode (without_curve d k e os)
  unfolding curves_without
  without_encoded k e os =
      let y : curves_without k c ≡ map encode_curve (without_curve d k e os).curves = without_back encode_curve read_curve k (rows_in curve_size c) bc in
      rw (staying_encoded os, y, left_encoded e os) (encode_rows (without_curve d k e os))

  pub image_encoded : (k : ℕ) (plan : Plan) → image_after next p c r k plan ≡ encode (drawing_after d k plan)
  image_encoded k plan = go (is_whole plan) (plan_extent d k plan) (plan_orphans d k plan) (plan_change d k plan)
    where
      go : (b : Bool) (e : Extent) (os : List ℕ) (h : Change) → ite b (rows_image next (staying_rows os p) (curves_without k c) (left_rows e os r)) (rows_image h.next (points_after os h p) (curves_after k h c) (relations_after e os h r))
          ≡ encode (ite b (without_curve d k e os) (changed_by d k e os h))
      go true e os h = without_encoded k e os
      go false e os h = changed_encoded k e os h

-- ---- of a good image

module _ (s : List ℕ) (e : image_fault s ≡ 0) where
  kept : Sound s
  kept = image_kept s e

  head : Head s
  head = kept.head

  pub tables_within : TablesWithin (point_table s) (curve_table s) (relation_table s)
  tables_within =
      record {
        points = omega (arith, ap length (point_rows_in s head), length_rows point_size (point_count s) s header_size, head.few_points);
        curves = omega (arith, ap length (curve_rows_in s head), length_rows curve_size (curve_count s) s (curves_from (point_count s)), head.few_curves);
        relations = omega (arith, ap length (relation_rows_in s head), length_rows relation_size (relation_count s) s (relations_from (point_count s) (curve_count s)), head.few_relations);
      }

  drawing_read_lem : drawing_read (next_at s) (point_table s) (curve_table s) (relation_table s) ≡ drawing_of s
  drawing_read_lem = rw (points_in_lem s e, curves_in_lem s e, relations_in_lem s e)

  module _ (b : Bytes s) where
    pub points_back : Back encode_point read_point (rows_in point_size (point_table s))
    points_back =
        rw (point_rows_in s head)
        (backs encode_point read_point point_of point_form ok_point plain_point point_size point_back read_point_is (point_rows s)
        (rows_proper point_size (point_count s) s header_size b (omega (arith, head.size))) kept.points_pass (plain_points s e))

    pub curves_back : Back encode_curve read_curve (rows_in curve_size (curve_table s))
    curves_back =
        rw (curve_rows_in s head)
        (backs encode_curve read_curve curve_of curve_form ok_curve plain_curve curve_size curve_back read_curve_is (curve_rows s)
        (rows_proper curve_size (curve_count s) s (curves_from (point_count s)) b (omega (arith, head.size))) kept.curves_pass (plain_curves s e))

    pub relations_back : Back encode_relation read_relation (rows_in relation_size (relation_table s))
    relations_back =
        rw (relation_rows_in s head)
        (backs encode_relation read_relation relation_of relation_form ok_relation plain_relation relation_size relation_back read_relation_is (relation_rows s)
        (rows_proper relation_size (relation_count s) s (relations_from (point_count s) (curve_count s)) b (omega (arith, head.size))) kept.relations_pass (plain_relations s e))

    pub plan_written : (k : ℕ) (plan : Plan) (before after : List ℕ) (r : Answer) → RowsApplied (next_at s) (point_table s) (curve_table s) (relation_table s) k plan before after r
        → Answered (plan_refusal (drawing_of s) k plan) (encode (drawing_after (drawing_of s) k plan)) (removed_by (drawing_of s) k plan) before after r
    plan_written k plan before after r w =
        let i = image_encoded (next_at s) (point_table s) (curve_table s) (relation_table s) points_back curves_back relations_back k plan in
        let v : Answered (plan_refusal (drawing_read (next_at s) (point_table s) (curve_table s) (relation_table s)) k plan) (encode (drawing_after (drawing_read (next_at s) (point_table s) (curve_table s) (relation_table s)) k plan)) (removed_by (drawing_read (next_at s) (point_table s) (curve_table s) (relation_table s)) k plan) before after r =
        record { refusal = w.refusal ∙ ap (λ x. refusal_with (plan_refusal (drawing_read (next_at s) (point_table s) (curve_table s) (relation_table s)) k plan) x before) i; removed = w.removed; size = w.size ∙ ap (λ x. ite (eqb r.refusal 0) (length x) 0) i; bytes = w.bytes ∙ ap (λ x. ite (eqb r.refusal 0) (over before 0 x) before) i } in
        over_drawings (drawing_read (next_at s) (point_table s) (curve_table s) (relation_table s)) (drawing_of s) drawing_read_lem v
      where
        over_drawings : (d d' : Drawing) → d ≡ d' → Answered (plan_refusal d k plan) (encode (drawing_after d k plan)) (removed_by d k plan) before after r → Answered (plan_refusal d' k plan) (encode (drawing_after d' k plan)) (removed_by d' k plan) before after r
        over_drawings d d' e w = subst (λ x. Answered (plan_refusal x k plan) (encode (drawing_after x k plan)) (removed_by x k plan) before after r) e w

pub plan_answered : (s : List ℕ) → Bytes s → (k : ℕ) (plan : Plan) (before after : List ℕ) (r : Answer) (next : ℕ) (p c t : List ℕ) → p ≡ point_table s → c ≡ curve_table s → t ≡ relation_table s → next ≡ next_at s
    → (TablesWithin p c t → RowsApplied next p c t k plan before after r) → PlanWritten s k plan before after r
plan_answered s b k plan before after r next p c t ep ec et en w e =
    plan_written s e b k plan before after r (rw (← ep, ← ec, ← et, ← en) (w (rw (ep, ec, et) (tables_within s e))))
