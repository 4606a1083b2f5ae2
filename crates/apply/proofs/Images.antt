-- An image written: its header, then its three tables; and what is answered. Assumes nothing.
use mathlib.Core.Path.{◌≡◌, refl, sym, ap, ◌∙◌}
use mathlib.Core.Bool.{true, ◌&&◌}
use mathlib.Core.List.{List, ◌++◌, map, append_assoc}
use Prim.Native.Nat.{ℕ, suc, ◌+◌, ◌*◌, ◌/◌, ◌≤◌, ◌<◌}
use native.Mathlib.Omega.{arith}
use lib.Dec.{leb}
use lib.ListN.{length, take, drop, set, length-append, length-map}
use borrow.Author.Tests.{le-leb, lt-leb, ne_eqb}
use Rattle.big_endian.specs.Fields.{over, over_if_fits}
use Rattle.std.specs.Prelude.{Option, Some, None, IfSome, option_to_list}
use Rattle.sketch.specs.declared.Curve.{Curve}
use Rattle.sketch.specs.Lists.{ite}
use Rattle.sketch.specs.Drawing.{limits}
use Rattle.image.specs.Records.{point_size, curve_size, relation_size}
use Rattle.image.specs.Image.{header_size, size_of}
use Rattle.image.specs.Encode.{header, encode_point, encode_curve, encode_relation}
use Rattle.image.proofs.Headers.{length_header}
use Rattle.image.proofs.Points.{length_point}
use Rattle.image.proofs.Curves.{length_curve}
use Rattle.image.proofs.Relations.{length_relation}
use Rattle.rows.specs.Rows.{rows_in}
use Rattle.rows.proofs.Rows.{length_rows_in}
use Rattle.edit_plan.specs.declared.Extent.{Extent}
use Rattle.edit_plan.specs.declared.Removed.{Removed}
use Rattle.edit_plan.specs.declared.Change.{Change}
use Rattle.edit_plan.specs.Changes.{points_new, curves_new, relations_new}
use Rattle.edit_plan.proofs.Every.{length_keep}
use Rattle.apply.specs.Applied.{Answered}
use Rattle.apply.specs.Clauses.{row_bytes, staying_rows, left_rows, left_row, points_after, curves_after, curves_without, relations_after, rows_image, EightSlots, CountsWithin, TablesWithin, mk_table_counts, refused_by, written_as}
use Rattle.apply.proofs.RowRuns.{Long, length_row_bytes, rows_long, each_append, each_map, each_keep, each_all, each_take, each_drop, each_set, over_then, over_if}
use Rattle.apply.proofs.Turns.{left_long, at_most_one}
use Rattle.apply.proofs.Concerned.{left_few}
use Rattle.apply.proofs.Parts.{length_without}

-- ---- rows are as long as records

pub staying_long : (os t : List ℕ) → Long point_size (staying_rows os t)
unfolding staying_rows
staying_long os t = each_keep (λ r. length r ≡ point_size) _ (rows_in point_size t) (rows_long point_size t)

pub points_long : (os : List ℕ) (h : Change) (t : List ℕ) → Long point_size (points_after os h t)
unfolding points_after
points_long os h t = each_append (λ r. length r ≡ point_size) (staying_rows os t) (map encode_point (points_new h)) (staying_long os t) (each_map (λ r. length r ≡ point_size) encode_point length_point (points_new h))

pub lefts_are_long : (e : Extent) (os t : List ℕ) → Long relation_size (left_rows e os t)
unfolding left_rows
lefts_are_long e os t = each_all (λ r. length r ≡ relation_size) (left_row e os) (λ r. length r ≡ relation_size) (left_long e os) (rows_in relation_size t) (rows_long relation_size t)

pub relations_long : (e : Extent) (os : List ℕ) (h : Change) (t : List ℕ) → Long relation_size (relations_after e os h t)
unfolding relations_after
relations_long e os h t = each_append (λ r. length r ≡ relation_size) (left_rows e os t) (map encode_relation (relations_new h)) (lefts_are_long e os t) (each_map (λ r. length r ≡ relation_size) encode_relation length_relation (relations_new h))

pub without_long : (k : ℕ) (t : List ℕ) → Long curve_size (curves_without k t)
unfolding curves_without
without_long k t =
    let w = rows_long curve_size t in
    each_append (λ r. length r ≡ curve_size) (take k (rows_in curve_size t)) (drop (suc k) (rows_in curve_size t)) (each_take (λ r. length r ≡ curve_size) k (rows_in curve_size t) w) (each_drop (λ r. length r ≡ curve_size) (suc k) (rows_in curve_size t) w)

pub curves_long : (k : ℕ) (h : Change) (t : List ℕ) → EightSlots h → Long curve_size (curves_after k h t)
unfolding curves_after
curves_long k h t w =
    each_append (λ r. length r ≡ curve_size) (set (rows_in curve_size t) k (encode_curve h.kept)) (map encode_curve (curves_new h))
    (each_set (λ r. length r ≡ curve_size) k (rows_in curve_size t) (encode_curve h.kept) (length_curve h.kept w.0) (rows_long curve_size t)) (go h.added w.1)
  where
    go : (o : Option Curve) → IfSome o (λ (c : Curve). length c.slots ≡ 8) → Long curve_size (map encode_curve (option_to_list o))
    go None w = tt
    go (Some c) w = (length_curve c w, tt)

-- ---- counts

pub length_points_after : (os : List ℕ) (h : Change) (t : List ℕ) → length (points_after os h t) ≡ length (staying_rows os t) + length (points_new h)
unfolding points_after
length_points_after os h t = length-append (staying_rows os t) (map encode_point (points_new h)) ∙ ap (λ x. length (staying_rows os t) + x) (length-map (points_new h) encode_point)

pub length_relations_after : (e : Extent) (os : List ℕ) (h : Change) (t : List ℕ) → length (relations_after e os h t) ≡ length (left_rows e os t) + length (relations_new h)
unfolding relations_after
length_relations_after e os h t = length-append (left_rows e os t) (map encode_relation (relations_new h)) ∙ ap (λ x. length (left_rows e os t) + x) (length-map (relations_new h) encode_relation)

pub staying_few : (os t : List ℕ) → length (staying_rows os t) ≤ length (rows_in point_size t)
unfolding staying_rows
staying_few os t = length_keep _ (rows_in point_size t)

module _ (h : Change) where
  pub new_points_few : length (points_new h) ≤ 2
  new_points_few = omega (arith, at_most_one h.second_point)

  pub new_curves_few : length (curves_new h) ≤ 1
  new_curves_few = at_most_one h.added

  pub new_relations_few : length (relations_new h) ≤ 3
  new_relations_few = omega (arith, length-append (option_to_list h.second_relation) (option_to_list h.third_relation), at_most_one h.second_relation, at_most_one h.third_relation)

pub counts_are : (a b c x y z : ℕ) → a ≡ x → b ≡ y → c ≡ z → mk_table_counts a b c ≡ mk_table_counts x y z
counts_are a b c x y z p q r = rw (p, q, r)

-- ---- an image, part after part

module _ (next : ℕ) (ps cs rs : List (List ℕ)) (wp : Long point_size ps) (wc : Long curve_size cs) (wr : Long relation_size rs) where
  pub length_image : length (rows_image next ps cs rs) ≡ size_of (length ps) (length cs) (length rs)
  unfolding rows_image
  length_image =
      simp (length-append, length_header)
      (rw (length_row_bytes point_size ps wp, length_row_bytes curve_size cs wc, length_row_bytes relation_size rs wr) (omega arith))

  pub image_put : (np nc nr : ℕ) (l m0 m1 m2 m3 : List ℕ) (from to : ℕ) → np ≡ length ps → nc ≡ length cs → nr ≡ length rs → CountsWithin np nc nr → size_of np nc nr ≤ length l
      → m0 ≡ ite (leb np limits.points && leb nc limits.curves && leb nr limits.relations) (over_if_fits l 0 (header next np nc nr)) l
      → m1 ≡ over m0 header_size (row_bytes ps) → from ≡ header_size + np * point_size → m2 ≡ over m1 from (row_bytes cs) → to ≡ from + nc * curve_size → m3 ≡ over m2 to (row_bytes rs)
      → m3 ≡ over l 0 (rows_image next ps cs rs)
  unfolding rows_image
  image_put np nc nr l m0 m1 m2 m3 from to ep ec er w fits e0 e1 ef e2 et e3 =
      let hd = header next np nc nr in
      let lh : length hd ≡ header_size = length_header next np nc nr in
      let lp = length_row_bytes point_size ps wp in
      let lc = length_row_bytes curve_size cs wc in
      let tests : leb np limits.points && leb nc limits.curves && leb nr limits.relations ≡ true = rw (le-leb np limits.points w.points, le-leb nc limits.curves w.curves, le-leb nr limits.relations w.relations) in
      let o : 0 ≤ length l = omega arith in
      let q0 : m0 ≡ over l 0 hd = over_if l 0 hd m0 (omega arith) (e0 ∙ ap (λ b. ite b (over_if_fits l 0 hd) l) tests) in
      let q1 : m1 ≡ over l 0 (hd ++ row_bytes ps) = over_then l 0 hd m0 header_size (row_bytes ps) m1 o q0 (omega arith) e1 in
      let l1 : length (hd ++ row_bytes ps) ≡ from = length-append hd (row_bytes ps) ∙ omega arith in
      let q2 : m2 ≡ over l 0 ((hd ++ row_bytes ps) ++ row_bytes cs) = over_then l 0 (hd ++ row_bytes ps) m1 from (row_bytes cs) m2 o q1 (omega arith) e2 in
      let l2 : length ((hd ++ row_bytes ps) ++ row_bytes cs) ≡ to = length-append (hd ++ row_bytes ps) (row_bytes cs) ∙ omega arith in
      let q3 : m3 ≡ over l 0 (((hd ++ row_bytes ps) ++ row_bytes cs) ++ row_bytes rs) = over_then l 0 ((hd ++ row_bytes ps) ++ row_bytes cs) m2 to (row_bytes rs) m3 o q2 (omega arith) e3 in
      let r : ((hd ++ row_bytes ps) ++ row_bytes cs) ++ row_bytes rs ≡ hd ++ (row_bytes ps ++ (row_bytes cs ++ row_bytes rs)) =
      append_assoc (hd ++ row_bytes ps) (row_bytes cs) (row_bytes rs) ∙ append_assoc hd (row_bytes ps) (row_bytes cs ++ row_bytes rs) in
      let n : header next (length ps) (length cs) (length rs) ≡ hd = rw (ep, ec, er) in
      q3 ∙ ap (over l 0) (r ∙ ap (λ (x : List ℕ). x ++ (row_bytes ps ++ (row_bytes cs ++ row_bytes rs))) (sym n))

-- ---- answers

module _ (image : List ℕ) (gone : Removed) (l : List ℕ) where
  pub answered_short : length l < length image → Answered 0 image gone l l (refused_by 25)
  answered_short h = record { refusal = rw (lt-leb (length image) (length l) h); removed = refl; size = refl; bytes = refl }

  pub answered_written : (m : List ℕ) (size : ℕ) → size ≡ length image → length image ≤ length l → m ≡ over l 0 image → Answered 0 image gone l m (written_as gone size)
  answered_written m size e h f = record { refusal = rw (le-leb (length image) (length l) h); removed = refl; size = e; bytes = f }

  pub answered_refused : (n : ℕ) → (n ≡ 0 → ⊥) → Answered n image gone l l (refused_by n)
  answered_refused n h = record { refusal = rw (ne_eqb n 0 h); removed = rw (ne_eqb n 0 h); size = rw (ne_eqb n 0 h); bytes = rw (ne_eqb n 0 h) }

-- ---- without a curve, the tables are within their limits as they were

pub without_within : (k : ℕ) (e : Extent) (os p c r : List ℕ) → k < length c / curve_size → TablesWithin p c r → CountsWithin (length (staying_rows os p)) (length (curves_without k c)) (length (left_rows e os r))
without_within k e os p c r h w =
    record {
      points = omega (arith, staying_few os p, w.points);
      curves = omega (arith, length_without k c h, length_rows_in curve_size c, w.curves);
      relations = omega (arith, left_few e os r, w.relations);
    }
