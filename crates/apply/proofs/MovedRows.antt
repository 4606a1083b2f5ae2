-- A point moved: what its pin adds, the tables written, what refuses the move, and the image of the new drawing. Assumes nothing.
use mathlib.Core.Path.{◌≡◌, refl, sym, ap, subst, ◌∙◌}
use mathlib.Core.Bool.{Bool, true, false, ◌&&◌}
use mathlib.Core.List.{List, [], ◌∷◌, ◌++◌, map}
use Prim.Native.Nat.{ℕ, ◌+◌, ◌*◌, ◌-◌, ◌/◌, ◌≤◌, ◌<◌}
use native.Mathlib.Omega.{arith}
use lib.Dec.{leb, ltb, eqb}
use lib.ListN.{length, take, drop, set, get_or, length-append, length-map, length-set}
use lib.Seq.{take_all}
use borrow.Author.Tests.{lt-ltb, le-ltb, le-leb, lt-leb, ltb-true, leb-true, eq-eqb, ne_eqb}
use Rattle.big_endian.specs.Fields.{over, over_if_fits}
use Rattle.big_endian.specs.Laws.{Bytes, over_nil}
use Rattle.geom.specs.declared.Vec2.{Vec2}
use Rattle.sketch.specs.declared.Point.{Point}
use Rattle.sketch.specs.declared.Curve.{Curve}
use Rattle.sketch.specs.declared.Relation.{Relation}
use Rattle.sketch.specs.declared.Relation.TheVariants.{Coincident}
use Rattle.sketch.specs.Lists.{ite, guard_number}
use Rattle.sketch.specs.Drawing.{limits}
use Rattle.sketch.specs.Blanks.{no_point}
use Rattle.sketch.specs.Valid.{ok_coordinate}
use Rattle.sketch.proofs.Facts.{get_or_mapped, guard_number_kept}
use Rattle.image.specs.Records.{point_size, curve_size, relation_size}
use Rattle.image.specs.Image.{header_size, size_of, drawing_of, next_at, image_fault}
use Rattle.image.specs.Decode.{read_point, read_curve, read_relation}
use Rattle.image.specs.Encode.{header, encode_point, encode_curve, encode_relation, encode}
use Rattle.image.proofs.Points.{length_point}
use Rattle.image.proofs.Relations.{length_relation}
use Rattle.rows.specs.Rows.{point_table, curve_table, relation_table, rows_in, row_in, points_in, curves_in, relations_in}
use Rattle.rows.proofs.Rows.{length_rows_in}
use Rattle.rows.proofs.GoodTables.{points_in_lem, curves_in_lem, relations_in_lem}
use Rattle.edit_plan.specs.declared.Pin.{Pin}
use Rattle.edit_plan.specs.declared.Pin.TheVariants.{On, At}
use Rattle.edit_plan.specs.Tables.{ok_position}
use Rattle.edit_plan.specs.Changes.{pin_relation}
use Rattle.edit_plan.specs.Steps.{nothing}
use Rattle.edit_plan.proofs.Loops.{map_append}
use Rattle.apply.specs.Answers.{Answer}
use Rattle.apply.specs.Applied.{Answered}
use Rattle.apply.specs.Moved.{pinned_by, moved_to, move_refusal, MoveRefused, MoveWritten}
use Rattle.apply.specs.Clauses.{row_bytes, points_with, relations_with, rows_image, image_moved, CountsWithin, TablesWithin, RowsMoved, refused_by}
use Rattle.apply.proofs.RowRuns.{Long, rows_long, each_set, each_append, each_map}
use Rattle.apply.proofs.Parts.{row_first, rows_then}
use Rattle.apply.proofs.Images.{length_image, image_put, answered_refused}
use Rattle.apply.proofs.Lifted.{Back, set_back, map_back, encode_rows, points_back, curves_back, relations_back, tables_within}

-- ---- what a pin adds

module _ {w : Pin} (p : ℕ) where
  pub pinned_on : {c : ℕ} → w ≡ On c → 1 ≡ length (pinned_by w p)
  unfolding pinned_by
  pinned_on e = rw e

  pub pinned_itself : {e : ℕ} → w ≡ At e → e ≡ p → 0 ≡ length (pinned_by w p)
  unfolding pinned_by
  pinned_itself {e} f h = rw (f, eq-eqb e p h)

  pub pinned_at : {e : ℕ} → w ≡ At e → (e ≡ p → ⊥) → 1 ≡ length (pinned_by w p)
  unfolding pinned_by
  pinned_at {e} f h = rw (f, ne_eqb e p h)

pub pinned_few : (w : Pin) (p : ℕ) → length (pinned_by w p) ≤ 1
unfolding pinned_by
pinned_few (On c) p = omega arith
pinned_few (At e) p = go (eqb e p)
  where
    go : (b : Bool) → length (ite b [] (Coincident p e ∷ [])) ≤ 1
    go true = omega arith
    go false = omega arith

pub pinned_one : (w : Pin) (p : ℕ) → (length (pinned_by w p) ≡ 0 → ⊥) → pinned_by w p ≡ pin_relation w p ∷ []
unfolding pinned_by pin_relation
pinned_one (On c) p h = refl
pinned_one (At e) p h = go (eqb e p) h
  where
    go : (b : Bool) → (length (ite b [] (Coincident p e ∷ [])) ≡ 0 → ⊥) → ite b [] (Coincident p e ∷ []) ≡ Coincident p e ∷ []
    go true h = absurd (h refl)
    go false h = refl

pub pinned_none : (w : Pin) (p : ℕ) → length (pinned_by w p) ≡ 0 → pinned_by w p ≡ []
pinned_none w p h = go (pinned_by w p) h
  where
    go : (l : List Relation) → length l ≡ 0 → l ≡ []
    go [] h = refl
    go (r ∷ l) h = absurd (omega arith)

module _ (w : Pin) (p : ℕ) (l : List ℕ) (at : ℕ) {n : ℕ} (e : n ≡ length (pinned_by w p)) where
  pub pinned_put : (n ≡ 0 → ⊥) → at + length (pinned_by w p) * relation_size ≤ length l → {r : Relation} → r ≡ pin_relation w p → {m : List ℕ} → m ≡ over_if_fits l at (encode_relation r) → m ≡ over l at (row_bytes (map encode_relation (pinned_by w p)))
  pinned_put z f {r} g {m} h =
      let o = pinned_one w p (λ x. z (e ∙ x)) in
      let k = ap length o in
      row_first relation_size l at (encode_relation (pin_relation w p)) m (length_relation (pin_relation w p)) (omega arith) (h ∙ ap (λ x. over_if_fits l at (encode_relation x)) g)
      ∙ ap (λ x. over l at (row_bytes (map encode_relation x))) (sym o)

  pub pinned_left : n ≡ 0 → l ≡ over l at (row_bytes (map encode_relation (pinned_by w p)))
  pinned_left z = sym (over_nil l at) ∙ ap (λ x. over l at (row_bytes (map encode_relation x))) (sym (pinned_none w p (sym e ∙ z)))

-- ---- the image written

module _ (next k : ℕ) (p : Point) (w : Pin) (points curves relations : List ℕ) where
  points_many : length (points_with k p points) ≡ length points / point_size
  unfolding points_with
  points_many = length-set (rows_in point_size points) k (encode_point p) ∙ length_rows_in point_size points

  relations_many : length (relations_with w p.id relations) ≡ length relations / relation_size + length (pinned_by w p.id)
  unfolding relations_with
  relations_many = length-append (rows_in relation_size relations) (map encode_relation (pinned_by w p.id)) ∙ rw (length_rows_in relation_size relations, length-map (pinned_by w p.id) encode_relation)

  points_sized : Long point_size (points_with k p points)
  unfolding points_with
  points_sized = each_set (λ r. length r ≡ point_size) k (rows_in point_size points) (encode_point p) (length_point p) (rows_long point_size points)

  relations_sized : Long relation_size (relations_with w p.id relations)
  unfolding relations_with
  relations_sized = each_append (λ r. length r ≡ relation_size) (rows_in relation_size relations) (map encode_relation (pinned_by w p.id)) (rows_long relation_size relations) (each_map (λ r. length r ≡ relation_size) encode_relation length_relation (pinned_by w p.id))

  module _ {nr : ℕ} (many : nr ≡ length relations / relation_size + length (pinned_by w p.id)) where
    pub moved_size : length (image_moved next points curves relations k p w) ≡ size_of (length points / point_size) (length curves / curve_size) nr
    moved_size =
        length_image next (points_with k p points) (rows_in curve_size curves) (relations_with w p.id relations) points_sized (rows_long curve_size curves) relations_sized
        ∙ rw (points_many, length_rows_in curve_size curves, relations_many, many)

    all_of : (size : ℕ) (t : List ℕ) → take (length t / size - 0) (drop 0 (rows_in size t)) ≡ rows_in size t
    all_of size t = take_all (length t / size - 0) (rows_in size t) (omega (arith, length_rows_in size t))

    pub moved_put : (l m0 m1 m2 m3 m4 : List ℕ) (from to last : ℕ) → CountsWithin (length points / point_size) (length curves / curve_size) nr → size_of (length points / point_size) (length curves / curve_size) nr ≤ length l
        → m0 ≡ ite (leb (length points / point_size) limits.points && leb (length curves / curve_size) limits.curves && leb nr limits.relations) (over_if_fits l 0 (header next (length points / point_size) (length curves / curve_size) nr)) l
        → m1 ≡ over m0 header_size (row_bytes (points_with k p points)) → from ≡ header_size + length points / point_size * point_size
        → m2 ≡ over m1 from (row_bytes (take (length curves / curve_size - 0) (drop 0 (rows_in curve_size curves)))) → to ≡ from + (length curves / curve_size - 0) * curve_size → to ≤ length m2
        → m3 ≡ over m2 to (row_bytes (take (length relations / relation_size - 0) (drop 0 (rows_in relation_size relations)))) → last ≡ to + (length relations / relation_size - 0) * relation_size
        → m4 ≡ over m3 last (row_bytes (map encode_relation (pinned_by w p.id))) → m4 ≡ over l 0 (image_moved next points curves relations k p w)
    unfolding relations_with
    moved_put l m0 m1 m2 m3 m4 from to last within fits e0 e1 ef e2 et room e3 el e4 =
        let c2 : m2 ≡ over m1 from (row_bytes (rows_in curve_size curves)) = e2 ∙ ap (λ x. over m1 from (row_bytes x)) (all_of curve_size curves) in
        let c3 : m3 ≡ over m2 to (row_bytes (rows_in relation_size relations)) = e3 ∙ ap (λ x. over m2 to (row_bytes x)) (all_of relation_size relations) in
        let f3 : last ≡ to + length (rows_in relation_size relations) * relation_size = omega (arith, el, length_rows_in relation_size relations) in
        let c4 : m4 ≡ over m2 to (row_bytes (relations_with w p.id relations)) = rows_then relation_size m2 to (rows_in relation_size relations) m3 last (rows_long relation_size relations) c3 f3 (map encode_relation (pinned_by w p.id)) m4 room e4 in
        image_put next (points_with k p points) (rows_in curve_size curves) (relations_with w p.id relations) points_sized (rows_long curve_size curves) relations_sized
        (length points / point_size) (length curves / curve_size) nr l m0 m1 m2 m4 from to (sym points_many) (sym (length_rows_in curve_size curves)) (many ∙ sym relations_many) within fits e0 e1 ef c2 (omega arith) c4

-- ---- what refuses

module _ (points relations : List ℕ) (k : ℕ) (v : Vec2) (w : Pin) where
  abbrev refusal : ℕ
  refusal = move_refusal (points_in points) (relations_in relations) k v w

  points_there : length (points_in points) ≡ length points / point_size
  points_there = length-map (rows_in point_size points) read_point ∙ length_rows_in point_size points

  relations_there : length (relations_in relations) ≡ length relations / relation_size
  relations_there = length-map (rows_in relation_size relations) read_relation ∙ length_rows_in relation_size relations

  pub no_point_lem : length points / point_size ≤ k → 8 ≡ refusal
  unfolding guard_number
  no_point_lem h = sym (rw (le-ltb k (length (points_in points)) (omega (arith, points_there))))

  module _ (h : k < length points / point_size) where
    pub the_point : read_point (row_in point_size points k) ≡ get_or (points_in points) k no_point
    the_point = sym (get_or_mapped read_point no_point [] (rows_in point_size points) k (omega (arith, length_rows_in point_size points)))

    there : ltb k (length (points_in points)) ≡ true
    there = lt-ltb k (length (points_in points)) (omega (arith, points_there))

    module _ {x y : Bool} (ex : x ≡ ok_coordinate v.x) (ey : y ≡ ok_coordinate v.y) where
      in_range_lem : (x && y) ≡ ok_position v
      in_range_lem = rw (ex, ey)

      pub out_of_range : (x && y) ≡ false → 24 ≡ refusal
      unfolding guard_number
      out_of_range e = sym (rw (there, sym in_range_lem ∙ e))

      pub is_in_range : (x && y) ≡ true → ok_position v ≡ true
      is_in_range e = sym in_range_lem ∙ e

    module _ (e : ok_position v ≡ true) {p : Point} (f : p ≡ read_point (row_in point_size points k)) {n : ℕ} (g : n ≡ length (pinned_by w p.id)) where
      in_all : length (relations_in relations) + length (pinned_by w (get_or (points_in points) k no_point).id) ≡ length relations / relation_size + n
      in_all = rw (relations_there) (ap (λ x. length relations / relation_size + x) (sym (g ∙ ap (λ (q : Point). length (pinned_by w q.id)) (f ∙ the_point))))

      pub no_room : 256 < length relations / relation_size + n → 22 ≡ refusal
      unfolding guard_number
      no_room h = sym (rw (there, e, in_all, lt-leb (length relations / relation_size + n) 256 h))

      pub may_move : length relations / relation_size + n ≤ 256 → 0 ≡ refusal
      unfolding guard_number
      may_move h = sym (rw (there, e, in_all, le-leb (length relations / relation_size + n) 256 h))

  -- a move that nothing refuses
  module _ (e : refusal ≡ 0) where
    tests : (ltb k (length (points_in points)) ≡ true) × (leb (length (relations_in relations) + length (pinned_by w (get_or (points_in points) k no_point).id)) limits.relations ≡ true)
    tests =
        let u = guard_number_kept (ltb k (length (points_in points))) 7 _ e in
        let t = guard_number_kept (ok_position v) 23 _ u.1 in
        (u.0, (guard_number_kept _ 21 0 t.1).0)

    pub moves_a_point : k < length points / point_size
    moves_a_point = omega (arith, points_there, ltb-true k (length (points_in points)) tests.0)

    module _ {p : Point} (f : p ≡ read_point (row_in point_size points k)) where
      point_is : p ≡ get_or (points_in points) k no_point
      point_is = f ∙ the_point moves_a_point

      pub moves_within : length relations / relation_size + length (pinned_by w p.id) ≤ limits.relations
      moves_within =
          let q : length (pinned_by w p.id) ≡ length (pinned_by w (get_or (points_in points) k no_point).id) = ap (λ (x : Point). length (pinned_by w x.id)) point_is in
          omega (arith, q, relations_there, leb-true (length (relations_in relations) + length (pinned_by w (get_or (points_in points) k no_point).id)) limits.relations tests.1)

      pub moved_answered : (next : ℕ) (curves before after : List ℕ) (r : Answer) → Answered 0 (image_moved next points curves relations k (moved_to v p) w) nothing before after r → RowsMoved next points curves relations k v w before after r
      moved_answered next curves before after r g =
          subst (λ x. Answered x (image_moved next points curves relations k (moved_to v (get_or (points_in points) k no_point)) w) nothing before after r) (sym e)
          (subst (λ (x : Point). Answered 0 (image_moved next points curves relations k (moved_to v x) w) nothing before after r) point_is g)

  pub moved_refused : (next : ℕ) (curves l : List ℕ) {n : ℕ} → n ≡ refusal → (n ≡ 0 → ⊥) → RowsMoved next points curves relations k v w l l (refused_by n)
  moved_refused next curves l {n} e h =
      subst (λ x. Answered x (image_moved next points curves relations k (moved_to v (get_or (points_in points) k no_point)) w) nothing l l (refused_by n)) e
      (answered_refused (image_moved next points curves relations k (moved_to v (get_or (points_in points) k no_point)) w) nothing l n h)

-- ---- the image of the new drawing

module _ (next : ℕ) (p c r : List ℕ) (bp : Back encode_point read_point (rows_in point_size p)) (bc : Back encode_curve read_curve (rows_in curve_size c)) (br : Back encode_relation read_relation (rows_in relation_size r)) where
  moved_encoded : (k : ℕ) (q : Point) (w : Pin)
      → image_moved next p c r k q w ≡ encode (record { next = next; points = set (points_in p) k q; curves = curves_in c; relations = relations_in r ++ pinned_by w q.id })
  unfolding points_with relations_with
  moved_encoded k q w =
      let x : points_with k q p ≡ map encode_point (set (points_in p) k q) = set_back encode_point read_point (rows_in point_size p) k q bp in
      let y : rows_in curve_size c ≡ map encode_curve (curves_in c) = sym (map_back encode_curve read_curve (rows_in curve_size c) bc) in
      let z : relations_with w q.id r ≡ map encode_relation (relations_in r ++ pinned_by w q.id) =
      ap (λ (l : List (List ℕ)). l ++ map encode_relation (pinned_by w q.id)) (sym (map_back encode_relation read_relation (rows_in relation_size r) br)) ∙ sym (map_append encode_relation (relations_in r) (pinned_by w q.id)) in
      ap (λ (l : List (List ℕ)). rows_image next l (rows_in curve_size c) (relations_with w q.id r)) x
      ∙ ap (λ (l : List (List ℕ)). rows_image next (map encode_point (set (points_in p) k q)) l (relations_with w q.id r)) y
      ∙ ap (λ (l : List (List ℕ)). rows_image next (map encode_point (set (points_in p) k q)) (map encode_curve (curves_in c)) l) z
      ∙ encode_rows (record { next = next; points = set (points_in p) k q; curves = curves_in c; relations = relations_in r ++ pinned_by w q.id })

-- a good image's tables are within their limits
pub over_limits : (s : List ℕ) → image_fault s ≡ 0 → {p c t : List ℕ} → p ≡ point_table s → c ≡ curve_table s → t ≡ relation_table s → TablesWithin p c t
over_limits s e ep ec et = rw (ep, ec, et) (tables_within s e)

module _ (s : List ℕ) (k : ℕ) (v : Vec2) (w : Pin) where
  pub move_refused : (p t : List ℕ) (n : ℕ) → p ≡ point_table s → t ≡ relation_table s → n ≡ move_refusal (points_in p) (relations_in t) k v w → MoveRefused s k v w n
  move_refused p t n ep et h e = h ∙ rw (ep, et) (rw (points_in_lem s e, relations_in_lem s e))

  pub move_written : Bytes s → (before after : List ℕ) (r : Answer) (next : ℕ) (p c t : List ℕ) → p ≡ point_table s → c ≡ curve_table s → t ≡ relation_table s → next ≡ next_at s
      → (TablesWithin p c t → RowsMoved next p c t k v w before after r) → MoveWritten s k v w before after r
  move_written b before after r next p c t ep ec et en h e =
      let m = moved_encoded (next_at s) (point_table s) (curve_table s) (relation_table s) (points_back s e b) (curves_back s e b) (relations_back s e b) k (moved_to v (get_or (points_in (point_table s)) k no_point)) w in
      let g : RowsMoved (next_at s) (point_table s) (curve_table s) (relation_table s) k v w before after r = rw (← ep, ← ec, ← et, ← en) (h (rw (ep, ec, et) (tables_within s e))) in
      lifted (points_in (point_table s)) (drawing_of s).points (curves_in (curve_table s)) (drawing_of s).curves (relations_in (relation_table s)) (drawing_of s).relations (points_in_lem s e) (curves_in_lem s e) (relations_in_lem s e)
      (subst (λ x. Answered (move_refusal (points_in (point_table s)) (relations_in (relation_table s)) k v w) x nothing before after r) m g)
    where
      lifted : (ps ps' : List Point) (cs cs' : List Curve) (rs rs' : List Relation) → ps ≡ ps' → cs ≡ cs' → rs ≡ rs'
          → Answered (move_refusal ps rs k v w) (encode (record { next = next_at s; points = set ps k (moved_to v (get_or ps k no_point)); curves = cs; relations = rs ++ pinned_by w (get_or ps k no_point).id })) nothing before after r
          → Answered (move_refusal ps' rs' k v w) (encode (record { next = next_at s; points = set ps' k (moved_to v (get_or ps' k no_point)); curves = cs'; relations = rs' ++ pinned_by w (get_or ps' k no_point).id })) nothing before after r
      lifted ps ps' cs cs' rs rs' x y z g = rw (← x, ← y, ← z) g
