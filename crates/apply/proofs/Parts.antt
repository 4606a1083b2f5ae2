-- Tables written part after part: new records behind old rows, a row rewritten, a row left out. Assumes nothing.
use mathlib.Core.Path.{◌≡◌, refl, sym, ap, ◌∙◌}
use mathlib.Core.Bool.{true}
use mathlib.Core.List.{List, [], ◌∷◌, ◌++◌, map, append-nil, append_assoc}
use Prim.Native.Nat.{ℕ, suc, ◌+◌, ◌*◌, ◌-◌, ◌/◌, ◌≤◌, ◌<◌}
use native.Mathlib.Nat.{add-mul, one-mul, mul-le-mul_right}
use native.Mathlib.Numerals.{add-one}
use native.Mathlib.Omega.{arith}
use lib.ListN.{length, take, drop, set, length-append, length-map, length-set, length-drop}
use lib.Seq.{length-take-le, set_split, take_all}
use Rattle.big_endian.specs.Fields.{over, over_if_fits}
use Rattle.big_endian.specs.Laws.{over_nil, length_over}
use Rattle.std.specs.Prelude.{Option, Some, None, option_to_list}
use Rattle.sketch.specs.declared.Point.{Point}
use Rattle.sketch.specs.declared.Curve.{Curve}
use Rattle.sketch.specs.declared.Relation.{Relation}
use Rattle.sketch.proofs.Lists.{concat_map_append}
use Rattle.image.specs.Records.{point_size, curve_size, relation_size}
use Rattle.image.specs.Decode.{read_relation}
use Rattle.image.specs.Encode.{encode_point, encode_curve, encode_relation}
use Rattle.image.proofs.Points.{length_point}
use Rattle.image.proofs.Relations.{length_relation}
use Rattle.rows.specs.Rows.{rows_in}
use Rattle.rows.proofs.Rows.{length_rows_in}
use Rattle.edit_plan.specs.declared.Extent.{Extent}
use Rattle.edit_plan.specs.declared.Change.{Change}
use Rattle.edit_plan.specs.Changes.{left_of, points_new, curves_new, relations_new}
use Rattle.apply.specs.Clauses.{row_bytes, concerned, left_row, curves_after, curves_without}
use Rattle.apply.proofs.RowRuns.{Long, rows_long, length_row_bytes, each_take, each_set, each_append, each_map, over_then, over_if}
use Rattle.edit_plan.proofs.Loops.{map_append}
use Rattle.apply.proofs.Turns.{left_looked, left_count}

-- ---- rows behind rows

module _ (size : ℕ) (l : List ℕ) (at : ℕ) (rows : List (List ℕ)) (m : List ℕ) (to : ℕ) (w : Long size rows) (is : m ≡ over l at (row_bytes rows)) (end : to ≡ at + length rows * size) where
  pub rows_then : (more : List (List ℕ)) (n : List ℕ) → at ≤ length l → n ≡ over m to (row_bytes more) → n ≡ over l at (row_bytes (rows ++ more))
  rows_then more n h f =
      over_then l at (row_bytes rows) m to (row_bytes more) n h is (end ∙ ap (λ x. at + x) (sym (length_row_bytes size rows w))) f
      ∙ ap (over l at) (sym (concat_map_append (λ (r : List ℕ). r) rows more))

  pub rows_kept : at + length rows * size ≤ length l → length m ≡ length l
  rows_kept h = ap length is ∙ length_over l at (row_bytes rows) (omega (arith, length_row_bytes size rows w))

  -- one record more, where it fits
  pub row_then : (b n : List ℕ) → length b ≡ size → at + length rows * size + size ≤ length l → n ≡ over_if_fits m to b → n ≡ over l at (row_bytes (rows ++ (b ∷ [])))
  row_then b n z h f =
      let k : length m ≡ length l = rows_kept (omega arith) in
      rows_then (b ∷ []) n (omega arith) (over_if m to b n (omega arith) f ∙ ap (over m to) (sym (append-nil b)))

pub row_first : (size : ℕ) (l : List ℕ) (at : ℕ) (b m : List ℕ) → length b ≡ size → at + size ≤ length l → m ≡ over_if_fits l at b → m ≡ over l at (row_bytes (b ∷ []))
row_first size l at b m z h f = over_if l at b m (omega arith) f ∙ ap (over l at) (sym (append-nil b))

-- ---- a table with one row rewritten

module _ (size k : ℕ) (t : List ℕ) (below : k < length t / size) (l : List ℕ) (at : ℕ) (m : List ℕ) (a : ℕ)
    (is : m ≡ over l at (row_bytes (take (k - 0) (drop 0 (rows_in size t))))) (end : a ≡ at + (k - 0) * size) where
  abbrev all_rows : List (List ℕ)
  all_rows = rows_in size t

  abbrev zero_off : k - 0 ≡ k
  zero_off = omega arith

  first_long : length (take k all_rows) ≡ k
  first_long = length-take-le k all_rows (omega (arith, length_rows_in size t))

  first_sized : Long size (take k all_rows)
  first_sized = each_take (λ r. length r ≡ size) k all_rows (rows_long size t)

  first_put : m ≡ over l at (row_bytes (take k all_rows))
  first_put = is ∙ ap (λ x. over l at (row_bytes (take x all_rows))) zero_off

  first_end : a ≡ at + length (take k all_rows) * size
  first_end = end ∙ ap (λ x. at + x * size) (zero_off ∙ sym first_long)

  pub row_set : (b n o : List ℕ) → at + length t / size * size ≤ length l → length b ≡ size → n ≡ over_if_fits m a b → o ≡ over n (a + size) (row_bytes (take (length t / size - (k + 1)) (drop (k + 1) all_rows))) → o ≡ over l at (row_bytes (set all_rows k b))
  row_set b n o fits long g f =
      let h : (k + 1) * size ≤ length t / size * size = mul-le-mul_right size (omega arith) in
      let e : (k + 1) * size ≡ k * size + size = rw (add-mul, one-mul) in
      let q : length (take k all_rows) * size ≡ k * size = ap (λ x. x * size) first_long in
      let one = row_then size l at (take k all_rows) m a first_sized first_put first_end b n long (omega arith) g in
      let z : length (take k all_rows ++ (b ∷ [])) * size ≡ k * size + size = ap (λ x. x * size) (length-append (take k all_rows) (b ∷ []) ∙ ap (λ x. x + 1) first_long) ∙ e in
      let rest : take (length t / size - (k + 1)) (drop (k + 1) all_rows) ≡ drop (k + 1) all_rows = take_all (length t / size - (k + 1)) (drop (k + 1) all_rows) (omega (arith, length-drop (k + 1) all_rows, length_rows_in size t)) in
      let j : a + size ≡ at + length (take k all_rows ++ (b ∷ [])) * size = omega (arith, z, q, first_end) in
      rows_then size l at (take k all_rows ++ (b ∷ [])) n (a + size) (each_append (λ r. length r ≡ size) (take k all_rows) (b ∷ []) first_sized (long, tt)) one j (drop (k + 1) all_rows) o (omega arith) (f ∙ ap (λ x. over n (a + size) (row_bytes x)) rest)
      ∙ ap (λ x. over l at (row_bytes x)) (append_assoc (take k all_rows) (b ∷ []) (drop (k + 1) all_rows) ∙ ap (λ x. take k all_rows ++ (b ∷ drop x all_rows)) (add-one k) ∙ sym (set_split all_rows k b (omega (arith, length_rows_in size t))))

-- ---- what a change adds

-- a relation, where there is one
abbrev OnePut : List ℕ → ℕ → Option Relation → List ℕ → ℕ → Type 0
OnePut l at o m to = (m ≡ over l at (row_bytes (map encode_relation (option_to_list o)))) × (to ≡ at + length (option_to_list o) * relation_size)

module _ (l : List ℕ) (at : ℕ) (o : Option Relation) where
  pub none_put : o ≡ None → OnePut l at o l at
  none_put e = rw e (sym (over_nil l at), omega arith)

  pub one_put : (r : Relation) → o ≡ Some r → (m : List ℕ) → at + length (option_to_list o) * relation_size ≤ length l → m ≡ over_if_fits l at (encode_relation r) → OnePut l at o m (at + relation_size)
  one_put r e m h f =
      let k = ap (λ (o : Option Relation). length (option_to_list o)) e in
      rw e (row_first relation_size l at (encode_relation r) m (length_relation r) (omega (arith, k, h)) f, omega arith)

module _ (h : Change) (l : List ℕ) (at : ℕ) where
  pub point_put : (m : List ℕ) → h.second_point ≡ None → at + length (points_new h) * point_size ≤ length l → m ≡ over_if_fits l at (encode_point h.point) → m ≡ over l at (row_bytes (map encode_point (points_new h)))
  point_put m e f g =
      let k = ap (λ (o : Option Point). length (option_to_list o)) e in
      row_first point_size l at (encode_point h.point) m (length_point h.point) (omega (arith, k, f)) g ∙ ap (λ (o : Option Point). over l at (row_bytes (encode_point h.point ∷ map encode_point (option_to_list o)))) (sym e)

  pub points_put : (q : Point) (m n : List ℕ) → h.second_point ≡ Some q → at + length (points_new h) * point_size ≤ length l → m ≡ over_if_fits l at (encode_point h.point) → n ≡ over_if_fits m (at + point_size) (encode_point q)
      → n ≡ over l at (row_bytes (map encode_point (points_new h)))
  points_put q m n e f g k =
      let z = ap (λ (o : Option Point). length (option_to_list o)) e in
      let p = length_point h.point in
      row_then point_size l at (encode_point h.point ∷ []) m (at + point_size) (p, tt) (row_first point_size l at (encode_point h.point) m p (omega (arith, z, f)) g) refl (encode_point q) n (length_point q) (omega (arith, z, f)) k
      ∙ ap (λ (o : Option Point). over l at (row_bytes (encode_point h.point ∷ map encode_point (option_to_list o)))) (sym e)

  abbrev seconds : List Relation
  seconds = option_to_list h.second_relation

  abbrev thirds : List Relation
  thirds = option_to_list h.third_relation

  pub relations_put : (m n o : List ℕ) (to : ℕ) → at + length (relations_new h) * relation_size ≤ length l → m ≡ over_if_fits l at (encode_relation h.relation)
      → n ≡ over m (at + relation_size) (row_bytes (map encode_relation seconds)) → to ≡ at + relation_size + length seconds * relation_size → o ≡ over n to (row_bytes (map encode_relation thirds))
      → o ≡ over l at (row_bytes (map encode_relation (relations_new h)))
  relations_put m n o to f e1 e2 et e3 =
      let r = encode_relation h.relation in
      let p = length_relation h.relation in
      let a = row_first relation_size l at r m p (omega (arith, f)) e1 in
      let b = rows_then relation_size l at (r ∷ []) m (at + relation_size) (p, tt) a refl (map encode_relation seconds) n (omega (arith, f)) e2 in
      let w = each_map (λ x. length x ≡ relation_size) encode_relation length_relation seconds in
      let c = rows_then relation_size l at (r ∷ map encode_relation seconds) n to (p, w) b (omega (arith, et, length-map seconds encode_relation)) (map encode_relation thirds) o (omega (arith, f)) e3 in
      c ∙ ap (λ x. over l at (row_bytes (r ∷ x))) (sym (map_append encode_relation seconds thirds))

pub left_put : (e : Extent) (os row : List ℕ) (m n : List ℕ) (mid end : ℕ) → concerned e os row ≡ true
    → n ≡ over m mid (row_bytes (map encode_relation (left_of e os (read_relation row)))) → end ≡ mid + length (left_of e os (read_relation row)) * relation_size
    → (n ≡ over m mid (row_bytes (left_row e os row))) × (end ≡ mid + length (left_row e os row) * relation_size)
left_put e os row m n mid end h f g = (f ∙ ap (λ x. over m mid (row_bytes x)) (sym (left_looked e os row h)), g ∙ ap (λ x. mid + x * relation_size) (left_count e os row h))

-- ---- the curves

module _ (k : ℕ) (t : List ℕ) (below : k < length t / curve_size) where
  abbrev rows : List (List ℕ)
  rows = rows_in curve_size t

  front_long : length (take k rows) ≡ k
  front_long = length-take-le k rows (omega (arith, length_rows_in curve_size t))

  back_long : length (drop (k + 1) rows) ≡ length t / curve_size - (k + 1)
  back_long = length-drop (k + 1) rows ∙ omega (arith, length_rows_in curve_size t)

  pub length_without : length (curves_without k t) ≡ length t / curve_size - 1
  unfolding curves_without
  length_without = length-append (take k rows) (drop (suc k) rows) ∙ omega (arith, front_long, rw (add-one k) at back_long)

  pub length_after : (h : Change) → length (curves_after k h t) ≡ length t / curve_size + length (curves_new h)
  unfolding curves_after
  length_after h = length-append (set rows k (encode_curve h.kept)) (map encode_curve (curves_new h)) ∙ rw (length-set rows k (encode_curve h.kept), length_rows_in curve_size t, length-map (curves_new h) encode_curve)

  front : take (k - 0) (drop 0 rows) ≡ take k rows
  front = let z : k - 0 ≡ k = omega arith in rw z

  back : take (length t / curve_size - (k + 1)) (drop (k + 1) rows) ≡ drop (k + 1) rows
  back = take_all (length t / curve_size - (k + 1)) (drop (k + 1) rows) (omega (arith, back_long))

  module _ (l : List ℕ) (at : ℕ) (m : List ℕ) (a : ℕ) (is : m ≡ over l at (row_bytes (take (k - 0) (drop 0 rows)))) (end : a ≡ at + (k - 0) * curve_size) where
    front_put : m ≡ over l at (row_bytes (take k rows))
    front_put = is ∙ ap (λ x. over l at (row_bytes x)) front

    front_end : a ≡ at + length (take k rows) * curve_size
    front_end = omega (arith, front_long, end)

    front_sized : Long curve_size (take k rows)
    front_sized = each_take (λ r. length r ≡ curve_size) k rows (rows_long curve_size t)

    pub without_put : (n : List ℕ) → at + length (curves_without k t) * curve_size ≤ length l → n ≡ over m a (row_bytes (take (length t / curve_size - (k + 1)) (drop (k + 1) rows))) → n ≡ over l at (row_bytes (curves_without k t))
    unfolding curves_without
    without_put n f g =
        rows_then curve_size l at (take k rows) m a front_sized front_put front_end (drop (k + 1) rows) n (omega arith) (g ∙ ap (λ x. over m a (row_bytes x)) back)
        ∙ ap (λ x. over l at (row_bytes (take k rows ++ drop x rows))) (add-one k)

    module _ (h : Change) (n o : List ℕ) (b : ℕ) (fits : at + length (curves_after k h t) * curve_size ≤ length l) (size : length (encode_curve h.kept) ≡ curve_size)
        (g : n ≡ over_if_fits m a (encode_curve h.kept)) (f : o ≡ over n (a + curve_size) (row_bytes (take (length t / curve_size - (k + 1)) (drop (k + 1) rows))))
        (e : b ≡ a + curve_size + (length t / curve_size - (k + 1)) * curve_size) where
      abbrev set_rows : List (List ℕ)
      set_rows = set rows k (encode_curve h.kept)

      set_long : length set_rows ≡ length t / curve_size
      set_long = length-set rows k (encode_curve h.kept) ∙ length_rows_in curve_size t

      set_sized : Long curve_size set_rows
      set_sized = each_set (λ r. length r ≡ curve_size) k rows (encode_curve h.kept) size (rows_long curve_size t)

      set_put : o ≡ over l at (row_bytes set_rows)
      set_put = row_set curve_size k t below l at m a is end (encode_curve h.kept) n o (omega (arith, length_after h)) size g f

      set_end : b ≡ at + length set_rows * curve_size
      set_end = omega (arith, set_long, end, e)

      pub set_only : h.added ≡ None → o ≡ over l at (row_bytes (curves_after k h t))
      unfolding curves_after
      set_only z =
          set_put ∙ ap (λ x. over l at (row_bytes x)) (sym (append-nil set_rows))
          ∙ ap (λ (x : Option Curve). over l at (row_bytes (set_rows ++ map encode_curve (option_to_list x)))) (sym z)

      pub set_added : (c : Curve) (q : List ℕ) → h.added ≡ Some c → length (encode_curve c) ≡ curve_size → q ≡ over_if_fits o b (encode_curve c) → q ≡ over l at (row_bytes (curves_after k h t))
      unfolding curves_after
      set_added c q z y x =
          let one = ap (λ (x : Option Curve). length (option_to_list x)) z in
          row_then curve_size l at set_rows o b set_sized set_put set_end (encode_curve c) q y (omega (arith, set_long, length_after h, one)) x
          ∙ ap (λ (x : Option Curve). over l at (row_bytes (set_rows ++ map encode_curve (option_to_list x)))) (sym z)
