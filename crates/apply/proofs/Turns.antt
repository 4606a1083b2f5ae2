-- What the code's tests and turns come to, whatever the bytes. Assumes nothing.
use mathlib.Core.Path.{◌≡◌, refl, sym, ap, ◌∙◌}
use mathlib.Core.Bool.{Bool, true, false, not, ◌&&◌, ◌||◌}
use mathlib.Core.List.{List, [], ◌∷◌, map, ◌++◌}
use Prim.Native.Nat.{ℕ, ◌+◌, ◌*◌, ◌-◌, ◌/◌, ◌≤◌, ◌<◌}
use native.Mathlib.Omega.{arith}
use lib.Dec.{leb, ltb, eqb}
use lib.ListN.{length, take, drop, get_or, length-map, take-append-drop}
use lib.Seq.{take_all}
use borrow.Author.Tests.{le-leb, leb-true}
use Rattle.big_endian.specs.Fields.{field, over}
use Rattle.std.specs.Prelude.{Option, Some, None, is_some, option_to_list, cond}
use Rattle.std.specs.List.{filter}
use Rattle.sketch.specs.declared.Curve.{Curve}
use Rattle.sketch.specs.Lists.{ite, keep, concat_map}
use Rattle.sketch.specs.Lookup.{among}
use Rattle.sketch.specs.Blanks.{no_curve}
use Rattle.sketch.proofs.Bools.{and_both}
use Rattle.sketch.proofs.Facts.{get_or_mapped}
use Rattle.sketch.proofs.Lists.{keep_append, keep_twice, keep_same, keep_true}
use Rattle.image.specs.Records.{point_size, curve_size, relation_size}
use Rattle.image.specs.Image.{row_id}
use Rattle.image.specs.Decode.{read_curve, read_relation}
use Rattle.image.specs.Encode.{encode_relation, encode_point}
use Rattle.image.proofs.Relations.{length_relation}
use Rattle.rows.specs.Rows.{rows_in, row_in, curves_in}
use Rattle.rows.proofs.Rows.{length_rows_in}
use Rattle.edit_plan.specs.declared.Extent.{Extent}
use Rattle.edit_plan.specs.declared.Orphans.{Orphans}
use Rattle.edit_plan.specs.Tables.{uses, others}
use Rattle.edit_plan.specs.Changes.{left_of, orphan_list, staying, unused_by, points_new, curves_new, relations_new}
use Rattle.edit_plan.proofs.Loops.{single, keep_is}
use Rattle.edit_plan.proofs.Unused.{uses_append, unused_in, unused_on, unused_past}
use Rattle.edit_plan.proofs.Leaves.{among_append, or_false}
use Rattle.apply.specs.Clauses.{row_bytes, concerned, left_row, staying_rows, TablesWithin}
use Rattle.apply.proofs.RowRuns.{Long, rows_long, each_take, each_all, each_map}
use Rattle.apply.proofs.Walks.{up_to}
use Rattle.edit_plan.specs.declared.Change.{Change}
use Rattle.sketch.specs.declared.Point.{Point}
use Rattle.sketch.specs.declared.Relation.{Relation}

pub at_most_one : {A : Type 0} (o : Option A) → length (option_to_list o) ≤ 1
at_most_one None = omega arith
at_most_one (Some a) = omega arith

-- ---- limits

pub limits_test : (p c r : List ℕ) → ((leb (length p / point_size) 512 && leb (length c / curve_size) 128) && leb (length r / relation_size) 256 ≡ true → TablesWithin p c r)
    × (TablesWithin p c r → (leb (length p / point_size) 512 && leb (length c / curve_size) 128) && leb (length r / relation_size) 256 ≡ true)
limits_test p c r =
    let np = length_rows_in point_size p in
    let nc = length_rows_in curve_size c in
    let nr = length_rows_in relation_size r in (
      λ h.
          let x = and_both (leb (length p / point_size) 512 && leb (length c / curve_size) 128) _ h in
          let y = and_both (leb (length p / point_size) 512) _ x.0 in
          record {
            points = omega (arith, np, leb-true (length p / point_size) 512 y.0);
            curves = omega (arith, nc, leb-true (length c / curve_size) 128 y.1);
            relations = omega (arith, nr, leb-true (length r / relation_size) 256 x.1);
          },
      λ w.
          rw (
            le-leb (length p / point_size) 512 (omega (arith, np, w.points)),
            le-leb (length c / curve_size) 128 (omega (arith, nc, w.curves)),
            le-leb (length r / relation_size) 256 (omega (arith, nr, w.relations)),
          ),
    )

-- ---- the points that stay

abbrev pub stay : List ℕ → List ℕ → List (List ℕ)
stay os r = single (λ r. staying os (row_id r)) r

pub staying_is : (os t : List ℕ) → concat_map (stay os) (rows_in point_size t) ≡ staying_rows os t
unfolding staying_rows
staying_is os t = keep_is (λ r. staying os (row_id r)) (rows_in point_size t)

pub stay_long : (os t : List ℕ) (i : ℕ) → Long point_size (up_to (stay os) point_size (rows_in point_size t) i)
stay_long os t i = each_all (λ r. length r ≡ point_size) (stay os) (λ r. length r ≡ point_size) kept (take i (rows_in point_size t)) (each_take (λ r. length r ≡ point_size) i (rows_in point_size t) (rows_long point_size t))
  where
    kept : (r : List ℕ) → length r ≡ point_size → Long point_size (stay os r)
    kept r h = go (staying os (row_id r))
      where
        go : (b : Bool) → Long point_size (ite b (r ∷ []) [])
        go true = (h, tt)
        go false = tt

pub stays_so : (os : List ℕ) (r : List ℕ) (p : ℕ) (b : Bool) → p ≡ row_id r → b ≡ among p os → b ≡ false → stay os r ≡ r ∷ []
stays_so os r p b e f z = ap (λ x. ite (not x) (r ∷ []) []) (sym (ap (λ x. among x os) e) ∙ sym f ∙ z)

pub goes_so : (os : List ℕ) (r : List ℕ) (p : ℕ) (b : Bool) → p ≡ row_id r → b ≡ among p os → b ≡ true → stay os r ≡ []
goes_so os r p b e f z = ap (λ x. ite (not x) (r ∷ []) []) (sym (ap (λ x. among x os) e) ∙ sym f ∙ z)

-- the rows that pass a test
filtered : {A : Type 0} (f : A → Bool) (l : List A) → filter f l ≡ keep f l
filtered f [] = refl
filtered f (a ∷ l) = go (f a) (filtered f l)
  where
    go : (b : Bool) → filter f l ≡ keep f l → cond b (a ∷ filter f l) (filter f l) ≡ ite b (a ∷ keep f l) (keep f l)
    go true e = ap (λ t. a ∷ t) e
    go false e = e

pub staying_kept : (os t : List ℕ) (rows : List (List ℕ)) → rows ≡ rows_in point_size t → filter (λ r. staying os (row_id r)) rows ≡ staying_rows os t
unfolding staying_rows
staying_kept os t rows e = filtered (λ r. staying os (row_id r)) rows ∙ ap (keep (λ r. staying os (row_id r))) e

-- where nothing goes, all stay
pub all_stay : (os : Orphans) (t : List ℕ) → orphan_list os ≡ [] → staying_rows (orphan_list os) t ≡ rows_in point_size t
unfolding staying_rows
all_stay os t h = rw (h) (keep_true (λ r. staying [] (row_id r)) (λ r. refl) (rows_in point_size t))

pub all_put : (os : Orphans) (t l : List ℕ) (at : ℕ) (m : List ℕ) (end n : ℕ) → n ≡ length t / point_size → orphan_list os ≡ []
    → m ≡ over l at (row_bytes (take (n - 0) (drop 0 (rows_in point_size t)))) → end ≡ at + (n - 0) * point_size
    → (m ≡ over l at (row_bytes (staying_rows (orphan_list os) t))) × (end ≡ at + length (staying_rows (orphan_list os) t) * point_size)
all_put os t l at m end n z h e f =
    let s = all_stay os t h in
    let k = length_rows_in point_size t in
    let all : take (n - 0) (rows_in point_size t) ≡ rows_in point_size t = take_all (n - 0) (rows_in point_size t) (omega arith) in
    (e ∙ ap (λ x. over l at (row_bytes x)) (all ∙ sym s), omega (arith, ap length s))

-- ---- the relations that are left

pub concerned_is : (e : Extent) (os r row : List ℕ) (a b : ℕ) (p q : Bool) → r ≡ row → a ≡ field r 1 4 → b ≡ field r 5 4 → p ≡ among a os → q ≡ among b os
    → ((eqb a e.id || eqb b e.id) || p) || q ≡ concerned e os row
concerned_is e os r row a b p q f ea eb ep eq = rw (ep, eq, ea, eb, f)

-- where no point goes only the curve counts
pub concerned_alone : (e : Extent) (os : Orphans) (r row : List ℕ) (a b : ℕ) → r ≡ row → a ≡ field r 1 4 → b ≡ field r 5 4 → orphan_list os ≡ []
    → (eqb a e.id || eqb b e.id) ≡ concerned e (orphan_list os) row
concerned_alone e os r row a b f ea eb h =
    let z = h in
    let g = concerned_is e (orphan_list os) r row a b false false f ea eb (sym (ap (among a) z)) (sym (ap (among b) z)) in
    sym (or_false (eqb a e.id || eqb b e.id)) ∙ sym (or_false ((eqb a e.id || eqb b e.id) || false)) ∙ g

pub left_stays : (e : Extent) (os r : List ℕ) → concerned e os r ≡ false → left_row e os r ≡ r ∷ []
unfolding left_row
left_stays e os r h = rw h

pub left_looked : (e : Extent) (os r : List ℕ) → concerned e os r ≡ true → left_row e os r ≡ map encode_relation (left_of e os (read_relation r))
unfolding left_row
left_looked e os r h = rw h

-- as many rows are left as relations
pub left_count : (e : Extent) (os r : List ℕ) → concerned e os r ≡ true → length (left_of e os (read_relation r)) ≡ length (left_row e os r)
left_count e os r h = sym (ap length (left_looked e os r h) ∙ length-map (left_of e os (read_relation r)) encode_relation)

pub some_there : {A : Type 0} (o : Option A) → is_some o ≡ ltb 0 (length (option_to_list o))
some_there None = refl
some_there (Some a) = refl

pub left_long : (e : Extent) (os r : List ℕ) → length r ≡ relation_size → Long relation_size (left_row e os r)
unfolding left_row
left_long e os r h = go (concerned e os r)
  where
    go : (b : Bool) → Long relation_size (ite b (map encode_relation (left_of e os (read_relation r))) (r ∷ []))
    go true = each_map (λ x. length x ≡ relation_size) encode_relation length_relation (left_of e os (read_relation r))
    go false = (h, tt)

pub lefts_long : (e : Extent) (os t : List ℕ) (i : ℕ) → Long relation_size (up_to (left_row e os) relation_size (rows_in relation_size t) i)
lefts_long e os t i =
    each_all (λ r. length r ≡ relation_size) (left_row e os) (λ r. length r ≡ relation_size) (left_long e os) (take i (rows_in relation_size t))
    (each_take (λ r. length r ≡ relation_size) i (rows_in relation_size t) (rows_long relation_size t))

-- ---- points that no curve uses

pub curve_read : (t : List ℕ) (i : ℕ) → i < length t / curve_size → get_or (curves_in t) i no_curve ≡ read_curve (row_in curve_size t i)
curve_read t i h = get_or_mapped read_curve no_curve [] (rows_in curve_size t) i (rw (length_rows_in curve_size t) h)

pub length_curves : (t : List ℕ) → length (curves_in t) ≡ length t / curve_size
length_curves t = length-map (rows_in curve_size t) read_curve ∙ length_rows_in curve_size t

module _ (t : List ℕ) (g i : ℕ) (h : i < length t / curve_size) (c : Curve) (is : c ≡ read_curve (row_in curve_size t i)) where
  same : get_or (curves_in t) i no_curve ≡ c
  same = curve_read t i h ∙ sym is

  pub unused_turn : (new old ps : List ℕ) → (g ≡ c.id → ⊥) → new ≡ keep (unused_in c) old → old ≡ unused_by (others g (take i (curves_in t))) ps → new ≡ unused_by (others g (take (i + 1) (curves_in t))) ps
  unused_turn new old ps ne e w =
      unused_on g i (curves_in t) (rw (length_curves t) h) new old ps (λ q. ne (q ∙ ap (λ (x : Curve). x.id) same)) (e ∙ ap (λ (x : Curve). keep (unused_in x) old) (sym same)) w

  pub unused_skip : (old ps : List ℕ) → g ≡ c.id → old ≡ unused_by (others g (take i (curves_in t))) ps → old ≡ unused_by (others g (take (i + 1) (curves_in t))) ps
  unused_skip old ps e w = unused_past g i (curves_in t) (rw (length_curves t) h) old ps (e ∙ ap (λ (x : Curve). x.id) (sym same)) w

-- where none is left to look for, none is left at the end
pub none_left : (xs ys : List Curve) (ps : List ℕ) → unused_by xs ps ≡ [] → unused_by (xs ++ ys) ps ≡ []
none_left xs ys ps h =
    keep_same _ _ ps both ∙ sym (keep_twice (λ p. not (among p (uses ys))) (λ p. not (among p (uses xs))) ps) ∙ ap (keep (λ p. not (among p (uses ys)))) h
  where
    go : (a b : Bool) → not (a || b) ≡ (not a && not b)
    go true b = refl
    go false b = refl

    both : (p : ℕ) → not (among p (uses (xs ++ ys))) ≡ (not (among p (uses xs)) && not (among p (uses ys)))
    both p = ap not (ap (among p) (uses_append xs ys) ∙ among_append p (uses xs) (uses ys)) ∙ go (among p (uses xs)) (among p (uses ys))

pub none_unused : (g i : ℕ) (cs : List Curve) (ps : List ℕ) (os : Orphans) → orphan_list os ≡ [] → orphan_list os ≡ unused_by (others g (take i cs)) ps → orphan_list os ≡ unused_by (others g cs) ps
none_unused g i cs ps os h e =
    let z = h in
    z ∙ sym (ap (λ (x : List Curve). unused_by (others g x) ps) (sym (take-append-drop i cs))
    ∙ ap (λ (x : List Curve). unused_by x ps) (keep_append (λ (c : Curve). not (eqb g c.id)) (take i cs) (drop i cs)) ∙ none_left (others g (take i cs)) (others g (drop i cs)) ps (sym e ∙ z))

-- ---- what a change adds

module _ (h : Change) where
  pub one_point : h.second_point ≡ None → map encode_point (points_new h) ≡ encode_point h.point ∷ []
  one_point e = rw e

  pub two_points : {q : Point} → h.second_point ≡ Some q → map encode_point (points_new h) ≡ encode_point h.point ∷ encode_point q ∷ []
  two_points e = rw e

  pub no_curve_lem : h.added ≡ None → curves_new h ≡ []
  no_curve_lem e = rw e

  pub one_curve : {c : Curve} → h.added ≡ Some c → curves_new h ≡ c ∷ []
  one_curve e = rw e

  pub one_relation : h.second_relation ≡ None → h.third_relation ≡ None → relations_new h ≡ h.relation ∷ []
  one_relation e f = rw (e, f)

  pub two_relations : {s : Relation} → h.second_relation ≡ Some s → h.third_relation ≡ None → relations_new h ≡ h.relation ∷ s ∷ []
  two_relations e f = rw (e, f)

  pub three_relations : {s t : Relation} → h.second_relation ≡ Some s → h.third_relation ≡ Some t → relations_new h ≡ h.relation ∷ s ∷ t ∷ []
  three_relations e f = rw (e, f)

  pub relations_more : {s : Relation} → h.second_relation ≡ Some s → 2 ≤ length (relations_new h)
  relations_more {s} e = rw e (omega arith)
