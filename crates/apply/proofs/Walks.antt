-- A walk over rows that leaves some, in runs: what lies between two rows that need a look is written at once. Assumes nothing.
use mathlib.Core.Path.{◌≡◌, refl, sym, ap, ◌∙◌}
use mathlib.Core.List.{List, [], ◌∷◌, ◌++◌, append-nil}
use Prim.Native.Nat.{ℕ, suc, ◌+◌, ◌*◌, ◌-◌, ◌≤◌, ◌<◌}
use native.Mathlib.Nat.{add-mul, mul-le-mul_right}
use native.Mathlib.Numerals.{add-one}
use native.Mathlib.Omega.{arith}
use lib.ListN.{length, take, drop, get_or, length-append, take-append-drop, length-drop}
use lib.Seq.{take-suc, take_all, take-add, get_or-drop, length-take-le}
use Rattle.big_endian.specs.Fields.{over}
use Rattle.big_endian.specs.Laws.{over_nil, length_over}
use Rattle.sketch.specs.Lists.{concat_map}
use Rattle.sketch.proofs.Lists.{concat_map_append}
use Rattle.apply.specs.Clauses.{row_bytes}
use Rattle.apply.proofs.RowRuns.{Long, length_row_bytes, over_then}

-- ---- one more

module _ {A B : Type 0} (g : A → List B) (l : List A) where
  pub map_next : (i : ℕ) (none : A) → i < length l → concat_map g (take (i + 1) l) ≡ concat_map g (take i l) ++ g (get_or l i none)
  map_next i none h = rw (add-one, take-suc l i none h) (concat_map_append g (take i l) (get_or l i none ∷ []) ∙ rw append-nil)

  pub map_all : (i : ℕ) → length l ≤ i → concat_map g (take i l) ≡ concat_map g l
  map_all i h = ap (concat_map g) (take_all i l h)

  pub map_part : (i : ℕ) → length (concat_map g (take i l)) ≤ length (concat_map g l)
  map_part i =
      let e : concat_map g l ≡ concat_map g (take i l) ++ concat_map g (drop i l) = ap (concat_map g) (sym (take-append-drop i l)) ∙ concat_map_append g (take i l) (drop i l) in
      let k = ap length e ∙ length-append (concat_map g (take i l)) (concat_map g (drop i l)) in
      omega arith

-- ---- `g` says what is left of a row; of `rows` those before `from` are done, and those from there up to i stay as they are

module _ (g : List ℕ → List (List ℕ)) (size : ℕ) (rows : List (List ℕ)) where
  abbrev pub up_to : ℕ → List (List ℕ)
  up_to i = concat_map g (take i rows)

  abbrev run : ℕ → ℕ → List (List ℕ)
  run from i = take (i - from) (drop from rows)

  pub record Walk (before : List ℕ) (at from i : ℕ) (now : List ℕ) (to : ℕ) : Type 0 where
    pub low : from ≤ i
    pub high : i ≤ length rows
    pub is : now ≡ over before at (row_bytes (up_to from))
    pub end : to ≡ at + length (up_to from) * size
    pub long : length now ≡ length before
    pub stays : concat_map g (run from i) ≡ run from i

  pub walk_starts : (l : List ℕ) (at : ℕ) → Walk l at 0 0 l at
  walk_starts l at = record { low = omega arith; high = omega arith; is = sym (over_nil l at); end = omega arith; long = refl; stays = refl }

  module _ (sized : (i : ℕ) → Long size (up_to i)) (before : List ℕ) (at from i : ℕ) (now : List ℕ) (to : ℕ) (w : Walk before at from i now to) where
    pub run_joins : up_to i ≡ up_to from ++ run from i
    run_joins =
        let h = w.low in
        let z : i ≡ from + (i - from) = omega arith in
        let e : take i rows ≡ take from rows ++ run from i = ap (λ k. take k rows) z ∙ take-add from (i - from) rows in
        ap (concat_map g) e ∙ concat_map_append g (take from rows) (run from i) ∙ ap (λ x. up_to from ++ x) w.stays

    pub run_long : length (up_to i) ≡ length (up_to from) + (i - from)
    run_long =
        let h = w.high in
        let k : i - from ≤ length (drop from rows) = rw length-drop (omega arith) in
        ap length run_joins ∙ length-append (up_to from) (run from i) ∙ ap (λ j. length (up_to from) + j) (length-take-le (i - from) (drop from rows) k)

    -- the run fits where all does
    pub run_fits : at + length (concat_map g rows) * size ≤ length before → to + (i - from) * size ≤ length now
    run_fits h =
        let k = run_long in
        let m : length (up_to i) * size ≤ length (concat_map g rows) * size = mul-le-mul_right size (map_part g rows i) in
        let e : length (up_to i) * size ≡ length (up_to from) * size + (i - from) * size = ap (λ x. x * size) k ∙ add-mul (length (up_to from)) (i - from) size in
        omega (arith, w.end, w.long)

    pub run_end : to + (i - from) * size ≡ at + length (up_to i) * size
    run_end =
        let e : length (up_to i) * size ≡ length (up_to from) * size + (i - from) * size = ap (λ x. x * size) run_long ∙ add-mul (length (up_to from)) (i - from) size in
        omega (arith, w.end)

    -- and is written at once
    pub run_written : (m : List ℕ) → at ≤ length before → m ≡ over now to (row_bytes (run from i)) → m ≡ over before at (row_bytes (up_to i))
    run_written m h e =
        let t : row_bytes (up_to i) ≡ row_bytes (up_to from) ++ row_bytes (run from i) = ap row_bytes run_joins ∙ concat_map_append (λ (r : List ℕ). r) (up_to from) (run from i) in
        let z : to ≡ at + length (row_bytes (up_to from)) = w.end ∙ ap (λ x. at + x) (sym (length_row_bytes size (up_to from) (sized from))) in
        over_then before at (row_bytes (up_to from)) now to (row_bytes (run from i)) m h w.is z e ∙ ap (over before at) (sym t)

    -- one row more stays as it is
    pub walk_runs : i < length rows → g (get_or rows i []) ≡ get_or rows i [] ∷ [] → Walk before at from (i + 1) now to
    walk_runs h y =
        let o = w.low in
        let z : i + 1 - from ≡ suc (i - from) = omega arith in
        let q : i - from < length (drop from rows) = rw length-drop (omega arith) in
        let u : from + (i - from) ≡ i = omega arith in
        let v : get_or (drop from rows) (i - from) [] ≡ get_or rows i [] = get_or-drop from rows (i - from) [] ∙ ap (λ j. get_or rows j []) u in
        let t : run from (i + 1) ≡ run from i ++ (get_or rows i [] ∷ []) = ap (λ j. take j (drop from rows)) z ∙ take-suc (drop from rows) (i - from) [] q ∙ ap (λ x. run from i ++ (x ∷ [])) v in
        record {
          low = omega arith;
          high = omega arith;
          is = w.is;
          end = w.end;
          long = w.long;
          stays = ap (concat_map g) t ∙ concat_map_append g (run from i) (get_or rows i [] ∷ []) ∙ rw (append-nil, y, w.stays) (sym t);
        }

    -- the run is written, and then what is left of one row more
    pub walk_writes : (j : ℕ) (m : List ℕ) (mid : ℕ) (n : List ℕ) (end : ℕ) → j ≡ i → i < length rows → at + length (concat_map g rows) * size ≤ length before
        → m ≡ over now to (row_bytes (run from j)) → mid ≡ to + (j - from) * size → n ≡ over m mid (row_bytes (g (get_or rows i []))) → end ≡ mid + length (g (get_or rows i [])) * size
        → Walk before at (i + 1) (i + 1) n end
    walk_writes j m mid n end ji h fits ej zj f y =
        let e : m ≡ over now to (row_bytes (run from i)) = ej ∙ ap (λ x. over now to (row_bytes (run from x))) ji in
        let z : mid ≡ to + (i - from) * size = zj ∙ ap (λ x. to + (x - from) * size) ji in
        let a : at ≤ length before = omega arith in
        let t = map_next g rows i [] h in
        let u : row_bytes (up_to (i + 1)) ≡ row_bytes (up_to i) ++ row_bytes (g (get_or rows i [])) = ap row_bytes t ∙ concat_map_append (λ (r : List ℕ). r) (up_to i) (g (get_or rows i [])) in
        let c = run_end in
        let p : mid ≡ at + length (row_bytes (up_to i)) = z ∙ c ∙ ap (λ x. at + x) (sym (length_row_bytes size (up_to i) (sized i))) in
        let q : n ≡ over before at (row_bytes (up_to (i + 1))) = over_then before at (row_bytes (up_to i)) m mid (row_bytes (g (get_or rows i []))) n a (run_written m a e) p f ∙ ap (over before at) (sym u) in
        let k : length (up_to (i + 1)) ≡ length (up_to i) + length (g (get_or rows i [])) = ap length t ∙ length-append (up_to i) (g (get_or rows i [])) in
        let x : length (up_to (i + 1)) * size ≡ length (up_to i) * size + length (g (get_or rows i [])) * size = ap (λ b. b * size) k ∙ add-mul (length (up_to i)) (length (g (get_or rows i []))) size in
        let b : length (up_to (i + 1)) * size ≤ length (concat_map g rows) * size = mul-le-mul_right size (map_part g rows (i + 1)) in
        let l : length (row_bytes (up_to (i + 1))) ≡ length (up_to (i + 1)) * size = length_row_bytes size (up_to (i + 1)) (sized (i + 1)) in
        let s : i + 1 - (i + 1) ≡ 0 = omega arith in
        record {
          low = omega arith;
          high = omega arith;
          is = q;
          end = omega arith;
          long = ap length q ∙ length_over before at (row_bytes (up_to (i + 1))) (omega arith);
          stays = rw s;
        }

    -- the run is written, and nothing is left of one row more
    pub walk_drops : (j : ℕ) (m : List ℕ) (mid : ℕ) → j ≡ i → i < length rows → at + length (concat_map g rows) * size ≤ length before → g (get_or rows i []) ≡ []
        → m ≡ over now to (row_bytes (run from j)) → mid ≡ to + (j - from) * size → Walk before at (i + 1) (i + 1) m mid
    walk_drops j m mid ji h fits y e z =
        walk_writes j m mid m mid ji h fits e z (sym (over_nil m mid) ∙ ap (λ x. over m mid (row_bytes x)) (sym y)) (sym (ap (λ x. mid + length x * size) y ∙ omega arith))

    -- what is left of the row after the run fits, too
    pub row_fits : i < length rows → at + length (concat_map g rows) * size ≤ length before → to + (i - from) * size + length (g (get_or rows i [])) * size ≤ length before
    row_fits h fits =
        let t = map_next g rows i [] h in
        let k : length (up_to (i + 1)) ≡ length (up_to i) + length (g (get_or rows i [])) = ap length t ∙ length-append (up_to i) (g (get_or rows i [])) in
        let x : length (up_to (i + 1)) * size ≡ length (up_to i) * size + length (g (get_or rows i [])) * size = ap (λ b. b * size) k ∙ add-mul (length (up_to i)) (length (g (get_or rows i []))) size in
        let b : length (up_to (i + 1)) * size ≤ length (concat_map g rows) * size = mul-le-mul_right size (map_part g rows (i + 1)) in
        omega (arith, run_end)

    -- after the last row
    pub walk_ends : (n : ℕ) (m : List ℕ) (end : ℕ) → n ≡ i → length rows ≤ i → at ≤ length before → m ≡ over now to (row_bytes (run from n)) → end ≡ to + (n - from) * size
        → (m ≡ over before at (row_bytes (concat_map g rows))) × (end ≡ at + length (concat_map g rows) * size)
    walk_ends n m end z h a e y =
        let t = map_all g rows i h in
        let c : m ≡ over now to (row_bytes (run from i)) = e ∙ ap (λ j. over now to (row_bytes (run from j))) z in
        (run_written m a c ∙ ap (λ x. over before at (row_bytes x)) t, y ∙ ap (λ j. to + (j - from) * size) z ∙ run_end ∙ ap (λ x. at + length x * size) t)
