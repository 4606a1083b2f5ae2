-- Tables of records of one size: their rows, what is written of them and what they are tested as, for any type of record.
use mathlib.Core.Path.{◌≡◌, refl, sym, ap, ◌∙◌}
use mathlib.Core.Bool.{Bool, true, false, ◌&&◌}
use mathlib.Core.List.{List, [], ◌∷◌, ◌++◌, map, map-append, append_assoc, append-nil}
use Prim.Native.Nat.{ℕ, zero, suc, ◌+◌, ◌*◌, ◌≤◌, ◌<◌, ◌-◌}
use native.Mathlib.Nat.{suc-mul, add-mul, one-mul}
use native.Mathlib.Numerals.{add-one}
use native.Mathlib.Omega.{arith}
use lib.ListN.{length, take, drop, get_or, set, length-append, length-drop}
use lib.Seq.{take_at, drop_at, get_or-drop, length-take-le, take-suc, take-suc-set, take_all}
use lib.Dec.{lit<}
use Rattle.big_endian.specs.Fields.{part, over}
use Rattle.big_endian.specs.Laws.{Bytes, part_join, over_nil, over_over, length_over}
use Rattle.sketch.specs.Lists.{every, concat_map}
use Rattle.sketch.specs.Valid.{table_fault, list_fault}
use Rattle.sketch.specs.Facts.{Every}
use Rattle.sketch.proofs.Bools.{and_both}
use Rattle.sketch.proofs.Lists.{concat_map_append}
use Rattle.image.specs.Stored.{Each}
use Rattle.image.specs.Image.{rows_at, row_id}

-- ---- rows

pub length_rows : (size n : ℕ) (s : List ℕ) (at : ℕ) → length (rows_at size n s at) ≡ n
unfolding rows_at
length_rows size zero s at = refl
length_rows size (suc n) s at = ap suc (length_rows size n s (at + size))

pub row_at : (size n : ℕ) (s : List ℕ) (at i : ℕ) → i < n → get_or (rows_at size n s at) i [] ≡ part s (at + i * size) size
unfolding rows_at
row_at size zero s at i h = absurd (omega arith)
row_at size (suc n) s at zero h = let e : at + 0 * size ≡ at = omega arith in rw e
row_at size (suc n) s at (suc i) h =
    let e : at + suc i * size ≡ at + size + i * size = rw suc-mul (omega arith) in
    rw e (row_at size n s (at + size) i (omega arith))

-- rows side by side are one part
pub rows_join : (size n : ℕ) (s : List ℕ) (at : ℕ) → concat_map (λ r. r) (rows_at size n s at) ≡ part s at (n * size)
unfolding rows_at
rows_join size zero s at = let e : 0 * size ≡ 0 = omega arith in rw e
rows_join size (suc n) s at =
    let e : suc n * size ≡ size + n * size = rw suc-mul (omega arith) in
    rw (e, rows_join size n s (at + size)) (part_join s at size (n * size))

-- rows of bytes are bytes, each as long as a record
pub bytes_take : (n : ℕ) (l : List ℕ) → Bytes l → Bytes (take n l)
bytes_take zero l b k = lit< tt
bytes_take (suc n) [] b k = lit< tt
bytes_take (suc n) (a ∷ l) b zero = b 0
bytes_take (suc n) (a ∷ l) b (suc k) = bytes_take n l (λ j. b (suc j)) k

bytes_part : (s : List ℕ) (at n : ℕ) → Bytes s → Bytes (part s at n)
bytes_part s at n b = bytes_take n (drop at s) (λ k. rw get_or-drop (b (at + k)))

pub record Proper (size : ℕ) (r : List ℕ) : Type 0 where
  pub are_bytes : Bytes r
  pub long : length r ≡ size

pub rows_proper : (size n : ℕ) (s : List ℕ) (at : ℕ) → Bytes s → at + n * size ≤ length s → Each (Proper size) (rows_at size n s at)
unfolding rows_at
rows_proper size zero s at b h = tt
rows_proper size (suc n) s at b h =
    let e : suc n * size ≡ size + n * size = rw suc-mul (omega arith) in
    let l : size ≤ length (drop at s) = rw length-drop (omega arith) in
    (record { are_bytes = bytes_part s at size b; long = length-take-le size (drop at s) l }, rows_proper size n s (at + size) b (omega arith))

-- ---- records written

module _ {A : Type 0} (enc : A → List ℕ) (size : ℕ) where
  -- each record is written in `size` bytes
  abbrev pub Sized : List A → Type 0
  Sized l = Each (λ a. length (enc a) ≡ size) l

  pub sized_all : ((a : A) → length (enc a) ≡ size) → (l : List A) → Sized l
  sized_all h [] = tt
  sized_all h (a ∷ l) = (h a, sized_all h l)

  pub length_concat_map : (l : List A) → Sized l → length (concat_map enc l) ≡ length l * size
  length_concat_map [] w = omega arith
  length_concat_map (a ∷ l) w = length-append (enc a) (concat_map enc l) ∙ rw (w.0, length_concat_map l w.1, suc-mul) (omega arith)

  -- the rows of what was written are the records' bytes
  pub rows_concat_map : (l : List A) → Sized l → (s pre post : List ℕ) (at : ℕ) → s ≡ pre ++ (concat_map enc l ++ post) → length pre ≡ at
      → rows_at size (length l) s at ≡ map enc l
  unfolding rows_at
  rows_concat_map [] w s pre post at e k = refl
  rows_concat_map (a ∷ l) w s pre post at e k =
      let r : part s at size ≡ enc a = rw (e, drop_at pre (concat_map enc (a ∷ l) ++ post) at k, append_assoc (enc a) (concat_map enc l) post, take_at (enc a) (concat_map enc l ++ post) size w.0) in
      let t = rows_concat_map l w.1 s (pre ++ enc a) post (at + size) (e ∙ simp append_assoc) (length-append pre (enc a) ∙ rw (k, w.0)) in
      rw (r, t)

-- ---- records there and back

-- the bytes `enc a` spell the record a, and are tested as it is
pub record Spells {A : Type 0} (enc : A → List ℕ) (of : List ℕ → A) (form : List ℕ → Bool) (ok : A → Bool) (a : A) : Type 0 where
  pub tested : (form (enc a) && ok (of (enc a))) ≡ ok a
  pub spelled : of (enc a) ≡ a

module _ {A : Type 0} (enc : A → List ℕ) (of : List ℕ → A) (form : List ℕ → Bool) (ok sound : A → Bool) where
  pub of_rows : (l : List A) → Each (Spells enc of form ok) l → map of (map enc l) ≡ l
  of_rows [] w = refl
  of_rows (a ∷ l) w = rw (w.0.spelled, of_rows l w.1)

  -- what was written is tested as what it was written from
  pub list_there : (l : List A) → Each (Spells enc of form ok) l → list_fault (λ r. form r && ok (of r)) (λ r. sound (of r)) (map enc l) ≡ list_fault ok sound l
  list_there [] w = refl
  list_there (a ∷ l) w = rw (w.0.tested, w.0.spelled, list_there l w.1)

  module _ (id : A → ℕ) (named : (r : List ℕ) → row_id r ≡ id (of r)) where
    pub table_there : (next last rest : ℕ) (l : List A) → Each (Spells enc of form ok) l
        → table_fault row_id (λ r. form r && ok (of r)) (λ r. sound (of r)) next last (map enc l) rest ≡ table_fault id ok sound next last l rest
    table_there next last rest [] w = refl
    table_there next last rest (a ∷ l) w =
        rw (w.0.tested, named (enc a), w.0.spelled, table_there next (id a) rest l w.1)

-- rows that pass are what their values are written as
pub concat_map_back : {A : Type 0} (enc : A → List ℕ) (of : List ℕ → A) (form : List ℕ → Bool) (ok : A → Bool) (size : ℕ)
    → ((r : List ℕ) → Bytes r → length r ≡ size → form r ≡ true → ok (of r) ≡ true → enc (of r) ≡ r)
    → (rows : List (List ℕ)) → Each (Proper size) rows → every (λ r. form r && ok (of r)) rows ≡ true → concat_map enc (map of rows) ≡ concat_map (λ r. r) rows
concat_map_back enc of form ok size back [] w h = refl
concat_map_back enc of form ok size back (r ∷ rows) w h =
    let k = and_both (form r && ok (of r)) _ h in
    let t = and_both (form r) _ k.0 in
    rw (back r w.0.are_bytes w.0.long t.0 t.1, concat_map_back enc of form ok size back rows w.1 k.1)

pub every_true : {A : Type 0} (f : A → Bool) (l : List A) → Every f l → every f l ≡ true
every_true f [] w = refl
every_true f (a ∷ l) w = rw (w.0, every_true f l w.1)

-- ---- a table's rows made into values

module _ {A : Type 0} (of : List ℕ → A) (form plain : List ℕ → Bool) (id : A → ℕ) (ok sound : A → Bool)
    (kept : (r : List ℕ) → plain r ≡ true → form r ≡ true)
    (lost : (r : List ℕ) → plain r ≡ false → (form r && ok (of r)) ≡ false) where
  pub list_whole : (rows : List (List ℕ)) → every plain rows ≡ true
      → list_fault (λ r. form r && ok (of r)) (λ r. sound (of r)) rows ≡ list_fault ok sound (map of rows)
  list_whole [] h = refl
  list_whole (r ∷ rows) h =
      let k = and_both (plain r) _ h in
      rw (kept r k.0, list_whole rows k.1)

  module _ (named : (r : List ℕ) → row_id r ≡ id (of r)) (next : ℕ) where
    pub table_whole : (last rest : ℕ) (rows : List (List ℕ)) → every plain rows ≡ true
        → table_fault row_id (λ r. form r && ok (of r)) (λ r. sound (of r)) next last rows rest ≡ table_fault id ok sound next last (map of rows) rest
    table_whole last rest [] h = refl
    table_whole last rest (r ∷ rows) h =
        let k = and_both (plain r) _ h in
        rw (kept r k.0, named r, table_whole (id (of r)) rest rows k.1)

-- ---- loops that make values of the rows of a table: `seen` gives the values in the slots

module _ {A S : Type 0} (of : List ℕ → A) (seen : List S → List A) (value : S → A)
    (snoc : (l : List S) (x : S) → seen (l ++ (x ∷ [])) ≡ seen l ++ (value x ∷ [])) where
  -- after i rows
  abbrev pub Filled : List (List ℕ) → List S → ℕ → Type 0
  Filled rows slots i = seen (take i slots) ≡ map of (take i rows)

  pub filling : (rows : List (List ℕ)) (slots : List S) (i : ℕ) (x : S) → i < length rows → i < length slots → value x ≡ of (get_or rows i []) → Filled rows slots i → Filled rows (set slots i x) (i + 1)
  filling rows slots i x h k e w =
      let t : take (i + 1) rows ≡ take i rows ++ (get_or rows i [] ∷ []) = rw add-one (take-suc rows i [] h) in
      let u : take (i + 1) (set slots i x) ≡ take i slots ++ (x ∷ []) = rw add-one (take-suc-set slots i x k) in
      rw (u, snoc, w, t, map-append, e)

  pub filled : (rows : List (List ℕ)) (slots : List S) (n i : ℕ) → n ≡ i → n ≡ length rows → Filled rows slots i → seen (take n slots) ≡ map of rows
  filled rows slots n i e h w = let t : take i rows ≡ rows = take_all i rows (omega arith) in rw e (w ∙ rw t)

-- ---- loops that write records

module _ {A S : Type 0} (enc : A → List ℕ) (size : ℕ) (seen : List S → List A) (value : S → A)
    (snoc : (l : List S) (x : S) → seen (l ++ (x ∷ [])) ≡ seen l ++ (value x ∷ [])) where
  -- after i records
  pub record Writing (before : List ℕ) (from : ℕ) (items : List S) (i : ℕ) (now : List ℕ) : Type 0 where
    pub written : now ≡ over before from (concat_map enc (seen (take i items)))
    pub so_long : length (concat_map enc (seen (take i items))) ≡ i * size
    pub same_long : length now ≡ length before

  pub writing_starts : seen [] ≡ [] → (l : List ℕ) (from : ℕ) (items : List S) → Writing l from items 0 l
  writing_starts e l from items = record { written = rw e (sym (over_nil l from)); so_long = rw e (omega arith); same_long = refl }

  pub writing_turns : (l : List ℕ) (from : ℕ) (items : List S) (i : ℕ) (none : S) (now then : List ℕ) → i < length items → from + (i + 1) * size ≤ length l
      → length (enc (value (get_or items i none))) ≡ size → then ≡ over now (from + i * size) (enc (value (get_or items i none))) → Writing l from items i now → Writing l from items (i + 1) then
  writing_turns l from items i none now then h k z e w =
      let x = enc (value (get_or items i none)) in
      let a = concat_map enc (seen (take i items)) in
      let m : (i + 1) * size ≡ i * size + size = rw (add-mul, one-mul) in
      let n : from + i * size ≡ from + length a = rw w.so_long in
      let t : concat_map enc (seen (take (i + 1) items)) ≡ a ++ x = rw (add-one, take-suc items i none h, snoc, concat_map_append enc (seen (take i items)) (value (get_or items i none) ∷ []), append-nil) in
      let la : length a ≡ i * size = w.so_long in
      let lx : length (a ++ x) ≡ (i + 1) * size = length-append a x ∙ omega arith in
      let r : then ≡ over l from (a ++ x) = e ∙ rw (w.written, n) (over_over l from a x (omega arith)) in
      record {
        written = rw (r, t);
        so_long = rw (t, lx);
        same_long = rw r (length_over l from (a ++ x) (omega arith));
      }

-- the range of a slice where a row lies is the row at its place
pub row_part : (size n : ℕ) (s : List ℕ) (from i : ℕ) → i < n → take (from + i * size + size - (from + i * size)) (drop (from + i * size) s) ≡ get_or (rows_at size n s from) i []
row_part size n s from i h =
    let e : from + i * size + size - (from + i * size) ≡ size = omega arith in
    rw e (sym (row_at size n s from i h))

-- what holds of every entry of a table holds of the one at a place
pub every_at : {A : Type 0} (f : A → Bool) (l : List A) (n i : ℕ) (none : A) → every f (take n l) ≡ true → i < n → i < length l → f (get_or l i none) ≡ true
every_at f [] n i none h p q = absurd (omega arith)
every_at f (a ∷ l) zero i none h p q = absurd (omega arith)
every_at f (a ∷ l) (suc n) zero none h p q = (and_both (f a) _ h).0
every_at f (a ∷ l) (suc n) (suc i) none h p q = every_at f l n i none (and_both (f a) _ h).1 (omega arith) (omega arith)

pub every_row : (f : List ℕ → Bool) (rows : List (List ℕ)) (i : ℕ) → every f rows ≡ true → i < length rows → f (get_or rows i []) ≡ true
every_row f rows i h q =
    let t : take (length rows) rows ≡ rows = take_all (length rows) rows (omega arith) in
    every_at f rows (length rows) i [] (rw t h) q q

pub every_map : {A B : Type 0} (f : B → Bool) (g : A → B) (l : List A) → every f (map g l) ≡ every (λ a. f (g a)) l
every_map f g [] = refl
every_map f g (a ∷ l) = rw (every_map f g l)
