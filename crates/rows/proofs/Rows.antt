-- Tables of records of one size: the rows of a table, by their places and as parts of the image that the table is a part of.
use mathlib.Core.Path.{◌≡◌, refl, sym, ap, ◌∙◌}
use mathlib.Core.List.{List, [], ◌∷◌}
use Prim.Native.Nat.{ℕ, zero, suc, ◌+◌, ◌*◌, ◌-◌, ◌/◌, ◌≤◌, ◌<◌}
use native.Mathlib.Nat.{suc-mul, add-mul, one-mul, mul-le-mul_right, div-mul-le_self, mul-div_cancel}
use native.Mathlib.Omega.{arith}
use lib.ListN.{length, take, drop, get_or, length-map, length-drop, get_or-eq_default, drop_of_length-le}
use lib.Seq.{drop-drop, get_or-take, get_or-drop, length-take-le, take_all}
use Rattle.std.specs.Simd.{first_chunks}
use Rattle.big_endian.specs.Fields.{field, part}
use Rattle.sketch.proofs.Facts.{get_or_mapped}
use Rattle.image.specs.Image.{rows_at, row_id}
use Rattle.image.proofs.Tables.{length_rows, row_at}
use Rattle.rows.specs.Rows.{rows_in, row_in, ids_in}
use Rattle.sketch.specs.Drawing.{id_size}

module _ (size : ℕ) (t : List ℕ) where
  pub length_rows_in : length (rows_in size t) ≡ length t / size
  unfolding rows_in
  length_rows_in = length_rows size (length t / size) t 0

  pub length_ids_in : length (ids_in size t) ≡ length t / size
  length_ids_in = length-map (rows_in size t) row_id ∙ length_rows_in

  module _ (i : ℕ) where
    -- a row that starts within a table ends within it
    pub row_within : i < length t / size → i * size + size ≤ length t
    row_within q =
        let m : (i + 1) * size ≤ length t / size * size = mul-le-mul_right size (omega arith) in
        let e : (i + 1) * size ≡ i * size + size = rw (add-mul, one-mul) in
        let d : length t / size * size ≤ length t = div-mul-le_self (length t) size in
        omega arith

    pub row_in_part : i < length t / size → row_in size t i ≡ part t (i * size) size
    unfolding rows_in
    row_in_part q = let z : 0 + i * size ≡ i * size = omega arith in row_at size (length t / size) t 0 i q ∙ rw z

    pub row_in_past : length t / size ≤ i → row_in size t i ≡ []
    row_in_past q = get_or-eq_default (rows_in size t) [] (rw length_rows_in q)

    -- the part that code takes is the row at its place
    pub row_taken : i < length t / size → take (i * size + size - i * size) (drop (i * size) t) ≡ row_in size t i
    row_taken q = let e : i * size + size - i * size ≡ size = omega arith in rw e (sym (row_in_part q))

-- ---- a table as a slice of arrays

chunks_at : (size n : ℕ) (t : List ℕ) (at : ℕ) → first_chunks size n (drop at t) ≡ rows_at size n t at
unfolding rows_at
chunks_at size zero t at = refl
chunks_at size (suc n) t at =
    let d : drop size (drop at t) ≡ drop (at + size) t = drop-drop size at t ∙ ap (λ (k : ℕ). drop k t) (omega arith) in
    rw (d, chunks_at size n t (at + size))

pub chunks : (size : ℕ) (t : List ℕ) → first_chunks size (length t / size) t ≡ rows_in size t
unfolding rows_in
chunks size t = chunks_at size (length t / size) t 0

-- ---- a part as a range: past the end, the rest, or all of it

pub part_past : (s : List ℕ) (at n : ℕ) → length s ≤ at → take (length s - length s) (drop (length s) s) ≡ part s at n
part_past s at n h =
    let w : length s ≤ length s = omega arith in
    let a : drop (length s) s ≡ [] = drop_of_length-le s w in
    let b : drop at s ≡ [] = drop_of_length-le s h in
    rw (a, b) (take_nil (length s - length s) ∙ sym (take_nil n))
  where
    take_nil : (k : ℕ) → take {A = ℕ} k [] ≡ []
    take_nil zero = refl
    take_nil (suc k) = refl

pub part_rest : (s : List ℕ) (at n : ℕ) → length s - at ≤ n → take (length s - at) (drop at s) ≡ part s at n
part_rest s at n h = take_all (length s - at) (drop at s) (rw length-drop (omega arith)) ∙ sym (take_all n (drop at s) (rw length-drop h))

pub part_taken : (s : List ℕ) (at n : ℕ) → take (at + n - at) (drop at s) ≡ part s at n
part_taken s at n = let e : at + n - at ≡ n = omega arith in rw e

-- ---- ids

pub field_part : (s : List ℕ) (at n m : ℕ) → m ≤ n → field (part s at n) 0 m ≡ field s at m
unfolding field
field_part s at n zero h = refl
field_part s at n (suc m) h =
    let z : 0 + m ≡ m = omega arith in
    let k : m < n = omega arith in
    rw (field_part s at n m (omega arith), z, get_or-take n (drop at s) m 0 k, get_or-drop at s m 0)

-- an id's bytes, taken out of a table, spell what they spelled in it
pub id_taken : (t : List ℕ) (at : ℕ) → field (take (at + id_size - at) (drop at t)) 0 id_size ≡ field t at id_size
id_taken t at = ap (λ (l : List ℕ). field l 0 id_size) (part_taken t at id_size) ∙ field_part t at id_size id_size (omega arith)

-- the id of the row at a place
pub id_in : (size : ℕ) (t : List ℕ) (i : ℕ) → i < length t / size → get_or (ids_in size t) i 0 ≡ row_id (row_in size t i)
id_in size t i q = get_or_mapped row_id 0 [] (rows_in size t) i (rw (length_rows_in size t) q)

-- a row that has the id stands where a look-up finds it
pub found_at_row : (size : ℕ) (t : List ℕ) (i : ℕ) → i < length t / size → (id : ℕ) → row_id (row_in size t i) ≡ id → (i < length (ids_in size t)) × (get_or (ids_in size t) i 0 ≡ id)
found_at_row size t i q id e = (rw (length_ids_in size t) q, id_in size t i q ∙ e)

-- ---- a table is a part of an image

part_part : (s : List ℕ) (at n from m : ℕ) → from + m ≤ n → part (part s at n) from m ≡ part s (at + from) m
part_part s at n from m h = takes n from m (drop at s) h ∙ ap (take m) (drop-drop from at s)
  where
    takes : (n from m : ℕ) (l : List ℕ) → from + m ≤ n → take m (drop from (take n l)) ≡ take m (drop from l)
    takes n zero zero l h = refl
    takes zero zero (suc m) l h = absurd (omega arith)
    takes (suc n) zero (suc m) [] h = refl
    takes (suc n) zero (suc m) (a ∷ l) h = ap (λ (x : List ℕ). a ∷ x) (takes n zero m l (omega arith))
    takes zero (suc from) m l h = absurd (omega arith)
    takes (suc n) (suc from) m [] h = refl
    takes (suc n) (suc from) m (a ∷ l) h = takes n from m l (omega arith)

rows_of_part_from : (size k n : ℕ) (s : List ℕ) (at from : ℕ) → from + k * size ≤ n → rows_at size k (part s at n) from ≡ rows_at size k s (at + from)
unfolding rows_at
rows_of_part_from size zero n s at from h = refl
rows_of_part_from size (suc k) n s at from h =
    let e : suc k * size ≡ size + k * size = suc-mul k size ∙ omega arith in
    let z : at + from + size ≡ at + (from + size) = omega arith in
    rw (part_part s at n from size (omega arith), z, rows_of_part_from size k n s at (from + size) (omega arith))

pub rows_of_part : (size n : ℕ) (s : List ℕ) (at : ℕ) → 0 < size → at + n * size ≤ length s → rows_in size (part s at (n * size)) ≡ rows_at size n s at
unfolding rows_in
rows_of_part size n s at p h =
    let l : length (part s at (n * size)) ≡ n * size = length-take-le (n * size) (drop at s) (rw length-drop (omega arith)) in
    let q : length (part s at (n * size)) / size ≡ n = rw l (mul-div_cancel n p) in
    let z : at + 0 ≡ at = omega arith in
    rw q (rows_of_part_from size n (n * size) s at 0 (omega arith) ∙ rw z)
