-- The record with an id: how code takes it, and what its length tells.
use mathlib.Core.Path.{◌≡◌, refl, sym, ap, ◌∙◌}
use mathlib.Core.List.{List}
use Prim.Native.Nat.{ℕ, ◌+◌, ◌*◌, ◌-◌, ◌/◌, ◌≤◌, ◌<◌}
use native.Mathlib.Nat.{le-div_iff_mul-le, add-mul, one-mul}
use native.Mathlib.Omega.{arith}
use mathlib.Core.Bool.{Bool, true, false}
use borrow.Author.Tests.{ltb-true, ltb-false}
use lib.Dec.{ltb}
use lib.ListN.{length, take, drop, length-drop}
use lib.Seq.{length-take-le}
use Rattle.big_endian.specs.Fields.{field, part}
use Rattle.sketch.specs.Drawing.{id_size}
use Rattle.image.specs.Image.{row_id}
use Rattle.sketch.proofs.Bisection.{found_here}
use Rattle.rows.specs.Rows.{ids_in, RecordOf}
use Rattle.rows.proofs.Rows.{length_ids_in, row_within, row_in_part, row_in_past, row_taken, field_part, id_in}

-- a record that ends within the table is one of its rows
pub row_fits : (size n i : ℕ) → 0 < size → i * size + size ≤ n → i < n / size
row_fits size n i z h = let e : (i + 1) * size ≡ i * size + size = rw (add-mul, one-mul) in let q : i + 1 ≤ n / size = (le-div_iff_mul-le z).1 (omega arith) in omega arith

module _ (size : ℕ) (t : List ℕ) (id : ℕ) where
  -- the bytes at a place that begin with the id
  pub record_taken : (i : ℕ) → id_size ≤ size → i * size + size ≤ length t → field (take (i * size + size - i * size) (drop (i * size) t)) 0 id_size ≡ id → RecordOf size t id (take (i * size + size - i * size) (drop (i * size) t))
  record_taken i z h e =
      let q : i < length t / size = row_fits size (length t) i (omega arith) h in
      let p = row_taken size t i q in
      let f : field t (i * size) id_size ≡ id = sym (field_part t (i * size) size id_size z) ∙ ap (λ (l : List ℕ). field l 0 id_size) (sym (row_in_part size t i q) ∙ sym p) ∙ e in
      record { place = i; found = found_here id (ids_in size t) i (rw (length_ids_in size t) q) (id_in size t i q ∙ ap row_id (row_in_part size t i q) ∙ field_part t (i * size) size id_size z ∙ f); is = p }

  -- a record that is there is as long as its size, and one that is missing is empty
  module _ {r : List ℕ} (w : RecordOf size t id r) where
    pub record_there : 0 < size → size ≤ length r → w.place < length t / size
    record_there z h = go (ltb w.place (length t / size)) refl
      where
        go : (b : Bool) → ltb w.place (length t / size) ≡ b → w.place < length t / size
        go true e = ltb-true _ _ e
        go false e = let n : length r ≡ 0 = ap length (w.is ∙ row_in_past size t w.place (ltb-false _ _ e)) in absurd (omega arith)

    pub record_missing : length r < size → length t / size ≤ w.place
    record_missing h = go (ltb w.place (length t / size)) refl
      where
        go : (b : Bool) → ltb w.place (length t / size) ≡ b → length t / size ≤ w.place
        go true e =
            let q = ltb-true w.place (length t / size) e in
            let m : w.place * size + size ≤ length t = row_within size t w.place q in
            let l : length (part t (w.place * size) size) ≡ size = length-take-le size (drop (w.place * size) t) (rw length-drop (omega arith)) in
            let n : length r ≡ size = ap length (w.is ∙ row_in_part size t w.place q) ∙ l in
            absurd (omega arith)
        go false e = ltb-false _ _ e
