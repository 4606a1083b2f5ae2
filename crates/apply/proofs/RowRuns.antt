-- Rows of one size, side by side: the bytes of a run, the length of what is row_bytes, and one part written after another. Assumes nothing.
use mathlib.Core.Path.{◌≡◌, sym, ap, ◌∙◌}
use mathlib.Core.Bool.{Bool, true, false}
use mathlib.Core.List.{List, [], ◌∷◌, ◌++◌, map}
use Prim.Native.Nat.{ℕ, zero, suc, ◌+◌, ◌*◌, ◌-◌, ◌/◌, ◌≤◌}
use native.Mathlib.Nat.{suc-mul, add-mul, div-mul-le_self, mul-le-mul_right}
use native.Mathlib.Omega.{arith}
use lib.ListN.{length, take, drop, set, length-drop}
use lib.Seq.{length-take-le}
use Rattle.big_endian.specs.Fields.{part, over, over_if_fits}
use Rattle.big_endian.specs.Laws.{part_join, over_over, over_fits}
use Rattle.sketch.specs.Lists.{ite, keep, concat_map}
use Rattle.image.specs.Stored.{Each}
use Rattle.image.specs.Image.{rows_at}
use Rattle.image.proofs.Tables.{length_concat_map}
use Rattle.rows.specs.Rows.{rows_in}
use Rattle.apply.specs.Clauses.{row_bytes}

-- ---- the bytes of a run

run_at : (size n i k : ℕ) (t : List ℕ) (at : ℕ) → i + k ≤ n → row_bytes (take k (drop i (rows_at size n t at))) ≡ part t (at + i * size) (k * size)
unfolding rows_at
run_at size n zero zero t at h = let z : 0 * size ≡ 0 = omega arith in rw z
run_at size zero zero (suc k) t at h = absurd (omega arith)
run_at size (suc n) zero (suc k) t at h =
    let z : at + 0 * size ≡ at = omega arith in
    let y : at + size + 0 * size ≡ at + size = omega arith in
    let e : suc k * size ≡ size + k * size = suc-mul k size ∙ omega arith in
    rw (z, e) (ap (λ (l : List ℕ). part t at size ++ l) (run_at size n zero k t (at + size) (omega arith) ∙ rw y) ∙ part_join t at size (k * size))
run_at size zero (suc i) k t at h = absurd (omega arith)
run_at size (suc n) (suc i) k t at h =
    let z : at + suc i * size ≡ at + size + i * size = rw suc-mul (omega arith) in
    rw z (run_at size n i k t (at + size) (omega arith))

pub run_bytes : (size : ℕ) (t : List ℕ) (i j : ℕ) → i ≤ j → j ≤ length t / size → row_bytes (take (j - i) (drop i (rows_in size t))) ≡ part t (i * size) ((j - i) * size)
unfolding rows_in
run_bytes size t i j h q = let z : 0 + i * size ≡ i * size = omega arith in run_at size (length t / size) i (j - i) t 0 (omega arith) ∙ rw z

-- ---- rows as long as a record

abbrev pub Long : ℕ → List (List ℕ) → Type 0
Long size rows = Each (λ r. length r ≡ size) rows

rows_at_long : (size n : ℕ) (t : List ℕ) (at : ℕ) → at + n * size ≤ length t → Long size (rows_at size n t at)
unfolding rows_at
rows_at_long size zero t at h = tt
rows_at_long size (suc n) t at h =
    let e : suc n * size ≡ size + n * size = suc-mul n size ∙ omega arith in
    (length-take-le size (drop at t) (rw length-drop (omega arith)), rows_at_long size n t (at + size) (omega arith))

pub rows_long : (size : ℕ) (t : List ℕ) → Long size (rows_in size t)
unfolding rows_in
rows_long size t = rows_at_long size (length t / size) t 0 (omega (arith, div-mul-le_self (length t) size))

pub length_row_bytes : (size : ℕ) (rows : List (List ℕ)) → Long size rows → length (row_bytes rows) ≡ length rows * size
length_row_bytes size rows w = length_concat_map (λ (r : List ℕ). r) size rows w

module _ {A : Type 0} (P : A → Type 0) where
  pub each_append : (l m : List A) → Each P l → Each P m → Each P (l ++ m)
  each_append [] m w v = v
  each_append (a ∷ l) m w v = (w.0, each_append l m w.1 v)

  pub each_take : (n : ℕ) (l : List A) → Each P l → Each P (take n l)
  each_take zero l w = tt
  each_take (suc n) [] w = tt
  each_take (suc n) (a ∷ l) w = (w.0, each_take n l w.1)

  pub each_drop : (n : ℕ) (l : List A) → Each P l → Each P (drop n l)
  each_drop zero l w = w
  each_drop (suc n) [] w = tt
  each_drop (suc n) (a ∷ l) w = each_drop n l w.1

  pub each_set : (n : ℕ) (l : List A) (b : A) → P b → Each P l → Each P (set l n b)
  each_set zero [] b v w = tt
  each_set zero (a ∷ l) b v w = (v, w.1)
  each_set (suc n) [] b v w = tt
  each_set (suc n) (a ∷ l) b v w = (w.0, each_set n l b v w.1)

  pub each_keep : (f : A → Bool) (l : List A) → Each P l → Each P (keep f l)
  each_keep f [] w = tt
  each_keep f (a ∷ l) w = go (f a) (each_keep f l w.1)
    where
      go : (b : Bool) → Each P (keep f l) → Each P (ite b (a ∷ keep f l) (keep f l))
      go true v = (w.0, v)
      go false v = v

  pub each_all : {B : Type 0} (g : B → List A) (Q : B → Type 0) → ((b : B) → Q b → Each P (g b)) → (l : List B) → Each Q l → Each P (concat_map g l)
  each_all g Q h [] w = tt
  each_all g Q h (b ∷ l) w = each_append (g b) (concat_map g l) (h b w.0) (each_all g Q h l w.1)

  pub each_map : {B : Type 0} (g : B → A) → ((b : B) → P (g b)) → (l : List B) → Each P (map g l)
  each_map g h [] = tt
  each_map g h (b ∷ l) = (h b, each_map g h l)

-- ---- one part written after another

pub over_then : (l : List ℕ) (at : ℕ) (a m : List ℕ) (to : ℕ) (b n : List ℕ) → at ≤ length l → m ≡ over l at a → to ≡ at + length a → n ≡ over m to b → n ≡ over l at (a ++ b)
over_then l at a m to b n h e z f = f ∙ rw (e, z) (over_over l at a b h)

-- a part that fits is written
pub over_if : (l : List ℕ) (at : ℕ) (b m : List ℕ) → at + length b ≤ length l → m ≡ over_if_fits l at b → m ≡ over l at b
over_if l at b m h e = e ∙ over_fits l at b h

-- ---- rows up to a place

pub rows_within : (size : ℕ) (t : List ℕ) (i j : ℕ) → i ≤ j → j ≤ length t / size → (i * size ≤ j * size) × (j * size ≤ length t) × (j * size ≡ i * size + (j - i) * size)
rows_within size t i j h q =
    let a : i * size ≤ j * size = mul-le-mul_right size h in
    let b : j * size ≤ length t / size * size = mul-le-mul_right size q in
    let d : length t / size * size ≤ length t = div-mul-le_self (length t) size in
    let z : j ≡ i + (j - i) = omega arith in
    (a, omega arith, ap (λ x. x * size) z ∙ add-mul i (j - i) size)

pub run_put : (size : ℕ) (t : List ℕ) (i j : ℕ) (out : List ℕ) (at : ℕ) (m : List ℕ) → i ≤ j → j ≤ length t / size → at + (j - i) * size ≤ length out
    → m ≡ over_if_fits out at (take (j * size - i * size) (drop (i * size) t))
    → (m ≡ over out at (row_bytes (take (j - i) (drop i (rows_in size t))))) × (at + (j * size - i * size) ≡ at + (j - i) * size)
run_put size t i j out at m h q f e =
    let w = rows_within size t i j h q in
    let z : j * size - i * size ≡ (j - i) * size = omega (arith, w.2) in
    let b = part t (i * size) ((j - i) * size) in
    let l : length b ≡ (j - i) * size = length-take-le ((j - i) * size) (drop (i * size) t) (rw length-drop (omega (arith, w.1, w.2))) in
    let y : at + length b ≤ length out = omega arith in
    let x : m ≡ over_if_fits out at b = e ∙ ap (λ k. over_if_fits out at (take k (drop (i * size) t))) z in
    (over_if out at b m y x ∙ ap (over out at) (sym (run_bytes size t i j h q)), ap (λ k. at + k) z)
