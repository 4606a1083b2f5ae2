-- A run of rows: its bytes are what its records are written as, once for records of any type and size; and a loop that copies bytes.
use mathlib.Core.Path.{◌≡◌, refl, sym, ap, ◌∙◌}
use mathlib.Core.Bool.{Bool, true, ◌&&◌}
use mathlib.Core.List.{List, [], ◌∷◌, ◌++◌, map, append-nil}
use Prim.Native.Nat.{ℕ, zero, suc, ◌+◌, ◌*◌, ◌-◌, ◌/◌, ◌≤◌, ◌<◌}
use native.Mathlib.Nat.{suc-mul, add-mul, mul-le-mul_right, div-mul-le_self}
use native.Mathlib.Numerals.{add-one}
use native.Mathlib.Omega.{arith}
use lib.ListN.{length, take, drop, get_or, set, length-set, length-drop, drop_of_length-le}
use lib.Seq.{drop-drop, take_all, take-suc, length-take-le}
use borrow.Rule.Slice.PartMut.{mid_of, put_mid}
use Rattle.big_endian.specs.Fields.{part, over, over_if_fits}
use Rattle.big_endian.specs.Laws.{Bytes, over_nil, over_one, over_over, over_fits}
use Rattle.sketch.specs.Lists.{every, concat_map}
use Rattle.sketch.proofs.Bools.{and_both}
use Rattle.image.specs.Image.{rows_at}
use Rattle.image.proofs.Tables.{rows_join, rows_proper, concat_map_back}
use Rattle.rows.specs.Rows.{rows_in}

-- ---- rows from i on, and so many of them

rows_take : (size n k : ℕ) (s : List ℕ) (at : ℕ) → k ≤ n → take k (rows_at size n s at) ≡ rows_at size k s at
unfolding rows_at
rows_take size n zero s at h = refl
rows_take size zero (suc k) s at h = absurd (omega arith)
rows_take size (suc n) (suc k) s at h = rw (rows_take size n k s (at + size) (omega arith))

rows_drop : (size i m n : ℕ) (s : List ℕ) (at : ℕ) → n ≡ i + m → drop i (rows_at size n s at) ≡ rows_at size m s (at + i * size)
unfolding rows_at
rows_drop size zero m n s at e =
    let z : at + 0 * size ≡ at = omega arith in
    let y : n ≡ m = omega arith in
    rw (z, y)
rows_drop size (suc i) m zero s at e = absurd (omega arith)
rows_drop size (suc i) m (suc n) s at e =
    let z : at + suc i * size ≡ at + size + i * size = rw suc-mul (omega arith) in
    rw z (rows_drop size i m n s (at + size) (omega arith))

pub take_map : {A B : Type 0} (f : A → B) (k : ℕ) (l : List A) → take k (map f l) ≡ map f (take k l)
take_map f zero l = refl
take_map f (suc k) [] = refl
take_map f (suc k) (a ∷ l) = rw (take_map f k l)

pub drop_map : {A B : Type 0} (f : A → B) (i : ℕ) (l : List A) → drop i (map f l) ≡ map f (drop i l)
drop_map f zero l = refl
drop_map f (suc i) [] = refl
drop_map f (suc i) (a ∷ l) = drop_map f i l

every_take : {A : Type 0} (f : A → Bool) (k : ℕ) (l : List A) → every f l ≡ true → every f (take k l) ≡ true
every_take f zero l h = refl
every_take f (suc k) [] h = refl
every_take f (suc k) (a ∷ l) h = let t = and_both (f a) (every f l) h in rw (t.0, every_take f k l t.1)

every_drop : {A : Type 0} (f : A → Bool) (i : ℕ) (l : List A) → every f l ≡ true → every f (drop i l) ≡ true
every_drop f zero l h = h
every_drop f (suc i) [] h = refl
every_drop f (suc i) (a ∷ l) h = every_drop f i l (and_both (f a) (every f l) h).1

-- ---- the law of splicing

module _ {A : Type 0} (enc : A → List ℕ) (of : List ℕ → A) (form : List ℕ → Bool) (ok : A → Bool) (size : ℕ)
    (back : (r : List ℕ) → Bytes r → length r ≡ size → form r ≡ true → ok (of r) ≡ true → enc (of r) ≡ r) where
  pub run_bytes : (t : List ℕ) (i k : ℕ) → Bytes t → every (λ r. form r && ok (of r)) (rows_in size t) ≡ true → i + k ≤ length t / size
      → part t (i * size) (k * size) ≡ concat_map enc (take k (drop i (map of (rows_in size t))))
  unfolding rows_in
  run_bytes t i k b h q =
      let n = length t / size in
      let rows = rows_at size n t 0 in
      let some = rows_at size k t (i * size) in
      let u : drop i rows ≡ rows_at size (n - i) t (0 + i * size) = rows_drop size i (n - i) n t 0 (omega arith) in
      let x : 0 + i * size ≡ i * size = omega arith in
      let v : take k (rows_at size (n - i) t (i * size)) ≡ some = rows_take size (n - i) k t (i * size) (omega arith) in
      let r : take k (drop i rows) ≡ some = rw (u, x, v) in
      let e : every (λ r. form r && ok (of r)) some ≡ true = rw (← r) (every_take (λ r. form r && ok (of r)) k (drop i rows) (every_drop (λ r. form r && ok (of r)) i rows h)) in
      let m : (i + k) * size ≤ n * size = mul-le-mul_right size q in
      let d : n * size ≤ length t = div-mul-le_self (length t) size in
      let w : (i + k) * size ≡ i * size + k * size = add-mul i k size in
      let y : take k (drop i (map of rows)) ≡ map of some = rw (drop_map of i rows, take_map of k (drop i rows), r) in
      rw y (sym (concat_map_back enc of form ok size back some (rows_proper size k t (i * size) b (omega arith)) e ∙ rows_join size k t (i * size)))

-- ---- a loop that copies

pub record Copying (run before : List ℕ) (i : ℕ) (now : List ℕ) : Type 0 where
  pub is : now ≡ over before 0 (take i run)
  pub long : length now ≡ length before

pub copy_starts : (run out : List ℕ) → Copying run out 0 out
copy_starts run out = record { is = sym (over_nil out 0); long = refl }

pub copy_turns : (run out : List ℕ) (i : ℕ) (now : List ℕ) → i < length run → i < length out → Copying run out i now → Copying run out (i + 1) (set now i (get_or run i 0))
copy_turns run out i now f h w =
    let x = get_or run i 0 in
    let la : length (take i run) ≡ i = length-take-le i run (omega arith) in
    let ln = w.long in
    let e : i ≡ 0 + length (take i run) = omega arith in
    let o : over now i (x ∷ []) ≡ over out 0 (take i run ++ (x ∷ [])) = ap (λ (k : ℕ). over now k (x ∷ [])) e ∙ rw w.is (over_over out 0 (take i run) (x ∷ []) (omega arith)) in
    let t : take (i + 1) run ≡ take i run ++ (x ∷ []) = rw add-one (take-suc run i 0 f) in
    record { is = over_one now i x (omega arith) ∙ o ∙ rw t; long = length-set now i x ∙ ln }

pub copy_ends : (run out : List ℕ) (i : ℕ) (now : List ℕ) → length run ≤ i → Copying run out i now → now ≡ over out 0 run
copy_ends run out i now h w = let t : take i run ≡ run = take_all i run h in w.is ∙ rw t

-- ---- a run copied to the front of a part is written over the whole from there on

pub run_put : (out run : List ℕ) (at : ℕ) (m : List ℕ) → at + length run ≤ length out → m ≡ over (mid_of at (at + length run - at) out) 0 run
    → put_mid at (at + length run - at) out m ≡ over_if_fits out at run
unfolding over
run_put out run at m h e =
    let n : at + length run - at ≡ length run = omega arith in
    let l : length (mid_of at (length run) out) ≤ 0 + length run = rw (length-take-le (length run) (drop at out) (rw length-drop (omega arith))) (omega arith) in
    let z : drop (0 + length run) (mid_of at (length run) out) ≡ [] = drop_of_length-le (mid_of at (length run) out) l in
    let f : over (mid_of at (length run) out) 0 run ≡ run = rw (z, append-nil) in
    let g : m ≡ run = (rw n at e) ∙ f in
    let d : drop (length run) (drop at out) ≡ drop (at + length run) out = drop-drop (length run) at out in
    rw (n, g, d) (sym (over_fits out at run h))
