-- Laws of big-endian numbers, each over the width, and of runs of bytes written over a list.
use Rattle.std.specs.Prelude.{◌≡◌, refl, List, [], ◌∷◌, ◌++◌, ℕ, zero, suc, ◌+◌, ◌-◌, ◌*◌, ◌/◌, ◌%◌, ◌^◌, ◌≤◌, ◌<◌, length, take, drop, get_or, set}
use Rattle.std.proofs.Common.{sym, ap, ◌∙◌, append_assoc, append-nil, add-zero, add-suc, add_assoc, add-mul, mul_assoc, mul_comm, pow-suc, div-one, div-add-mod', div-lt_iff_lt-mul, add-one, arith, lit<, length-append, length-drop, take-append-drop, take-suc, get_or-drop, length-take-le, take_at, take_all, drop-drop, take-add, get_or-append-add, le-leb}
use Rattle.std.proofs.Math.Nat.{pow-zero, div-div-eq-div-mul}
use Rattle.std.proofs.Math.Arith.{digits_lt, digits_div, digits_mod}
use Rattle.std.proofs.Math.ListN.{get_or-append}
use Rattle.std.proofs.lemmas.List.{set_split}
use Rattle.std.proofs.Math.Seq.{drop-append-add}
use Rattle.std.proofs.lemmas.Bool.{lt-leb}
use borrow.Rule.Slice.PartMut.{put_mid}
use Rattle.std.specs.Int.{bytes_high_first}
use Rattle.big_endian.specs.Fields.{field, bytes, part, over, over_if_fits}

-- every element is a byte
abbrev pub Bytes : List ℕ → Type 0
Bytes s = (k : ℕ) → get_or s k 0 < 256

-- ---- numbers read

pub field_one : (s : List ℕ) (at : ℕ) → field s at 1 ≡ get_or s at 0
unfolding field
field_one s at = let e : at + 0 ≡ at = omega arith in rw e (omega arith)

-- a number of n + m bytes is that of the first n, and then that of the last m
pub field_split : (s : List ℕ) (at n m : ℕ) → field s at (n + m) ≡ field s at n * 256 ^ m + field s (at + n) m
unfolding field
field_split s at n zero = rw (add-zero, pow-zero) (omega arith)
field_split s at n (suc m) =
    rw (add-suc, field_split s at n m, pow-suc, add_assoc) (simp (add-mul, mul_assoc, add_assoc))

pub grow : (i : ℕ) {v b : ℕ} → v < 256 ^ i → b < 256 → v * 256 + b < 256 ^ suc i
grow i hv hb = rw (pow-suc 256 i) (digits_lt hv hb)

pub field_lt : (s : List ℕ) (at n : ℕ) → Bytes s → field s at n < 256 ^ n
unfolding field
field_lt s at zero b = lit< tt
field_lt s at (suc n) b = grow n (field_lt s at n b) (b (at + n))

-- ---- numbers to bytes and back

pub length_bytes : (n v : ℕ) → length (bytes n v) ≡ n
unfolding bytes
length_bytes zero v = refl
length_bytes (suc n) v = length-append (bytes n (v / 256)) _ ∙ ap (λ (k : ℕ). k + 1) (length_bytes n (v / 256)) ∙ omega arith

pub bytes_split : (n m v : ℕ) → bytes (n + m) v ≡ bytes n (v / 256 ^ m) ++ bytes m v
unfolding bytes
bytes_split n zero v = rw (add-zero, pow-zero, div-one, append-nil)
bytes_split n (suc m) v =
    let e : v / 256 / 256 ^ m ≡ v / 256 ^ suc m = div-div-eq-div-mul v 256 (256 ^ m) ∙ rw (pow-suc, mul_comm) in
    rw (add-suc, bytes_split n m (v / 256), e, append_assoc)

-- the standard library's bytes of a number are these
high_first : (n v : ℕ) → bytes_high_first n v ≡ bytes n v
unfolding bytes
high_first zero v = refl
high_first (suc zero) v = refl
high_first (suc (suc n)) v =
    let z : 1 + suc n ≡ suc (suc n) = omega arith in
    let s : bytes (1 + suc n) v ≡ bytes 1 (v / 256 ^ suc n) ++ bytes (suc n) v = bytes_split 1 (suc n) v in
    rw (high_first (suc n) v) (sym (ap (λ (k : ℕ). bytes k v) (sym z) ∙ s))

-- and the last n of them are those of the number's n low bytes
last_first : (k n v : ℕ) → drop k (bytes_high_first (k + n) v) ≡ bytes n v
last_first zero n v = let z : 0 + n ≡ n = omega arith in rw z (high_first n v)
last_first (suc k) n v = let z : suc k + n ≡ suc (k + n) = omega arith in rw z (last_first k n v)

pub low_bytes : (m n v : ℕ) → n ≤ m → take (m - (m - n)) (drop (m - n) (bytes_high_first m v)) ≡ bytes n v
low_bytes m n v h =
    let z : m - n + n ≡ m = omega arith in
    let e : drop (m - n) (bytes_high_first m v) ≡ bytes n v = ap (λ (k : ℕ). drop (m - n) (bytes_high_first k v)) (sym z) ∙ last_first (m - n) n v in
    rw e (take_all (m - (m - n)) (bytes n v) (rw length_bytes (omega arith)))

-- a byte of what stands after a list
field_after : (pre post : List ℕ) (at n : ℕ) → length pre ≡ at → field (pre ++ post) at n ≡ field post 0 n
unfolding field
field_after pre post at zero e = refl
field_after pre post at (suc n) e =
    let z : 0 + n ≡ n = omega arith in
    rw (field_after pre post at n e, ← e, get_or-append-add pre post n 0, z)

-- a number does not hang on what stands behind its bytes
field_front : (l post : List ℕ) (n : ℕ) → n ≤ length l → field (l ++ post) 0 n ≡ field l 0 n
unfolding field
field_front l post zero h = refl
field_front l post (suc n) h =
    let k : n < length l = omega arith in
    let z : 0 + n ≡ n = omega arith in
    rw (field_front l post n (omega arith), z, get_or-append l post 0 n k)

field_bytes : (n v : ℕ) → v < 256 ^ n → field (bytes n v) 0 n ≡ v
unfolding field bytes
field_bytes zero v h = omega arith
field_bytes (suc n) v h =
    let k : v / 256 < 256 ^ n = (div-lt_iff_lt-mul (lit< tt)).1 (rw pow-suc at h) in
    let l : n ≤ length (bytes n (v / 256)) = rw length_bytes (omega arith) in
    let g : get_or (bytes n (v / 256) ++ (v % 256 ∷ [])) n 0 ≡ v % 256 = last n (bytes n (v / 256)) (v % 256) (length_bytes n (v / 256)) in
    let z : 0 + n ≡ n = omega arith in
    rw (field_front (bytes n (v / 256)) (v % 256 ∷ []) n l, field_bytes n (v / 256) k, z, g) (div-add-mod' v 256)
  where
    last : (n : ℕ) (l : List ℕ) (x : ℕ) → length l ≡ n → get_or (l ++ (x ∷ [])) n 0 ≡ x
    last n l x e = let z : n ≡ length l + 0 = omega arith in rw (z, get_or-append-add l (x ∷ []) 0 0)

-- a number that was written is read back
pub field_in : (s pre post : List ℕ) (at n v : ℕ) → s ≡ pre ++ (bytes n v ++ post) → length pre ≡ at → v < 256 ^ n → field s at n ≡ v
field_in s pre post at n v e k h =
    let l : n ≤ length (bytes n v) = rw length_bytes (omega arith) in
    rw (e, field_after pre (bytes n v ++ post) at n k, field_front (bytes n v) post n l) (field_bytes n v h)

part_suc : (s : List ℕ) (at i : ℕ) → at + i < length s → part s at (suc i) ≡ part s at i ++ (get_or s (at + i) 0 ∷ [])
part_suc s at i h =
    let k : i < length (drop at s) = simp length-drop (omega arith) in
    rw (take-suc (drop at s) i 0 k, get_or-drop)

-- a number that was read is written as the bytes it was read from
pub bytes_field : (s : List ℕ) (at n : ℕ) → Bytes s → at + n ≤ length s → bytes n (field s at n) ≡ part s at n
unfolding bytes field
bytes_field s at zero b h = refl
bytes_field s at (suc n) b h =
    let k : at + n < length s = omega arith in
    rw (digits_div (field s at n) (b (at + n)), digits_mod (field s at n) (b (at + n)), bytes_field s at n b (omega arith), part_suc s at n k)

-- ---- bytes written over a part

pub over_nil : (l : List ℕ) (at : ℕ) → over l at [] ≡ l
unfolding over
over_nil l at = rw (add-zero at) (take-append-drop at l)

drop_front : (p d : List ℕ) (n m : ℕ) → length p ≡ n → drop (n + m) (p ++ d) ≡ drop m d
drop_front p d n m e = rw (← e) (drop-append-add p d m)

pub over_over : (l : List ℕ) (at : ℕ) (a b : List ℕ) → at ≤ length l → over (over l at a) (at + length a) b ≡ over l at (a ++ b)
unfolding over
over_over l at a b h =
    let p = take at l ++ a in
    let e : length p ≡ at + length a = length-append (take at l) a ∙ ap (λ (k : ℕ). k + length a) (length-take-le at l h) in
    let d = drop (at + length a) l in
    let front : take (at + length a) (take at l ++ (a ++ d)) ≡ p = rw (← append_assoc) (take_at p d (at + length a) e) in
    let back : drop (at + length a + length b) (take at l ++ (a ++ d)) ≡ drop (at + length a + length b) l =
    rw (← append_assoc) (drop_front p d (at + length a) (length b) e ∙ drop-drop (length b) (at + length a) l) in
    rw (front, back, length-append) (simp (append_assoc, add_assoc))

pub length_over : (l : List ℕ) (at : ℕ) (b : List ℕ) → at + length b ≤ length l → length (over l at b) ≡ length l
unfolding over
length_over l at b h =
    let k : at ≤ length l = omega arith in
    simp (length-append, length-drop) (rw (length-take-le at l k) (omega arith))

pub over_one : (l : List ℕ) (at x : ℕ) → at < length l → set l at x ≡ over l at (x ∷ [])
unfolding over
over_one l at x h = rw (set_split l at x h, add-one)

-- ---- the same, or nothing

pub over_fits : (l : List ℕ) (at : ℕ) (b : List ℕ) → at + length b ≤ length l → over_if_fits l at b ≡ over l at b
unfolding over_if_fits
over_fits l at b h = rw (le-leb _ _ h)

pub over_not : (l : List ℕ) (at : ℕ) (b : List ℕ) → length l < at + length b → over_if_fits l at b ≡ l
unfolding over_if_fits
over_not l at b h = rw (lt-leb _ _ h)

-- what code puts in the place of a middle part
pub put_over : (l b : List ℕ) (at : ℕ) (m : List ℕ) → at + length b ≤ length l → m ≡ b → put_mid at (at + length b - at) l m ≡ over_if_fits l at b
unfolding over
put_over l b at m h e =
    let n : at + length b - at ≡ length b = omega arith in
    let d : drop (length b) (drop at l) ≡ drop (at + length b) l = drop-drop (length b) at l in
    rw (n, e, d) (sym (over_fits l at b h))

-- two parts side by side are one
pub part_join : (s : List ℕ) (at n m : ℕ) → part s at n ++ part s (at + n) m ≡ part s at (n + m)
part_join s at n m = rw (take-add n m (drop at s), drop-drop)

-- ---- a run of writes: k bytes b are written over l from `at` on

pub record Run (l : List ℕ) (at k : ℕ) (b now : List ℕ) : Type 0 where
  pub is : now ≡ over l at b
  pub long : length b ≡ k

pub run_starts : (l : List ℕ) (at n v : ℕ) {then : List ℕ} → at + n ≤ length l → then ≡ over_if_fits l at (bytes n v) → Run l at n (bytes n v) then
run_starts l at n v h f =
    let q : length (bytes n v) ≡ n = length_bytes n v in
    record { is = f ∙ over_fits l at (bytes n v) (omega arith); long = q }

pub run_over : (l : List ℕ) (at k n : ℕ) (a b : List ℕ) (now then : List ℕ) → at + (k + n) ≤ length l → length b ≡ n → Run l at k a now → then ≡ over now (at + k) b → Run l at (k + n) (a ++ b) then
run_over l at k n a b now then h e w f =
    let z = w.long in
    record { is = f ∙ rw (w.is, ← z) (over_over l at a b (omega arith)); long = length-append a b ∙ rw (z, e) }

pub run_puts : (l : List ℕ) (at k n v : ℕ) (a now then : List ℕ) → at + (k + n) ≤ length l → Run l at k a now → then ≡ over_if_fits now (at + k) (bytes n v) → Run l at (k + n) (a ++ bytes n v) then
run_puts l at k n v a now then h w f =
    let z = w.long in
    let e : length now ≡ length l = rw w.is (length_over l at a (omega arith)) in
    let q : length (bytes n v) ≡ n = length_bytes n v in
    run_over l at k n a (bytes n v) now then h q w (f ∙ over_fits now (at + k) (bytes n v) (omega arith))
