-- Laws of big-endian fields that no code needs today, kept for readers: fields by halves, single bytes, bytes written or left, and turned bytes.
use Rattle.std.specs.Prelude.{◌≡◌, refl, List, [], ◌∷◌, ℕ, zero, suc, ◌+◌, ◌*◌, ◌/◌, ◌%◌, ◌^◌, ◌≤◌, ◌<◌, length, get_or, set}
use Rattle.std.proofs.Common.{sym, ap, ◌∙◌, arith, length-set}
use Rattle.std.proofs.Math.ListN.{get_or-eq_default}
use Rattle.big_endian.specs.Fields.{field, bytes, over, over_if_fits}
use Rattle.big_endian.specs.Laws.{length_bytes, bytes_split, over_one, over_fits, over_not, Run, run_over}

-- eight bytes as one number, the lowest first
abbrev pub from_le_bytes : ℕ → ℕ → ℕ → ℕ → ℕ → ℕ → ℕ → ℕ → ℕ
from_le_bytes a b c d e f g h =
    a + b * 0x0000_0000_0000_0100 + (c * 0x0000_0000_0001_0000 + d * 0x0000_0000_0100_0000)
    + (e * 0x0000_0001_0000_0000 + f * 0x0000_0100_0000_0000 + (g * 0x0001_0000_0000_0000 + h * 0x0100_0000_0000_0000))

-- eight bytes as one number, the highest first
abbrev pub from_be_bytes : ℕ → ℕ → ℕ → ℕ → ℕ → ℕ → ℕ → ℕ → ℕ
from_be_bytes a b c d e f g h =
    a * 0x0100_0000_0000_0000 + b * 0x0001_0000_0000_0000 + (c * 0x0000_0100_0000_0000 + d * 0x0000_0001_0000_0000)
    + (e * 0x0000_0000_0100_0000 + f * 0x0000_0000_0001_0000 + (g * 0x0000_0000_0000_0100 + h))

-- r has the bytes of v the other way round
abbrev pub BytesSwapped : ℕ → ℕ → Type 0
BytesSwapped v r =
    (a b c d e f g h : ℕ) → a < 256 → b < 256 → c < 256 → d < 256 → e < 256 → f < 256 → g < 256 → h < 256
    → v ≡ from_le_bytes a b c d e f g h → r ≡ from_be_bytes a b c d e f g h

-- ---- numbers read

pub field_suc : (s : List ℕ) (at n : ℕ) → field s at (suc n) ≡ field s at n * 256 + get_or s (at + n) 0
unfolding field
field_suc s at n = refl

pub field_past : (s : List ℕ) (at n : ℕ) → length s ≤ at → field s at n ≡ 0
unfolding field
field_past s at zero h = refl
field_past s at (suc n) h =
    let k : length s ≤ at + n = omega arith in
    rw (field_past s at n h, get_or-eq_default s 0 k)

-- ---- a number written: its low byte, its low bytes, or nothing where they don't fit

pub put_byte : (l : List ℕ) (at v : ℕ) → at < length l → set l at (v % 256) ≡ over_if_fits l at (bytes 1 v)
unfolding bytes
put_byte l at v h = rw (over_one l at (v % 256) h) (sym (over_fits l at (v % 256 ∷ []) (omega arith)))

pub put_bytes : (l : List ℕ) (at n v : ℕ) {then : List ℕ} → at + n ≤ length l → then ≡ over l at (bytes n v) → then ≡ over_if_fits l at (bytes n v)
put_bytes l at n v h e = e ∙ sym (over_fits l at (bytes n v) (rw length_bytes h))

pub put_nothing : (l : List ℕ) (at n v : ℕ) → length l < at + n → l ≡ over_if_fits l at (bytes n v)
put_nothing l at n v h = sym (over_not l at (bytes n v) (rw length_bytes h))

-- one half after the other
pub store_halves : (l : List ℕ) (at h v : ℕ) {now then : List ℕ} → at + (h + h) ≤ length l → now ≡ over l at (bytes h (v / 256 ^ h)) → then ≡ over now (at + h) (bytes h v)
    → then ≡ over l at (bytes (h + h) v)
store_halves l at h v {now} {then} fit first second =
    let a : Run l at h (bytes h (v / 256 ^ h)) now = record { is = first; long = length_bytes h (v / 256 ^ h) } in
    let b = run_over l at h h (bytes h (v / 256 ^ h)) (bytes h v) now then fit (length_bytes h v) a second in
    b.is ∙ rw (← bytes_split h h v)

-- two bytes
pub store_two : (l : List ℕ) (at v : ℕ) → at + 2 ≤ length l → set (set l at (v / 256 % 256)) (at + 1) (v % 256) ≡ over l at (bytes 2 v)
unfolding bytes
store_two l at v h =
    let m = set l at (v / 256 % 256) in
    let n : length m ≡ length l = length-set l at (v / 256 % 256) in
    let e : v / 256 ^ 1 ≡ v / 256 = refl in
    store_halves l at 1 v {now = m} (omega arith) (rw e (over_one l at (v / 256 % 256) (omega arith))) (over_one m (at + 1) (v % 256) (omega arith))

-- eight bytes, each with its weight
pub field_flat : (s : List ℕ) (at a b c d e f g h : ℕ) → a ≡ get_or s at 0 → b ≡ get_or s (at + 1) 0 → c ≡ get_or s (at + 2) 0 → d ≡ get_or s (at + 3) 0
    → e ≡ get_or s (at + 4) 0 → f ≡ get_or s (at + 5) 0 → g ≡ get_or s (at + 6) 0 → h ≡ get_or s (at + 7) 0
    → a * 0x0100_0000_0000_0000 + b * 0x0001_0000_0000_0000 + (c * 0x0000_0100_0000_0000 + d * 0x0000_0001_0000_0000)
    + (e * 0x0000_0000_0100_0000 + f * 0x0000_0000_0001_0000 + (g * 0x0000_0000_0000_0100 + h))
    ≡ field s at 8
unfolding field
field_flat s at a b c d e f g h ea eb ec ed ee ef eg eh =
    let z : at + 0 ≡ at = omega arith in
    let y : get_or s (at + 0) 0 ≡ get_or s at 0 = ap (λ (k : ℕ). get_or s k 0) z in
    omega arith

-- the bytes of a number, taken off from the lowest on
pub turns : (v a b c d e f g h : ℕ) → a < 256 → b < 256 → c < 256 → d < 256 → e < 256 → f < 256 → g < 256 → h < 256 → v ≡ from_le_bytes a b c d e f g h
    → from_be_bytes (v % 256) (v / 256 % 256) (v / 256 / 256 % 256) (v / 256 / 256 / 256 % 256) (v / 256 / 256 / 256 / 256 % 256) (v / 256 / 256 / 256 / 256 / 256 % 256)
    (v / 256 / 256 / 256 / 256 / 256 / 256 % 256) (v / 256 / 256 / 256 / 256 / 256 / 256 / 256 % 256)
    ≡ from_be_bytes a b c d e f g h
turns v a b c d e f g h la lb lc ld le lf lg lh z =
    let t7 = h in
    let t6 = g + h * 256 in
    let t5 = f + t6 * 256 in
    let t4 = e + t5 * 256 in
    let t3 = d + t4 * 256 in
    let t2 = c + t3 * 256 in
    let t1 = b + t2 * 256 in
    let k : v ≡ a + t1 * 256 = omega arith in
    rw (k, mod_of a t1 la, div_of a t1 la, mod_of b t2 lb, div_of b t2 lb, mod_of c t3 lc, div_of c t3 lc, mod_of d t4 ld, div_of d t4 ld, mod_of e t5 le, div_of e t5 le, mod_of f t6 lf, div_of f t6 lf, mod_of g h lg, div_of g h lg, mod_low h lh)
  where
    mod_of : (x y : ℕ) → x < 256 → (x + y * 256) % 256 ≡ x
    mod_of x y l = omega arith

    div_of : (x y : ℕ) → x < 256 → (x + y * 256) / 256 ≡ y
    div_of x y l = omega arith

    mod_low : (x : ℕ) → x < 256 → x % 256 ≡ x
    mod_low x l = omega arith
