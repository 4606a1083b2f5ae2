-- A point's record, there and back.
use mathlib.Core.Path.{◌≡◌, refl, ap}
use mathlib.Core.Bool.{Bool, true, false}
use mathlib.Core.List.{List, [], ◌++◌, append_assoc, append-nil}
use Prim.Native.Nat.{ℕ, zero, suc, ◌≤◌, ◌<◌}
use native.Mathlib.Omega.{arith}
use lib.ListN.{length, length-append}
use lib.Seq.{take_all}
use lib.Dec.{leb, eqb, lit<}
use lib.Ieee.{of_bits, binary64}
use lib.Ieee.Bits.{of_bits-to_bits, to_bits-lt}
use borrow.Author.Tests.{leb-true}
use Rattle.std.specs.Int.{from_bool}
use Rattle.big_endian.specs.Fields.{field, bytes}
use Rattle.big_endian.specs.Laws.{Bytes, length_bytes, field_in, bytes_field, part_join}
use Rattle.sketch.specs.declared.Point.{Point}
use Rattle.sketch.specs.Valid.{ok_point, ok_coordinate}
use Rattle.sketch.proofs.Bools.{and_both}
use Rattle.image.specs.Records.{point_form, point_of, point_size}
use Rattle.image.specs.Encode.{bit, bits, encode_point}
use Rattle.image.specs.Stored.{StoredPoint}
use Rattle.image.proofs.Floats.{bits_back, coordinate_rejects}
use Rattle.image.proofs.Tables.{Spells}

pub bit_lt : (b : Bool) → bit b < 256
unfolding bit
bit_lt true = lit< tt
bit_lt false = lit< tt

bit_le : (b : Bool) → leb (bit b) 1 ≡ true
unfolding bit
bit_le true = refl
bit_le false = refl

bit_is : (b : Bool) → eqb (bit b) 1 ≡ b
unfolding bit
bit_is true = refl
bit_is false = refl

-- a flag as a number
pub bit_of : (b : Bool) → from_bool b ≡ bit b
unfolding bit
bit_of true = refl
bit_of false = refl

bit_back : (n : ℕ) → n ≤ 1 → bit (eqb n 1) ≡ n
unfolding bit
bit_back zero h = refl
bit_back (suc zero) h = refl
bit_back (suc (suc n)) h = absurd (omega arith)

pub length_point : (p : Point) → length (encode_point p) ≡ point_size
unfolding encode_point
length_point p = simp (length-append, length_bytes)

pub point_there : (p : Point) → StoredPoint p → Spells encode_point point_of point_form ok_point p
unfolding encode_point
point_there p w =
    let s = encode_point p in
    let i = bytes 4 p.id in
    let x = bytes 8 (bits p.x) in
    let y = bytes 8 (bits p.y) in
    let f = bytes 1 (bit p.fixed) in
    let f1 : field s 0 4 ≡ p.id = field_in s [] (x ++ (y ++ f)) 0 4 p.id refl refl w.id_fits in
    let f2 : field s 4 8 ≡ bits p.x = field_in s i (y ++ f) 4 8 (bits p.x) refl (length_bytes 4 _) (to_bits-lt binary64 p.x w.x_fits) in
    let f3 : field s 12 8 ≡ bits p.y = field_in s (i ++ x) f 12 8 (bits p.y) (simp append_assoc) (simp (length-append, length_bytes)) (to_bits-lt binary64 p.y w.y_fits) in
    let f4 : field s 20 1 ≡ bit p.fixed = field_in s (i ++ (x ++ y)) [] 20 1 (bit p.fixed) (simp (append_assoc, append-nil)) (simp (length-append, length_bytes)) (bit_lt p.fixed) in
    let o : point_of s ≡ p = rw (f1, f2, f3, f4, of_bits-to_bits binary64 p.x w.x_fits, of_bits-to_bits binary64 p.y w.y_fits, bit_is p.fixed) in
    record { tested = rw (f4, bit_le p.fixed) (ap ok_point o); spelled = o }

pub point_back : (r : List ℕ) → Bytes r → length r ≡ point_size → point_form r ≡ true → ok_point (point_of r) ≡ true → encode_point (point_of r) ≡ r
unfolding encode_point
point_back r b l form ok =
    let k = and_both (ok_coordinate (of_bits binary64 (field r 4 8))) _ ok in
    rw (
      bits_back ok_coordinate coordinate_rejects r 4 b k.0,
      bits_back ok_coordinate coordinate_rejects r 12 b k.1,
      bit_back (field r 20 1) (leb-true _ _ form),
      bytes_field r 0 4 b (omega arith),
      bytes_field r 4 8 b (omega arith),
      bytes_field r 12 8 b (omega arith),
      bytes_field r 20 1 b (omega arith),
      part_join r 12 8 1,
      part_join r 4 8 9,
      part_join r 0 4 17,
    )
    (take_all point_size r (omega arith))
