-- An image's header: its tests as facts, there and back.
use mathlib.Core.Path.{◌≡◌, refl, sym, ap, ◌∙◌}
use mathlib.Core.List.{List, [], ◌++◌, append_assoc}
use Prim.Native.Nat.{ℕ, ◌+◌, ◌-◌, ◌^◌, ◌≤◌, ◌<◌}
use native.Mathlib.Omega.{arith}
use lib.ListN.{length, length-append}
use lib.Dec.{lit<}
use borrow.Author.Tests.{leb-true, eqb-true, le-leb, eq-eqb}
use Rattle.big_endian.specs.Fields.{field, bytes, part}
use Rattle.big_endian.specs.Laws.{Bytes, length_bytes, field_in, bytes_field, part_join}
use Rattle.sketch.specs.Lists.{guard_number}
use Rattle.sketch.proofs.Facts.{guard_number_kept}
use Rattle.sketch.proofs.Bools.{and_both}
use Rattle.image.specs.Image.{version, next_at, point_count, curve_count, relation_count, size_of, head_fault, header_size}
use Rattle.image.specs.Encode.{header}
use Rattle.image.specs.Stored.{Id}

-- what the header of an image that is not refused for it says
pub record Head (s : List ℕ) : Type 0 where
  pub long : header_size ≤ length s
  pub version_is : field s 4 1 ≡ version
  pub length_field : field s 0 4 + 4 ≡ length s
  pub few_points : point_count s ≤ 512
  pub few_curves : curve_count s ≤ 128
  pub few_relations : relation_count s ≤ 256
  pub size : size_of (point_count s) (curve_count s) (relation_count s) ≡ length s
  pub next_low : 1 ≤ next_at s

pub head_kept : (s : List ℕ) (rest : ℕ) → head_fault s rest ≡ 0 → Head s × (rest ≡ 0)
unfolding head_fault
head_kept s rest e =
    let k1 = guard_number_kept _ _ _ e in
    let k2 = guard_number_kept _ _ _ k1.1 in
    let k3 = guard_number_kept _ _ _ k2.1 in
    let k4 = guard_number_kept _ _ _ k3.1 in
    let k5 = guard_number_kept _ _ _ k4.1 in
    let a = and_both _ _ k3.0 in
    let b3 = and_both _ _ k4.0 in
    let b2 = and_both _ _ b3.0 in
    let b1 = and_both _ _ b2.0 in (
      record {
        long = leb-true _ _ a.0;
        version_is = eqb-true _ _ k2.0;
        length_field = eqb-true _ _ a.1;
        few_points = leb-true _ _ b1.0;
        few_curves = leb-true _ _ b1.1;
        few_relations = leb-true _ _ b2.1;
        size = eqb-true _ _ b3.1;
        next_low = leb-true _ _ k5.0;
      },
      k5.1,
    )

pub head_passes : (s : List ℕ) (rest : ℕ) → Head s → head_fault s rest ≡ rest
unfolding head_fault guard_number
head_passes s rest h =
    rw (
      le-leb 5 (length s) (omega (arith, h.long)),
      eq-eqb (field s 4 1) version h.version_is,
      le-leb header_size (length s) h.long,
      eq-eqb (field s 0 4 + 4) (length s) h.length_field,
      le-leb (point_count s) 512 h.few_points,
      le-leb (curve_count s) 128 h.few_curves,
      le-leb (relation_count s) 256 h.few_relations,
      eq-eqb (size_of (point_count s) (curve_count s) (relation_count s)) (length s) h.size,
      le-leb 1 (next_at s) h.next_low,
    )

pub length_header : (next np nc nr : ℕ) → length (header next np nc nr) ≡ header_size
unfolding header
length_header next np nc nr = simp (length-append, length_bytes)

-- the fields of what was written
pub record Fields (s : List ℕ) (next np nc nr : ℕ) : Type 0 where
  pub length_field_is : field s 0 4 ≡ size_of np nc nr - 4
  pub version_is : field s 4 1 ≡ version
  pub next_is : next_at s ≡ next
  pub points_are : point_count s ≡ np
  pub curves_are : curve_count s ≡ nc
  pub relations_are : relation_count s ≡ nr

pub header_there : (s post : List ℕ) (next np nc nr : ℕ) → s ≡ header next np nc nr ++ post → Id next → np < 2 ^ 16 → nc < 2 ^ 16 → nr < 2 ^ 16
    → Fields s next np nc nr
unfolding header
header_there s post next np nc nr e hn hp hc hr =
    let b0 = bytes 4 (size_of np nc nr - 4) in
    let b1 = bytes 1 version in
    let b2 = bytes 4 next in
    let b3 = bytes 2 np in
    let b4 = bytes 2 nc in
    let b5 = bytes 2 nr in
    record {
      length_field_is = field_in s [] (b1 ++ (b2 ++ (b3 ++ (b4 ++ (b5 ++ post))))) 0 4 (size_of np nc nr - 4) (e ∙ simp append_assoc) refl (omega arith);
      version_is = field_in s b0 (b2 ++ (b3 ++ (b4 ++ (b5 ++ post)))) 4 1 version (e ∙ simp append_assoc) (length_bytes 4 _) (lit< tt);
      next_is = field_in s (b0 ++ b1) (b3 ++ (b4 ++ (b5 ++ post))) 5 4 next (e ∙ simp append_assoc) (simp (length-append, length_bytes)) hn;
      points_are = field_in s (b0 ++ (b1 ++ b2)) (b4 ++ (b5 ++ post)) 9 2 np (e ∙ simp append_assoc) (simp (length-append, length_bytes)) hp;
      curves_are = field_in s (b0 ++ (b1 ++ (b2 ++ b3))) (b5 ++ post) 11 2 nc (e ∙ simp append_assoc) (simp (length-append, length_bytes)) hc;
      relations_are = field_in s (b0 ++ (b1 ++ (b2 ++ (b3 ++ b4)))) post 13 2 nr (e ∙ simp append_assoc) (simp (length-append, length_bytes)) hr;
    }

pub header_back : (s : List ℕ) → Bytes s → Head s → header (next_at s) (point_count s) (curve_count s) (relation_count s) ≡ part s 0 header_size
unfolding header
header_back s b h =
    let e : size_of (point_count s) (curve_count s) (relation_count s) - 4 ≡ field s 0 4 = omega (arith, h.size, h.length_field) in
    let l = h.long in
    let v : bytes 1 version ≡ part s 4 1 = ap (bytes 1) (sym h.version_is) ∙ bytes_field s 4 1 b (omega arith) in
    rw (
      e,
      bytes_field s 0 4 b (omega arith),
      v,
      bytes_field s 5 4 b (omega arith),
      bytes_field s 9 2 b (omega arith),
      bytes_field s 11 2 b (omega arith),
      bytes_field s 13 2 b (omega arith),
      part_join s 11 2 2,
      part_join s 9 2 4,
      part_join s 5 4 6,
      part_join s 4 1 10,
    )
    (part_join s 0 4 11)
