-- A relation's record, there and back.
use mathlib.Core.Path.{◌≡◌, refl, sym}
use mathlib.Core.Bool.{true, not, ◌||◌}
use mathlib.Core.List.{List, [], ◌++◌, append_assoc, append-nil}
use Prim.Native.Nat.{ℕ, zero, suc, ◌^◌, ◌≤◌, ◌<◌}
use native.Mathlib.Omega.{arith}
use lib.ListN.{length, length-append}
use lib.Seq.{take_all}
use lib.Dec.{eqb, lit<}
use lib.Ieee.{Float, of_bits, binary64}
use lib.Ieee.Bits.{of_bits-to_bits, to_bits-lt}
use borrow.Author.Tests.{leb-true, eqb-true}
use Rattle.big_endian.specs.Fields.{field, bytes}
use Rattle.big_endian.specs.Laws.{Bytes, length_bytes, field_in, bytes_field, part_join}
use Rattle.sketch.specs.declared.Relation.{Relation}
use Rattle.sketch.specs.declared.Relation.TheVariants.{Coincident, PointOnCurve, Collinear, Equal, Length, Distance, Midpoint, ArcLength, ArcSweep}
use Rattle.sketch.specs.Valid.{ok_relation, ok_measure}
use Rattle.sketch.proofs.Bools.{and_both}
use Rattle.image.specs.Records.{single, valued, relation_fields, relation_form, relation_by, relation_of, relation_size}
use Rattle.image.specs.Encode.{bits, relation_byte, first_id, second_id, value_bits, encode_relation}
use Rattle.image.specs.Stored.{Id, StoredRelation}
use Rattle.image.proofs.Floats.{bits_back, measure_rejects}
use Rattle.image.proofs.Tables.{Spells}

pub length_relation : (r : Relation) → length (encode_relation r) ≡ relation_size
unfolding encode_relation
length_relation r = simp (length-append, length_bytes)

-- ---- the parts of a relation fit their fields, make it again, and pass

record Parts (r : Relation) : Type 0 where
  kind_lt : relation_byte r < 256
  first_lt : Id (first_id r)
  second_lt : Id (second_id r)
  value_lt : value_bits r < 256 ^ 8
  again : relation_by (relation_byte r) (first_id r) (second_id r) (of_bits binary64 (value_bits r)) ≡ r
  formed : relation_fields (relation_byte r) (second_id r) (value_bits r) ≡ true

no_id : Id 0
no_id = lit< tt

parts : (r : Relation) → StoredRelation r → Parts r
unfolding relation_byte first_id second_id value_bits relation_by relation_fields StoredRelation
parts (Coincident p q) w = record { kind_lt = lit< tt; first_lt = w.0; second_lt = w.1; value_lt = lit< tt; again = refl; formed = refl }
parts (PointOnCurve p c) w = record { kind_lt = lit< tt; first_lt = w.0; second_lt = w.1; value_lt = lit< tt; again = refl; formed = refl }
parts (Collinear a b) w = record { kind_lt = lit< tt; first_lt = w.0; second_lt = w.1; value_lt = lit< tt; again = refl; formed = refl }
parts (Equal a b) w = record { kind_lt = lit< tt; first_lt = w.0; second_lt = w.1; value_lt = lit< tt; again = refl; formed = refl }
parts (Length l v) w =
    record { kind_lt = lit< tt; first_lt = w.0; second_lt = no_id; value_lt = to_bits-lt binary64 v w.1; again = rw (of_bits-to_bits binary64 v w.1); formed = refl }
parts (Distance p q v) w =
    record { kind_lt = lit< tt; first_lt = w.0; second_lt = w.1; value_lt = to_bits-lt binary64 v w.2; again = rw (of_bits-to_bits binary64 v w.2); formed = refl }
parts (Midpoint p l) w = record { kind_lt = lit< tt; first_lt = w.0; second_lt = w.1; value_lt = lit< tt; again = refl; formed = refl }
parts (ArcLength c v) w =
    record { kind_lt = lit< tt; first_lt = w.0; second_lt = no_id; value_lt = to_bits-lt binary64 v w.1; again = rw (of_bits-to_bits binary64 v w.1); formed = refl }
parts (ArcSweep c v) w =
    record { kind_lt = lit< tt; first_lt = w.0; second_lt = no_id; value_lt = to_bits-lt binary64 v w.1; again = rw (of_bits-to_bits binary64 v w.1); formed = refl }

pub relation_there : (r : Relation) → StoredRelation r → Spells encode_relation relation_of relation_form ok_relation r
unfolding encode_relation
relation_there r w =
    let p = parts r w in
    let s = encode_relation r in
    let b1 = bytes 1 (relation_byte r) in
    let b2 = bytes 4 (first_id r) in
    let b3 = bytes 4 (second_id r) in
    let b4 = bytes 8 (value_bits r) in
    let f1 : field s 0 1 ≡ relation_byte r = field_in s [] (b2 ++ (b3 ++ b4)) 0 1 (relation_byte r) refl refl p.kind_lt in
    let f2 : field s 1 4 ≡ first_id r = field_in s b1 (b3 ++ b4) 1 4 (first_id r) refl (length_bytes 1 _) p.first_lt in
    let f3 : field s 5 4 ≡ second_id r = field_in s (b1 ++ b2) b4 5 4 (second_id r) (simp append_assoc) (simp (length-append, length_bytes)) p.second_lt in
    let f4 : field s 9 8 ≡ value_bits r = field_in s (b1 ++ (b2 ++ b3)) [] 9 8 (value_bits r) (simp (append_assoc, append-nil)) (simp (length-append, length_bytes)) p.value_lt in
    let o : relation_of s ≡ r = rw (f1, f2, f3, f4) p.again in
    let h : relation_form s ≡ true = rw (f1, f3, f4) p.formed in
    record { tested = rw (h, o); spelled = o }

-- ---- and back: by the kind's byte

record Made (kind a b number : ℕ) (r : Relation) : Type 0 where
  kind_is : relation_byte r ≡ kind
  first_is : first_id r ≡ a
  second_is : second_id r ≡ b
  value_is : value_bits r ≡ number

record Tests (kind second number : ℕ) : Type 0 where
  low : 1 ≤ kind
  high : kind ≤ 9
  lone : (not (single kind) || eqb second 0) ≡ true
  bare : (valued kind || eqb number 0) ≡ true

tests : (kind second number : ℕ) → relation_fields kind second number ≡ true → Tests kind second number
unfolding relation_fields
tests kind second number e =
    let t3 = and_both _ _ e in
    let t2 = and_both _ _ t3.0 in
    let t1 = and_both _ _ t2.0 in
    record { low = leb-true _ _ t1.0; high = leb-true _ _ t1.1; lone = t2.1; bare = t3.1 }

made : (kind a b number : ℕ) (v : Float) → Tests kind b number → ok_relation (relation_by kind a b v) ≡ true → (ok_measure v ≡ true → bits v ≡ number)
    → Made kind a b number (relation_by kind a b v)
unfolding relation_byte first_id second_id value_bits relation_by ok_relation
made zero a b number v t ok m = absurd (omega (arith, t.low))
made (suc zero) a b number v t ok m = record { kind_is = refl; first_is = refl; second_is = refl; value_is = sym (eqb-true number 0 t.bare) }
made (suc (suc zero)) a b number v t ok m = record { kind_is = refl; first_is = refl; second_is = refl; value_is = sym (eqb-true number 0 t.bare) }
made (suc (suc (suc zero))) a b number v t ok m = record { kind_is = refl; first_is = refl; second_is = refl; value_is = sym (eqb-true number 0 t.bare) }
made (suc (suc (suc (suc zero)))) a b number v t ok m = record { kind_is = refl; first_is = refl; second_is = refl; value_is = sym (eqb-true number 0 t.bare) }
made (suc (suc (suc (suc (suc zero))))) a b number v t ok m = record { kind_is = refl; first_is = refl; second_is = sym (eqb-true b 0 t.lone); value_is = m ok }
made (suc (suc (suc (suc (suc (suc zero)))))) a b number v t ok m = record { kind_is = refl; first_is = refl; second_is = refl; value_is = m ok }
made (suc (suc (suc (suc (suc (suc (suc zero))))))) a b number v t ok m = record { kind_is = refl; first_is = refl; second_is = refl; value_is = sym (eqb-true number 0 t.bare) }
made (suc (suc (suc (suc (suc (suc (suc (suc zero)))))))) a b number v t ok m = record { kind_is = refl; first_is = refl; second_is = sym (eqb-true b 0 t.lone); value_is = m ok }
made (suc (suc (suc (suc (suc (suc (suc (suc (suc zero))))))))) a b number v t ok m = record { kind_is = refl; first_is = refl; second_is = sym (eqb-true b 0 t.lone); value_is = m ok }
made (suc (suc (suc (suc (suc (suc (suc (suc (suc (suc k)))))))))) a b number v t ok m = absurd (omega (arith, t.high))

pub relation_back : (r : List ℕ) → Bytes r → length r ≡ relation_size → relation_form r ≡ true → ok_relation (relation_of r) ≡ true → encode_relation (relation_of r) ≡ r
unfolding encode_relation
relation_back r b l form ok =
    let t = tests (field r 0 1) (field r 5 4) (field r 9 8) form in
    let p = made (field r 0 1) (field r 1 4) (field r 5 4) (field r 9 8) (of_bits binary64 (field r 9 8)) t ok (bits_back ok_measure measure_rejects r 9 b) in
    rw (
      p.kind_is,
      p.first_is,
      p.second_is,
      p.value_is,
      bytes_field r 0 1 b (omega arith),
      bytes_field r 1 4 b (omega arith),
      bytes_field r 5 4 b (omega arith),
      bytes_field r 9 8 b (omega arith),
      part_join r 5 4 8,
      part_join r 1 4 12,
      part_join r 0 1 16,
    )
    (take_all relation_size r (omega arith))
