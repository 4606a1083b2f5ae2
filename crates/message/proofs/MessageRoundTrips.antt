-- Messages there and back.
use mathlib.Core.Path.{◌≡◌, refl, sym, ap, ◌∙◌}
use mathlib.Core.Bool.{true, and-true}
use mathlib.Core.List.{List, [], ◌++◌, append_assoc, append-nil}
use Prim.Native.Nat.{ℕ, zero, suc, ◌-◌, ◌≤◌, ◌<◌}
use native.Mathlib.Omega.{arith}
use lib.ListN.{length, length-append}
use lib.Seq.{take_all}
use lib.Dec.{leb, eqb, lit<}
use borrow.Author.Tests.{leb-true, eqb-true, eq-eqb, ne_eqb}
use Rattle.big_endian.specs.Fields.{field, bytes, part}
use Rattle.big_endian.specs.Laws.{Bytes, length_bytes, field_in, bytes_field, part_join}
use Rattle.sketch.specs.Lists.{guard_number}
use Rattle.sketch.proofs.Bools.{and_both}
use Rattle.message.specs.declared.Operation.{Operation}
use Rattle.message.specs.declared.Operation.TheVariants.{Trim, Split, Extend}
use Rattle.message.specs.declared.Message.{Message}
use Rattle.refusal.specs.Refusals.{Accepted, Refused}
use Rattle.message.specs.Stored.{StoredMessage, Mark}
use Rattle.sketch.specs.Drawing.{id_size}
use Rattle.message.specs.Message.{length_size, version_at, mark_size, mark_at, edit_number_size, edit_number_at, operation_at, curve_at, x_at, y_at, version, mark_of, message_fault, operation_of, operation_byte, message_of, result_of, parse, encode, message_length, message_size}
use Rattle.sketch.proofs.Facts.{guard_number_kept}

-- ---- the operation's byte

record Known (o : Operation) : Type 0 where
  low : leb 1 (operation_byte o) ≡ true
  high : leb (operation_byte o) 3 ≡ true
  small : operation_byte o < 256
  again : operation_of (operation_byte o) ≡ o

known : (o : Operation) → Known o
unfolding operation_byte operation_of
known Trim = record { low = refl; high = refl; small = lit< tt; again = refl }
known Split = record { low = refl; high = refl; small = lit< tt; again = refl }
known Extend = record { low = refl; high = refl; small = lit< tt; again = refl }

byte_back : (b : ℕ) → 1 ≤ b → b ≤ 3 → operation_byte (operation_of b) ≡ b
unfolding operation_byte operation_of
byte_back zero l h = absurd (omega arith)
byte_back (suc zero) l h = refl
byte_back (suc (suc zero)) l h = refl
byte_back (suc (suc (suc zero))) l h = refl
byte_back (suc (suc (suc (suc b)))) l h = absurd (omega arith)

pub length_message : (mark : ℕ) (m : Message) → length (encode mark m) ≡ message_size
unfolding encode
length_message mark m = simp (length-append, length_bytes)

-- ---- there: the bytes of a message under a mark are foreign at any other, refused by 6 where its number is 0, and give the message where it is not

-- the mark stands in its field, whatever comes behind it
mark_in_lem :
    (mark : ℕ) → Mark mark → (s rest : List ℕ) → s ≡ bytes length_size message_length ++ (bytes 1 version ++ (bytes mark_size mark ++ rest))
    → mark_of s ≡ mark
mark_in_lem mark k s rest e =
    field_in s (bytes length_size message_length ++ bytes 1 version) rest mark_at mark_size mark (e ∙ simp append_assoc) (simp (length-append, length_bytes)) k

pub mark_written : (mark : ℕ) → Mark mark → (m : Message) → mark_of (encode mark m) ≡ mark
unfolding encode
mark_written mark k m = mark_in_lem mark k (encode mark m) _ refl

module _ (mark : ℕ) (k : Mark mark) (m : Message) (w : StoredMessage m) (s : List ℕ)
    (e : s ≡ bytes length_size message_length ++ (bytes 1 version ++ (bytes mark_size mark ++ (bytes edit_number_size m.number ++ (bytes 1 (operation_byte m.operation) ++ (bytes id_size m.curve ++ (bytes 8 m.x ++ bytes 8 m.y))))))) where
  parsed : (at : ℕ) → parse at s ≡ result_of (guard_number (eqb mark at) 28 (guard_number (leb 1 m.number) 6 0)) m
  unfolding message_fault guard_number
  parsed at =
      let o = known m.operation in
      let b0 = bytes length_size message_length in
      let b1 = bytes 1 version in
      let b2 = bytes mark_size mark in
      let b3 = bytes edit_number_size m.number in
      let b4 = bytes 1 (operation_byte m.operation) in
      let b5 = bytes id_size m.curve in
      let b6 = bytes 8 m.x in
      let b7 = bytes 8 m.y in
      let l : length s ≡ message_size = ap length e ∙ simp (length-append, length_bytes) in
      let f0 : field s 0 length_size ≡ message_length = field_in s [] (b1 ++ (b2 ++ (b3 ++ (b4 ++ (b5 ++ (b6 ++ b7)))))) 0 length_size message_length e refl (lit< tt) in
      let f1 : field s version_at 1 ≡ version = field_in s b0 (b2 ++ (b3 ++ (b4 ++ (b5 ++ (b6 ++ b7))))) version_at 1 version e (length_bytes length_size _) (lit< tt) in
      let f2 = mark_in_lem mark k s (b3 ++ (b4 ++ (b5 ++ (b6 ++ b7)))) e in
      let f3 : field s edit_number_at edit_number_size ≡ m.number =
      field_in s (b0 ++ (b1 ++ b2)) (b4 ++ (b5 ++ (b6 ++ b7))) edit_number_at edit_number_size m.number (e ∙ simp append_assoc) (simp (length-append, length_bytes)) w.number_fits in
      let f4 : field s operation_at 1 ≡ operation_byte m.operation =
      field_in s (b0 ++ (b1 ++ (b2 ++ b3))) (b5 ++ (b6 ++ b7)) operation_at 1 (operation_byte m.operation) (e ∙ simp append_assoc) (simp (length-append, length_bytes)) o.small in
      let f5 : field s curve_at id_size ≡ m.curve = field_in s (b0 ++ (b1 ++ (b2 ++ (b3 ++ b4)))) (b6 ++ b7) curve_at id_size m.curve (e ∙ simp append_assoc) (simp (length-append, length_bytes)) w.curve_fits_lem in
      let f6 : field s x_at 8 ≡ m.x = field_in s (b0 ++ (b1 ++ (b2 ++ (b3 ++ (b4 ++ b5))))) b7 x_at 8 m.x (e ∙ simp append_assoc) (simp (length-append, length_bytes)) w.x_fits in
      let f7 : field s y_at 8 ≡ m.y = field_in s (b0 ++ (b1 ++ (b2 ++ (b3 ++ (b4 ++ (b5 ++ b6)))))) [] y_at 8 m.y (e ∙ simp (append_assoc, append-nil)) (simp (length-append, length_bytes)) w.y_fits in
      rw (l, f0, f1, f2, f3, f4, f5, f6, f7, o.low, o.high, o.again, and-true (leb 1 m.number))

-- at its own mark
pub parse_encode : (mark : ℕ) → Mark mark → (m : Message) → StoredMessage m → parse mark (encode mark m) ≡ result_of (guard_number (leb 1 m.number) 6 0) m
unfolding encode guard_number
parse_encode mark k m w = parsed mark k m w (encode mark m) refl mark ∙ rw (eq-eqb mark mark refl)

-- at any other it is foreign (28), whatever its number
pub parse_foreign : (mark at : ℕ) → Mark mark → (mark ≡ at → ⊥) → (m : Message) → StoredMessage m → parse at (encode mark m) ≡ Refused 28
unfolding encode guard_number result_of
parse_foreign mark at k ne m w = parsed mark k m w (encode mark m) refl at ∙ rw (ne_eqb mark at ne)

-- ---- back: an accepted message, written again, is the same bytes

pub result_accepted : (n : ℕ) (m₀ m : Message) → result_of n m₀ ≡ Accepted m → (n ≡ 0) × (m₀ ≡ m)
unfolding result_of
result_accepted zero m₀ m e = (refl, cc)
result_accepted (suc n) m₀ m e = let z : ◌≡◌ {A = ℕ} 0 1 = cc in absurd (omega arith)

pub result_refused : (n : ℕ) (m₀ : Message) (k : ℕ) → result_of n m₀ ≡ Refused k → (k ≡ n) × (k ≡ 0 → ⊥)
unfolding result_of
result_refused zero m₀ k e = let z : ◌≡◌ {A = ℕ} 0 1 = cc in absurd (omega arith)
result_refused (suc n) m₀ k e = let q : k ≡ suc n = cc in (q, λ h. omega arith)

-- a message without a fault at a mark, as facts
pub record Sound (mark : ℕ) (s : List ℕ) : Type 0 where
  pub version_is : field s version_at 1 ≡ version
  pub long : length s ≡ message_size
  pub length_field : field s 0 length_size ≡ message_length
  pub mark_is : mark_of s ≡ mark
  pub numbered : 1 ≤ field s edit_number_at edit_number_size
  pub low : 1 ≤ field s operation_at 1
  pub high : field s operation_at 1 ≤ 3

pub message_kept : (mark : ℕ) (s : List ℕ) → message_fault mark s ≡ 0 → Sound mark s
unfolding message_fault
message_kept mark s e =
    let k1 = guard_number_kept _ _ _ e in
    let k2 = guard_number_kept _ _ _ k1.1 in
    let k3 = guard_number_kept _ _ _ k2.1 in
    let k4 = guard_number_kept _ _ _ k3.1 in
    let k5 = guard_number_kept _ _ _ k4.1 in
    let a = and_both _ _ k3.0 in
    let b2 = and_both _ _ k5.0 in
    let b1 = and_both _ _ b2.1 in
    record {
      version_is = eqb-true _ _ k2.0;
      long = eqb-true _ _ a.0;
      length_field = eqb-true _ _ a.1;
      mark_is = eqb-true _ _ k4.0;
      numbered = leb-true _ _ b2.0;
      low = leb-true _ _ b1.0;
      high = leb-true _ _ b1.1;
    }

-- bytes with a fault are refused by its number
pub fault_refused : (mark : ℕ) (s : List ℕ) → (message_fault mark s ≡ 0 → ⊥) → parse mark s ≡ Refused (message_fault mark s)
unfolding result_of
fault_refused mark s = go (message_fault mark s)
  where
    go : (n : ℕ) → (n ≡ 0 → ⊥) → result_of n (message_of s) ≡ Refused n
    go zero h = absurd (h refl)
    go (suc n) h = refl

-- bytes whose mark is another have a fault, whatever else they are
pub foreign_fault : (mark : ℕ) (s : List ℕ) → (mark_of s ≡ mark → ⊥) → message_fault mark s ≡ 0 → ⊥
foreign_fault mark s ne e = ne (message_kept mark s e).mark_is

pub encode_back : (mark : ℕ) (s : List ℕ) → Bytes s → Sound mark s → encode mark (message_of s) ≡ s
unfolding encode
encode_back mark s b w =
    let l = w.long in
    let t : bytes length_size message_length ≡ part s 0 length_size = ap (bytes length_size) (sym w.length_field) ∙ bytes_field s 0 length_size b (omega arith) in
    let v : bytes 1 version ≡ part s version_at 1 = ap (bytes 1) (sym w.version_is) ∙ bytes_field s version_at 1 b (omega arith) in
    let q : bytes mark_size mark ≡ part s mark_at mark_size = ap (bytes mark_size) (sym w.mark_is) ∙ bytes_field s mark_at mark_size b (omega arith) in
    rw (
      t,
      v,
      q,
      byte_back (field s operation_at 1) w.low w.high,
      bytes_field s edit_number_at edit_number_size b (omega arith),
      bytes_field s operation_at 1 b (omega arith),
      bytes_field s curve_at id_size b (omega arith),
      bytes_field s x_at 8 b (omega arith),
      bytes_field s y_at 8 b (omega arith),
      part_join s x_at 8 8,
      part_join s curve_at id_size (message_size - x_at),
      part_join s operation_at 1 (message_size - curve_at),
      part_join s edit_number_at edit_number_size (message_size - operation_at),
      part_join s mark_at mark_size (message_size - edit_number_at),
      part_join s version_at 1 (message_size - mark_at),
      part_join s 0 length_size (message_size - version_at),
    )
    (take_all message_size s (omega arith))

pub encode_parse : (mark : ℕ) (s : List ℕ) (m : Message) → Bytes s → parse mark s ≡ Accepted m → encode mark m ≡ s
encode_parse mark s m b e =
    let v = result_accepted (message_fault mark s) (message_of s) m e in
    rw (← v.1) (encode_back mark s b (message_kept mark s v.0))
