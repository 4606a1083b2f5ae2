-- A curve's record, there and back.
use mathlib.Core.Path.{◌≡◌, refl, sym, ap, ◌∙◌}
use mathlib.Core.Bool.{Bool, true, false, not, ◌&&◌, ◌||◌}
use mathlib.Core.List.{List, [], ◌∷◌, ◌++◌, append_assoc, append-nil}
use Prim.Native.Nat.{ℕ, zero, suc, ◌+◌, ◌*◌, ◌/◌, ◌%◌, ◌^◌, ◌≤◌, ◌<◌}
use native.Mathlib.Omega.{arith}
use lib.ListN.{length, drop, replicate, length-append}
use lib.Seq.{take_all}
use lib.Dec.{eqb, lit<}
use lib.Ieee.{Float, of_bits, binary64}
use lib.Ieee.Bits.{of_bits-to_bits, to_bits-lt}
use borrow.Author.Tests.{leb-true, le-leb, eqb-true}
use Rattle.big_endian.specs.Fields.{field, bytes, part}
use Rattle.big_endian.specs.Laws.{Bytes, length_bytes, field_in, bytes_field, part_join}
use Rattle.sketch.specs.Lists.{ite, every, concat_map}
use Rattle.sketch.specs.declared.Curve.{Curve}
use Rattle.sketch.specs.declared.CurveKind.{CurveKind}
use Rattle.sketch.specs.declared.CurveKind.TheVariants.{Line, Arc, Circle, Bezier, Conic}
use Rattle.sketch.specs.Valid.{ok_curve, ok_number, ok_radius, ok_rho, in_slots, sort_of, is_line_sort}
use Rattle.sketch.specs.Drawing.{no_slots}
use Rattle.sketch.proofs.Bools.{and_both}
use Rattle.sketch.proofs.Facts.{ok_number_lem}
use Rattle.image.specs.Records.{ids_at, slots_of, used_slots, curve_fields, curve_form, kind_of, curve_of, curve_size}
use Rattle.image.specs.Encode.{bit, bits, kind_byte, degree_of, number_bits, slot_ids, flag_byte, encode_curve}
use Rattle.image.specs.Stored.{Each, Id, StoredKind, StoredCurve}
use Rattle.image.proofs.Floats.{bits_back, radius_rejects, rho_rejects}
use Rattle.image.proofs.Tables.{Spells, length_concat_map, sized_all}

-- ---- flags

flags_low : (a b c : Bool) → (bit a + 2 * bit b + 4 * bit c) ≤ 7
unfolding bit
flags_low true true true = lit< tt
flags_low true true false = lit< tt
flags_low true false true = lit< tt
flags_low true false false = lit< tt
flags_low false true true = lit< tt
flags_low false true false = lit< tt
flags_low false false true = lit< tt
flags_low false false false = omega arith

record Flags (f : ℕ) (a b c : Bool) : Type 0 where
  first : eqb (f % 2) 1 ≡ a
  second : eqb (f / 2 % 2) 1 ≡ b
  third : eqb (f / 4 % 2) 1 ≡ c

flags_are : (a b c : Bool) → Flags (bit a + 2 * bit b + 4 * bit c) a b c
unfolding bit
flags_are true true true = record { first = refl; second = refl; third = refl }
flags_are true true false = record { first = refl; second = refl; third = refl }
flags_are true false true = record { first = refl; second = refl; third = refl }
flags_are true false false = record { first = refl; second = refl; third = refl }
flags_are false true true = record { first = refl; second = refl; third = refl }
flags_are false true false = record { first = refl; second = refl; third = refl }
flags_are false false true = record { first = refl; second = refl; third = refl }
flags_are false false false = record { first = refl; second = refl; third = refl }

flags_back : (f : ℕ) → f ≤ 7 → bit (eqb (f % 2) 1) + 2 * bit (eqb (f / 2 % 2) 1) + 4 * bit (eqb (f / 4 % 2) 1) ≡ f
unfolding bit
flags_back zero h = refl
flags_back (suc zero) h = refl
flags_back (suc (suc zero)) h = refl
flags_back (suc (suc (suc zero))) h = refl
flags_back (suc (suc (suc (suc zero)))) h = refl
flags_back (suc (suc (suc (suc (suc zero))))) h = refl
flags_back (suc (suc (suc (suc (suc (suc zero)))))) h = refl
flags_back (suc (suc (suc (suc (suc (suc (suc zero))))))) h = refl
flags_back (suc (suc (suc (suc (suc (suc (suc (suc f)))))))) h = absurd (omega arith)

-- ---- slots

-- ids that were written are read back
ids_in_lem : (l : List ℕ) (s pre post : List ℕ) (at : ℕ) → s ≡ pre ++ (concat_map (bytes 4) l ++ post) → length pre ≡ at → Each Id l → ids_at s at (length l) ≡ l
unfolding ids_at
ids_in_lem [] s pre post at e k w = refl
ids_in_lem (i ∷ l) s pre post at e k w =
    let f : field s at 4 ≡ i = field_in s pre (concat_map (bytes 4) l ++ post) at 4 i (e ∙ simp append_assoc) k w.0 in
    let t = ids_in_lem l s (pre ++ bytes 4 i) post (at + 4) (e ∙ simp append_assoc) (length-append pre (bytes 4 i) ∙ rw (k, length_bytes 4 i)) w.1 in
    rw (f, t)

-- ids that were read are written as they were
ids_back : (n : ℕ) (s : List ℕ) (at : ℕ) → Bytes s → at + n * 4 ≤ length s → concat_map (bytes 4) (ids_at s at n) ≡ part s at (n * 4)
unfolding ids_at
ids_back zero s at b h = refl
ids_back (suc n) s at b h =
    let e : suc n * 4 ≡ 4 + n * 4 = omega arith in
    rw (e, bytes_field s at 4 b (omega arith), ids_back n s (at + 4) b (omega arith)) (part_join s at 4 (n * 4))

eight_ids : (k : CurveKind) (s : List ℕ) → length s ≡ 8 → length (slot_ids k s) ≡ 8
unfolding slot_ids
eight_ids (Line a b) s h = refl
eight_ids (Arc c a b) s h = refl
eight_ids (Circle c r) s h = refl
eight_ids (Bezier n) s h = h
eight_ids (Conic a p b rho) s h = refl

no_id : Id 0
no_id = lit< tt

ids_fit : (k : CurveKind) (s : List ℕ) → StoredKind k → Each Id s → Each Id (slot_ids k s)
unfolding slot_ids StoredKind
ids_fit (Line a b) s w v = (w.0, (w.1, (no_id, (no_id, (no_id, (no_id, (no_id, (no_id, tt))))))))
ids_fit (Arc c a b) s w v = (w.0, (w.1, (w.2, (no_id, (no_id, (no_id, (no_id, (no_id, tt))))))))
ids_fit (Circle c r) s w v = (w.0, (no_id, (no_id, (no_id, (no_id, (no_id, (no_id, (no_id, tt))))))))
ids_fit (Bezier n) s w v = v
ids_fit (Conic a p b rho) s w v = (w.0, (w.1, (w.2, (no_id, (no_id, (no_id, (no_id, (no_id, tt))))))))

-- ---- the kind there

kind_lt : (k : CurveKind) → kind_byte k < 256
unfolding kind_byte
kind_lt (Line a b) = lit< tt
kind_lt (Arc c a b) = lit< tt
kind_lt (Circle c r) = lit< tt
kind_lt (Bezier n) = lit< tt
kind_lt (Conic a p b rho) = lit< tt

degree_lt : (k : CurveKind) → StoredKind k → degree_of k < 256
unfolding degree_of StoredKind
degree_lt (Line a b) w = lit< tt
degree_lt (Arc c a b) w = lit< tt
degree_lt (Circle c r) w = lit< tt
degree_lt (Bezier n) w = w
degree_lt (Conic a p b rho) w = lit< tt

number_lt : (k : CurveKind) → StoredKind k → number_bits k < 256 ^ 8
unfolding number_bits StoredKind
number_lt (Line a b) w = lit< tt
number_lt (Arc c a b) w = lit< tt
number_lt (Circle c r) w = to_bits-lt binary64 r w.1
number_lt (Bezier n) w = lit< tt
number_lt (Conic a p b rho) w = to_bits-lt binary64 rho w.3

kind_there : (k : CurveKind) (s : List ℕ) → StoredKind k → kind_of (kind_byte k) (degree_of k) (slot_ids k s) (of_bits binary64 (number_bits k)) ≡ k
unfolding kind_of kind_byte degree_of slot_ids number_bits StoredKind
kind_there (Line a b) s w = refl
kind_there (Arc c a b) s w = refl
kind_there (Circle c r) s w = rw (of_bits-to_bits binary64 r w.1)
kind_there (Bezier n) s w = refl
kind_there (Conic a p b rho) s w = rw (of_bits-to_bits binary64 rho w.3)

slots_there : (k : CurveKind) (s : List ℕ) → (in_slots k ≡ 0 → s ≡ no_slots) → ite (eqb (kind_byte k) 4) (slot_ids k s) no_slots ≡ s
unfolding kind_byte slot_ids in_slots
slots_there (Line a b) s h = sym (h refl)
slots_there (Arc c a b) s h = sym (h refl)
slots_there (Circle c r) s h = sym (h refl)
slots_there (Bezier n) s h = refl
slots_there (Conic a p b rho) s h = sym (h refl)

-- what the fields are tested for, the flags aside, is that a Bézier curve's further slots are clear
fields_there : (k : CurveKind) (f : ℕ) (s : List ℕ) (t : Bool) → f ≤ 7
    → (curve_fields (kind_byte k) f (degree_of k) (slot_ids k s) (number_bits k) && ((t && ok_number k) && every (λ i. eqb i 0) (drop (in_slots k) s)))
    ≡ ((t && ok_number k) && every (λ i. eqb i 0) (drop (in_slots k) s))
unfolding curve_fields used_slots kind_byte degree_of slot_ids number_bits in_slots
fields_there (Line a b) f s t h = rw (le-leb f 7 h)
fields_there (Arc c a b) f s t h = rw (le-leb f 7 h)
fields_there (Circle c r) f s t h = rw (le-leb f 7 h)
fields_there (Bezier n) f s t h = rw (le-leb f 7 h) (again (every (λ i. eqb i 0) (drop (suc n) s)) (t && ok_number (Bezier n)))
  where
    again : (x y : Bool) → (x && (y && x)) ≡ (y && x)
    again true y = refl
    again false true = refl
    again false false = refl
fields_there (Conic a p b rho) f s t h = rw (le-leb f 7 h)

-- ---- the record there

pub length_slots : (k : CurveKind) (s : List ℕ) → length s ≡ 8 → length (concat_map (bytes 4) (slot_ids k s)) ≡ 32
length_slots k s h = length_concat_map (bytes 4) 4 (slot_ids k s) (sized_all (bytes 4) 4 (length_bytes 4) (slot_ids k s)) ∙ rw (eight_ids k s h)

pub length_curve : (c : Curve) → length c.slots ≡ 8 → length (encode_curve c) ≡ curve_size
unfolding encode_curve
length_curve c h = simp (length-append, length_bytes) (rw (length_slots c.kind c.slots h))

pub curve_there : (c : Curve) → StoredCurve c → Spells encode_curve curve_of curve_form ok_curve c
unfolding encode_curve flag_byte
curve_there c w =
    let s = encode_curve c in
    let k = c.kind in
    let l = slot_ids k c.slots in
    let f = bit c.construction + 2 * bit c.centerline + 4 * bit c.infinite in
    let fl : f ≤ 7 = flags_low c.construction c.centerline c.infinite in
    let b1 = bytes 4 c.id in
    let b2 = bytes 1 (kind_byte k) in
    let b3 = bytes 1 f in
    let b4 = bytes 1 (degree_of k) in
    let b5 = concat_map (bytes 4) l in
    let b6 = bytes 8 (number_bits k) in
    let n5 : length b5 ≡ 32 = length_slots k c.slots w.eight in
    let f1 : field s 0 4 ≡ c.id = field_in s [] (b2 ++ (b3 ++ (b4 ++ (b5 ++ b6)))) 0 4 c.id refl refl w.id_fits in
    let f2 : field s 4 1 ≡ kind_byte k = field_in s b1 (b3 ++ (b4 ++ (b5 ++ b6))) 4 1 (kind_byte k) refl (length_bytes 4 _) (kind_lt k) in
    let f3 : field s 5 1 ≡ f = field_in s (b1 ++ b2) (b4 ++ (b5 ++ b6)) 5 1 f (simp append_assoc) (simp (length-append, length_bytes)) (omega arith) in
    let f4 : field s 6 1 ≡ degree_of k = field_in s (b1 ++ (b2 ++ b3)) (b5 ++ b6) 6 1 (degree_of k) (simp append_assoc) (simp (length-append, length_bytes)) (degree_lt k w.kind_fits) in
    let f5 : slots_of s ≡ l =
    ap (λ (n : ℕ). ids_at s 7 n) (sym (eight_ids k c.slots w.eight))
    ∙ ids_in_lem l s (b1 ++ (b2 ++ (b3 ++ b4))) b6 7 (simp append_assoc) (simp (length-append, length_bytes)) (ids_fit k c.slots w.kind_fits w.slots_fit) in
    let f6 : field s 39 8 ≡ number_bits k =
    field_in s (b1 ++ (b2 ++ (b3 ++ (b4 ++ b5)))) [] 39 8 (number_bits k) (simp (append_assoc, append-nil)) (simp (length-append, length_bytes) (rw n5)) (number_lt k w.kind_fits) in
    let g = flags_are c.construction c.centerline c.infinite in
    let o : curve_of s ≡ c = rw (f1, f2, f3, f4, f5, f6, kind_there k c.slots w.kind_fits, slots_there k c.slots w.beside, g.first, g.second, g.third) in
    let h : (curve_form s && ok_curve c) ≡ ok_curve c = rw (f2, f3, f4, f5, f6) (fields_there k f c.slots (not c.infinite || is_line_sort (sort_of k)) fl) in
    record { tested = ap (λ (x : Curve). curve_form s && ok_curve x) o ∙ h; spelled = o }

-- ---- the record back

pub zeros : (l : List ℕ) → every (λ i. eqb i 0) l ≡ true → l ≡ replicate (length l) 0
zeros [] h = refl
zeros (i ∷ l) h =
    let k = and_both (eqb i 0) _ h in
    rw (eqb-true i 0 k.0, ← zeros l k.1)

-- the parts of a kind that was made by its byte are what it was made from
record Parts (kind degree number : ℕ) (s : List ℕ) (k : CurveKind) : Type 0 where
  kind_is : kind_byte k ≡ kind
  degree_is : degree_of k ≡ degree
  slots_are : slot_ids k (ite (eqb kind 4) s no_slots) ≡ s
  number_is : number_bits k ≡ number

record Tests (kind flags degree number : ℕ) (s : List ℕ) : Type 0 where
  low : 1 ≤ kind
  high : kind ≤ 5
  known : flags ≤ 7
  plain : (eqb kind 4 || eqb degree 0) ≡ true
  bare : (eqb kind 3 || eqb kind 5 || eqb number 0) ≡ true
  clear : every (λ i. eqb i 0) (drop (used_slots kind degree) s) ≡ true

tests : (kind flags degree number : ℕ) (s : List ℕ) → curve_fields kind flags degree s number ≡ true → Tests kind flags degree number s
unfolding curve_fields
tests kind flags degree number s e =
    let t5 = and_both _ _ e in
    let t4 = and_both _ _ t5.0 in
    let t3 = and_both _ _ t4.0 in
    let t2 = and_both _ _ t3.0 in
    let t1 = and_both _ _ t2.0 in
    record { low = leb-true _ _ t1.0; high = leb-true _ _ t1.1; known = leb-true _ _ t2.1; plain = t3.1; bare = t4.1; clear = t5.1 }

kind_back : (kind flags degree number : ℕ) (a b c d e f g h : ℕ) (v : Float)
    → Tests kind flags degree number (a ∷ b ∷ c ∷ d ∷ e ∷ f ∷ g ∷ h ∷ [])
    → ok_number (kind_of kind degree (a ∷ b ∷ c ∷ d ∷ e ∷ f ∷ g ∷ h ∷ []) v) ≡ true
    → (ok_radius v ≡ true → bits v ≡ number) → (ok_rho v ≡ true → bits v ≡ number)
    → Parts kind degree number (a ∷ b ∷ c ∷ d ∷ e ∷ f ∷ g ∷ h ∷ []) (kind_of kind degree (a ∷ b ∷ c ∷ d ∷ e ∷ f ∷ g ∷ h ∷ []) v)
unfolding kind_of kind_byte degree_of slot_ids number_bits used_slots ok_number
kind_back zero flags degree number a b c d e f g h v t ok r1 r2 = absurd (omega (arith, t.low))
kind_back (suc zero) flags degree number a b c d e f g h v t ok r1 r2 =
    record {
      kind_is = refl;
      degree_is = sym (eqb-true degree 0 t.plain);
      slots_are = sym (ap (λ (l : List ℕ). a ∷ b ∷ l) (zeros (c ∷ d ∷ e ∷ f ∷ g ∷ h ∷ []) t.clear));
      number_is = sym (eqb-true number 0 t.bare);
    }
kind_back (suc (suc zero)) flags degree number a b c d e f g h v t ok r1 r2 =
    record {
      kind_is = refl;
      degree_is = sym (eqb-true degree 0 t.plain);
      slots_are = sym (ap (λ (l : List ℕ). a ∷ b ∷ c ∷ l) (zeros (d ∷ e ∷ f ∷ g ∷ h ∷ []) t.clear));
      number_is = sym (eqb-true number 0 t.bare);
    }
kind_back (suc (suc (suc zero))) flags degree number a b c d e f g h v t ok r1 r2 =
    record {
      kind_is = refl;
      degree_is = sym (eqb-true degree 0 t.plain);
      slots_are = sym (ap (λ (l : List ℕ). a ∷ l) (zeros (b ∷ c ∷ d ∷ e ∷ f ∷ g ∷ h ∷ []) t.clear));
      number_is = r1 ok;
    }
kind_back (suc (suc (suc (suc zero)))) flags degree number a b c d e f g h v t ok r1 r2 =
    record { kind_is = refl; degree_is = refl; slots_are = refl; number_is = sym (eqb-true number 0 t.bare) }
kind_back (suc (suc (suc (suc (suc zero))))) flags degree number a b c d e f g h v t ok r1 r2 =
    record {
      kind_is = refl;
      degree_is = sym (eqb-true degree 0 t.plain);
      slots_are = sym (ap (λ (l : List ℕ). a ∷ b ∷ c ∷ l) (zeros (d ∷ e ∷ f ∷ g ∷ h ∷ []) t.clear));
      number_is = r2 ok;
    }
kind_back (suc (suc (suc (suc (suc (suc k)))))) flags degree number a b c d e f g h v t ok r1 r2 = absurd (omega (arith, t.high))

pub curve_back : (r : List ℕ) → Bytes r → length r ≡ curve_size → curve_form r ≡ true → ok_curve (curve_of r) ≡ true → encode_curve (curve_of r) ≡ r
unfolding encode_curve flag_byte ids_at
curve_back r b l form ok =
    let v = of_bits binary64 (field r 39 8) in
    let t = tests (field r 4 1) (field r 5 1) (field r 6 1) (field r 39 8) (slots_of r) form in
    let k = kind_of (field r 4 1) (field r 6 1) (slots_of r) v in
    let n : ok_number k ≡ true = ok_number_lem (curve_of r) ok in
    let p =
    kind_back (field r 4 1) (field r 5 1) (field r 6 1) (field r 39 8) (field r 7 4) (field r 11 4) (field r 15 4) (field r 19 4) (field r 23 4) (field r 27 4) (field r 31 4) (field r 35 4) v t n
    (bits_back ok_radius radius_rejects r 39 b) (bits_back ok_rho rho_rejects r 39 b) in
    let s : concat_map (bytes 4) (slots_of r) ≡ part r 7 32 = ids_back 8 r 7 b (omega arith) in
    rw (
      p.kind_is,
      p.degree_is,
      p.slots_are,
      p.number_is,
      flags_back (field r 5 1) t.known,
      bytes_field r 0 4 b (omega arith),
      bytes_field r 4 1 b (omega arith),
      bytes_field r 5 1 b (omega arith),
      bytes_field r 6 1 b (omega arith),
      s,
      bytes_field r 39 8 b (omega arith),
      part_join r 7 32 8,
      part_join r 6 1 40,
      part_join r 5 1 41,
      part_join r 4 1 42,
      part_join r 0 4 43,
    )
    (take_all curve_size r (omega arith))
