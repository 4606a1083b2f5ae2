-- The wall's program: messages piece by piece, and the ways out.
use mathlib.Core.Path.{◌≡◌, refl, sym, ap, ap₂, ◌∙◌, subst}
use mathlib.Core.Bool.{Bool, true, false}
use mathlib.Core.List.{List, [], ◌∷◌, ◌++◌, append-nil}
use Prim.Native.Nat.{ℕ, zero, suc, ◌+◌, ◌≤◌, ◌<◌, min}
use native.Mathlib.Omega.{arith}
use lib.ListN.{length, take, drop, length-append, length-drop, drop_of_length-le}
use lib.Seq.{take_all, take_at, drop_at}
use lib.Dec.{leb}
use borrow.Author.Tests.{le-leb, lt-leb, leb-true, leb-false}
use Rattle.big_endian.specs.Fields.{over, over_if_fits}
use Rattle.big_endian.specs.Laws.{Bytes, over_fits}
use Rattle.sketch.specs.Lists.{ite, guard_number}
use Rattle.sketch.specs.Drawing.{Drawing}
use Rattle.image.specs.Image as I
use Rattle.image.proofs.RoundTrips.{result_refused, result_none, encode_parse}
use Rattle.image.proofs.Tables.{bytes_take}
use Rattle.message.specs.Message.{message_size}
use Rattle.agreement.specs.Machines.{State, initial, wall_transition}
use Rattle.replication.specs.Protocol.{protocol}
use Rattle.replication.specs.Transitions.{Memory, memory, image_in, state_in, Ready, first_nonzero, Started, Starts, WallCall, WallDelivers}
use Rattle.wall_program.specs.Program.{image_end, mark_in, mark_end, chunks_up_to, chunks, wall_after_messages, outcome_on, program_outcome, output, WritesOutcome, DeliversAll, WritesBytes}
use Rattle.replication.proofs.Steps.{length_parsed, Holding, wall_step_lem}
use Rattle.replication.proofs.StartCases.{start_image, starts_with, held_at_start}

-- ---- pieces

fuel : (n m : ℕ) (l : List ℕ) → length l ≤ n → length l ≤ m → chunks_up_to n l ≡ chunks_up_to m l
fuel zero zero l h k = refl
fuel zero (suc m) [] h k = refl
fuel zero (suc m) (b ∷ l) h k = absurd (omega arith)
fuel (suc n) zero [] h k = refl
fuel (suc n) zero (b ∷ l) h k = absurd (omega arith)
fuel (suc n) (suc m) [] h k = refl
fuel (suc n) (suc m) (b ∷ l) h k =
    let d : length (drop message_size (b ∷ l)) ≤ length l = omega (arith, length-drop message_size (b ∷ l)) in
    ap (λ (ps : List (List ℕ)). take message_size (b ∷ l) ∷ ps) (fuel n m (drop message_size (b ∷ l)) (omega arith) (omega arith))

pieces_more : (l : List ℕ) → 0 < length l → chunks l ≡ take message_size l ∷ chunks (drop message_size l)
pieces_more [] h = absurd (omega arith)
pieces_more (b ∷ l) h =
    let d : length (drop message_size (b ∷ l)) ≤ length l = omega (arith, length-drop message_size (b ∷ l)) in
    ap (λ (ps : List (List ℕ)). take message_size (b ∷ l) ∷ ps) (fuel (length l) (length (drop message_size (b ∷ l))) (drop message_size (b ∷ l)) d (omega arith))

-- one more message
more : (s : Memory) (l : List ℕ) → 0 < length l → (c : WallCall) → Ready s → c.bytes ≡ take message_size l → WallDelivers s c
    → wall_after_messages s.mark (state_in c.left) (chunks (drop message_size l)) ≡ wall_after_messages s.mark (state_in s) (chunks l)
more s l h c v e w =
    let p = protocol s.mark in
    let x : state_in c.left ≡ (wall_transition p (state_in s) (p.decode (take message_size l))).0 =
    (wall_step_lem s v c w).0.state ∙ ap (λ (m : List ℕ). (wall_transition p (state_in s) (p.decode m)).0) e in
    ap (λ (t : State Drawing). wall_after_messages s.mark t (chunks (drop message_size l))) x ∙ sym (ap (wall_after_messages s.mark (state_in s)) (pieces_more l h))

-- what the loop keeps, with the bytes that are left
pub record Follows (s₀ : Memory) (bytes : List ℕ) (s : Memory) (left : List ℕ) : Type 0 where
  pub ready : Ready s
  pub mark_is : s.mark ≡ s₀.mark
  pub on : wall_after_messages s₀.mark (state_in s) (chunks left) ≡ wall_after_messages s₀.mark (state_in s₀) (chunks bytes)

-- a list that is cut where it is as long as a piece, or at its end
cut : (n : ℕ) (l x y : List ℕ) → l ≡ x ++ y → length x ≡ min n (length l) → (take n l ≡ x) × (drop n l ≡ y)
cut n l x y e h = go (leb n (length l)) refl
  where
    none : (y : List ℕ) → length y ≡ 0 → y ≡ []
    none [] h = refl
    none (b ∷ y) h = absurd (omega arith)

    go : (t : Bool) → leb n (length l) ≡ t → (take n l ≡ x) × (drop n l ≡ y)
    go true q =
        let long : length x ≡ n = omega (arith, leb-true n (length l) q) in
        (ap (take n) e ∙ take_at x y n long, ap (drop n) e ∙ drop_at x y n long)
    go false q =
        let few : length l ≤ n = omega (arith, leb-false n (length l) q) in
        let z : y ≡ [] = none y (omega (arith, ap length e, length-append x y)) in
        let same : l ≡ x = e ∙ ap (λ (y : List ℕ). x ++ y) z ∙ append-nil x in
        (take_all n l few ∙ same, drop_of_length-le l few ∙ sym z)

pub delivers_more :
    (s₀ : Memory) (bytes : List ℕ) (s : Memory) (l x y : List ℕ) → Follows s₀ bytes s l → l ≡ x ++ y → length x ≡ min message_size (length l) → 0 < length l
    → (c : WallCall) → c.bytes ≡ x → WallDelivers s c → Follows s₀ bytes c.left y
delivers_more s₀ bytes s l x y f e h some c b w =
    let (front, rest) = cut message_size l x y e h in
    let one = more s l some c f.ready (b ∙ sym front) w in
    let left = (wall_step_lem s f.ready c w).1 in
    record {
      ready = left.0;
      mark_is = left.1 ∙ f.mark_is;
      on =
          ap (λ (m : List ℕ). wall_after_messages s₀.mark (state_in c.left) (chunks m)) (sym rest)
          ∙ subst (λ (k : ℕ). wall_after_messages k (state_in c.left) (chunks (drop message_size l)) ≡ wall_after_messages k (state_in s) (chunks l)) f.mark_is one ∙ f.on;
    }

pub delivers_all : (s₀ : Memory) (bytes : List ℕ) (s : Memory) (l : List ℕ) → Follows s₀ bytes s l → length l ≡ 0 → DeliversAll s₀ bytes s
delivers_all s₀ bytes s [] f h = record { is = f.on; ready = f.ready }
delivers_all s₀ bytes s (b ∷ l) f h = absurd (omega arith)

-- ---- what is written

module _ (s b : List ℕ) (are : Bytes s) where
  pub bytes_short : length b < length s → WritesBytes s b b 0
  bytes_short h = record { size = rw (lt-leb (length s) (length b) h); buffer = rw (lt-leb (length s) (length b) h); within = omega arith; are = are }

  pub bytes_written : length s ≤ length b → {now : List ℕ} → now ≡ over_if_fits b 0 s → WritesBytes s b now (length s)
  bytes_written h q = record { size = rw (le-leb (length s) (length b) h); buffer = rw (le-leb (length s) (length b) h) (q ∙ over_fits b 0 s (omega arith)); within = h; are = are }

by_image : (image b : List ℕ) (d : Drawing) → I.parse image ≡ I.accepted d → {now : List ℕ} {r : ℕ} → WritesBytes image b now r → WritesOutcome (I.accepted d) b now r
by_image image b d e w =
    let size = length_parsed image d e in
    let same = encode_parse image d w.are e in
    record {
      size = w.size ∙ ap (λ (n : ℕ). ite (leb n (length b)) n 0) size;
      buffer = w.buffer ∙ ap₂ (λ (n : ℕ) (s : List ℕ). ite (leb n (length b)) (over b 0 s) b) size (sym same);
      within = w.within;
    }

-- ---- the whole

-- a place that is counted from the image's end, by the length that was read
pub by_length : {A : Type 0} (f : ℕ → A) {k l : ℕ} {r : A} → k ≡ l → r ≡ f k → r ≡ f l
by_length f p q = q ∙ ap f p

module _
    (s image : List ℕ) (mark : ℕ) (e : image ≡ take (image_end s) s) (k : mark ≡ mark_in s)
    (b b' : List ℕ) (r : Started) (st : Starts image mark 0 b b' r)
  where
    -- the buffer has room for any image, so that a refusal is the image's
    pub outcome_refused : I.max_image_size ≤ length b → (r.refusal ≡ 0 → ⊥) → (k : ℕ) → k ≡ r.refusal → (l now : List ℕ) (n : ℕ) → WritesBytes (output (I.refused k)) l now n → WritesOutcome (program_outcome s) l now n
    unfolding guard_number
    outcome_refused room h k number l now n w =
        let own : r.refusal ≡ I.image_fault image = st.number ∙ rw (le-leb I.max_image_size (length b) room) (go (I.image_fault image)) in
        let z : I.image_fault image ≡ 0 → ⊥ = λ y. h (own ∙ y) in
        let q : program_outcome s ≡ I.refused k =
        ap (λ (o : I.ParseResult). outcome_on (mark_in s) o (chunks (drop (mark_end s) s))) (ap I.parse (sym e) ∙ result_refused (I.image_fault image) _ z) ∙ ap I.refused (sym (number ∙ own)) in
        subst (λ (o : I.ParseResult). WritesOutcome o l now n) (sym q) (record { size = w.size; buffer = w.buffer; within = w.within })
      where
        go : (k : ℕ) → first_nonzero k 0 ≡ k
        go zero = refl
        go (suc k) = refl

    module _ (z : r.refusal ≡ 0) (are : Bytes s) where
      image_bytes : Bytes image
      image_bytes = subst Bytes (sym e) (bytes_take (image_end s) s are)

      start_drawing : I.parse image ≡ I.accepted (I.drawing_of image)
      start_drawing = result_none (I.image_fault image) (I.drawing_of image) (start_image image mark 0 b b' r st z)

      pub program_start : Holding mark (memory r.replica b') (initial (I.drawing_of image))
      program_start = held_at_start image image_bytes mark 0 (I.drawing_of image) start_drawing (memory r.replica b') (starts_with image mark 0 b b' r st z)

      pub program_outcome_lem :
          (rest : List ℕ) → rest ≡ drop (mark_end s) s → (last : Memory) → DeliversAll (memory r.replica b') rest last → (left : List ℕ) → left ≡ image_in last → (l now : List ℕ) (n : ℕ)
          → WritesBytes left l now n → WritesOutcome (program_outcome s) l now n
      program_outcome_lem rest g last f left h l now n w =
          let d = I.drawing_of image in
          let m : state_in last ≡ wall_after_messages (mark_in s) (initial d) (chunks (drop (mark_end s) s)) =
          f.is ∙ ap (λ (l : List ℕ). wall_after_messages r.replica.mark (state_in (memory r.replica b')) (chunks l)) g
          ∙ ap₂ (λ (k : ℕ) (t : State Drawing). wall_after_messages k t (chunks (drop (mark_end s) s))) (program_start.mark_is ∙ k) program_start.state
          in
          let q : program_outcome s ≡ I.accepted (state_in last).drawing =
          ap (λ (o : I.ParseResult). outcome_on (mark_in s) o (chunks (drop (mark_end s) s))) (ap I.parse (sym e) ∙ start_drawing) ∙ ap (λ (t : State Drawing). I.accepted t.drawing) (sym m)
          in
          subst (λ (o : I.ParseResult). WritesOutcome o l now n) (sym q) (by_image left l (state_in last).drawing (ap I.parse h ∙ f.ready.image_is) w)

-- with fewer bytes than a mark's after the image, the outcome is the image's own
pub without_mark : (s : List ℕ) → length s < mark_end s → program_outcome s ≡ I.parse (take (image_end s) s)
without_mark s h =
    let short : length s ≤ mark_end s = omega arith in
    ap (λ (l : List ℕ). outcome_on (mark_in s) (I.parse (take (image_end s) s)) (chunks l)) (drop_of_length-le s short) ∙ go (I.parse (take (image_end s) s))
  where
    go : (p : I.ParseResult) → outcome_on (mark_in s) p [] ≡ p
    go (I.refused k) = refl
    go (I.accepted d) = refl
