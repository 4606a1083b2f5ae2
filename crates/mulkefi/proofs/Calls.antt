-- What the C calls answer, from what desk and wall answer: one law for each way out. Assumes nothing.
use mathlib.Core.Path.{◌≡◌, refl, sym, ap, ap₂, ◌∙◌, subst}
use mathlib.Core.Bool.{Bool, true, false}
use mathlib.Core.List.{List}
use Prim.Native.Nat.{ℕ, zero, suc, ◌+◌, ◌/◌, ◌%◌, ◌≤◌}
use native.Mathlib.Omega.{arith}
use lib.ListN.{length, take}
use lib.Dec.{leb, eqb}
use borrow.Author.Tests.{ne_eqb}
use Rattle.big_endian.specs.Laws.{Bytes}
use Rattle.sketch.specs.Lists.{ite, guard_number}
use Rattle.sketch.specs.Drawing.{Drawing, limits}
use Rattle.image.specs.Image as I
use Rattle.image.specs.Encode as E
use Rattle.image.proofs.RoundTrips.{result_accepted}
use Rattle.message.specs.Message.{is_operation}
use Rattle.edit_plan.specs.declared.Removed.{Removed}
use Rattle.edit_plan.specs.Steps.{nothing}
use Rattle.edit_plan.specs.Outcome as O
use Rattle.modify.proofs.ImageFaults.{image_fault_low}
use Rattle.agreement.specs.Machines as M
use Rattle.agreement.specs.Machines.{State, Call, call_outcome, wall_transition}
use Rattle.replication.specs.DeskReply.{DeskReply}
use Rattle.replication.specs.DeskReply as Desk
use Rattle.replication.specs.WallReply.{WallReply}
use Rattle.replication.specs.WallReply as Wall
use Rattle.replication.specs.Protocol.{Edit, place, protocol}
use Rattle.replication.specs.Outcomes.{CallOutcome, refused, old, updated, on_image, desk_outcome, desk_on, wall_outcome, wall_on, number_of, place_of, OutcomeSound, message_after, window_after}
use Rattle.replication.specs.Transitions as R
use Rattle.replication.specs.Transitions.{Memory, image_in, first_fault, memory_after, desk_reply_to, DeskEdits, wall_reply_to, WallDelivers}
use Rattle.replication.proofs.CallOutcomes.{first_of, first_some, on_first}
use Rattle.replication.proofs.OutcomePlaces.{desk_place_within, wall_place_within}
use Rattle.replication.proofs.StartCases.{good_size}
use Rattle.replication.proofs.Steps.{length_parsed}
use Rattle.replication.proofs.WallCases.{WallCase, is_refused, is_old, is_applied, wall_case}
use Rattle.mulkefi.specs.Calls.{buffer_after, answer_after, CallWritten, desk_by_number, desk_outcome_by_number, DeskCallWritten, WallCallWritten}
use Rattle.mulkefi.specs.Clauses.{answer_with}

-- ---- a call's answer by its outcome

buffer_after_lem : (v : CallOutcome) (m : Memory) → (memory_after v m).buffer ≡ buffer_after v m.buffer
buffer_after_lem (refused k place) m = refl
buffer_after_lem (old s) m = refl
buffer_after_lem (updated s r) m = refl

pub refused_written : (v : CallOutcome) (k place r : ℕ) → v ≡ refused k place → (k ≡ 0 → ⊥) → r % 65536 ≡ k → r / 65536 ≡ place → (b a : List ℕ) → CallWritten v b b a a r
refused_written v k place r g z n p b a =
    record {
      number = n ∙ sym (ap number_of g);
      place = p ∙ sym (ap place_of g);
      image = sym (ap (λ (v : CallOutcome). buffer_after v b) g);
      sound = subst OutcomeSound (sym g) z;
      numbers = sym (ap (λ (v : CallOutcome). answer_after v a) g);
    }

-- an old message, or a new image: the answer has what is left
module _ (m : Memory) (v : CallOutcome) (sound : OutcomeSound v) (left : Memory) (is : left ≡ memory_after v m) where
  pub old_written :
      (s : State Drawing) → v ≡ old s → (a a' : List ℕ) (r : ℕ) → r ≡ 0 → a' ≡ answer_with a left.count left.size nothing → CallWritten v m.buffer left.buffer a a' r
  old_written s g a a' r z e =
      let l : left ≡ memory_after (old s) m = is ∙ ap (λ (v : CallOutcome). memory_after v m) g in
      record {
        number = ap (λ (k : ℕ). k % 65536) z ∙ sym (ap number_of g);
        place = ap (λ (k : ℕ). k / 65536) z ∙ sym (ap place_of g);
        image = ap (λ (m : Memory). m.buffer) is ∙ buffer_after_lem v m;
        sound = sound;
        numbers = e ∙ ap (λ (t : Memory). answer_with a t.count t.size nothing) l ∙ sym (ap (λ (v : CallOutcome). answer_after v a) g);
      }

  pub updated_written :
      (s : State Drawing) (q : Removed) → v ≡ updated s q → (a a' : List ℕ) (r : ℕ) → r ≡ 0 → a' ≡ answer_with a left.count left.size q → CallWritten v m.buffer left.buffer a a' r
  updated_written s q g a a' r z e =
      let l : left ≡ memory_after (updated s q) m = is ∙ ap (λ (v : CallOutcome). memory_after v m) g in
      record {
        number = ap (λ (k : ℕ). k % 65536) z ∙ sym (ap number_of g);
        place = ap (λ (k : ℕ). k / 65536) z ∙ sym (ap place_of g);
        image = ap (λ (m : Memory). m.buffer) is ∙ buffer_after_lem v m;
        sound = sound;
        numbers = e ∙ ap (λ (t : Memory). answer_with a t.count t.size q) l ∙ sym (ap (λ (v : CallOutcome). answer_after v a) g);
      }

  -- what is left is no larger than any image
  pub updated_size : (s : State Drawing) (q : Removed) → v ≡ updated s q → left.size ≤ I.max_image_size
  updated_size s q g =
      let l : left.size ≡ E.drawing_size s.drawing = ap (λ (m : Memory). m.size) (is ∙ ap (λ (v : CallOutcome). memory_after v m) g) in
      let (long, read) = subst OutcomeSound g sound in
      omega (arith, l, long, good_size (E.encode s.drawing) (result_accepted (I.image_fault (E.encode s.drawing)) (I.drawing_of (E.encode s.drawing)) s.drawing read).0)

  pub refused_buffer : (k place : ℕ) → v ≡ refused k place → left ≡ m
  refused_buffer k place g = is ∙ ap (λ (v : CallOutcome). memory_after v m) g

-- a place within the limit stands whole above a number
whole_place : (v : CallOutcome) (k place r : ℕ) → v ≡ refused k place → place_of v ≤ limits.relations → r / 65536 ≡ place % 65536 → r / 65536 ≡ place
whole_place v k place r g h e = omega (arith, ap place_of g)

-- ---- the desk

-- no edit of the desk is old
abbrev NotOld : CallOutcome → Type 0
NotOld (refused k place) = Unit {0}
NotOld (old s) = ⊥
NotOld (updated s r) = Unit {0}

desk_not_old : (m : Memory) (e : Edit) (room : ℕ) → NotOld (R.desk_call_outcome m e room)
desk_not_old m e room = on (I.parse (image_in m))
  where
    fits : (t : State Drawing) (q : Removed) (b : Bool) → NotOld (ite b (updated t q) (refused 25 0))
    fits t q true = tt
    fits t q false = tt

    out : (f : ℕ → ℕ) (o : O.Outcome (State Drawing) Removed) → NotOld (desk_outcome (length m.buffer) f o)
    out f (O.refused k) = tt
    out f (O.accepted t q) = fits t q (leb (E.drawing_size t.drawing) (length m.buffer))

    on : (p : I.ParseResult) → NotOld (on_image p m.count (desk_on m.mark (length m.buffer) (record { edit = e; room = room })))
    on (I.refused k) = tt
    on (I.accepted d) = out (place d e) (call_outcome (protocol m.mark) (record { drawing = d; count = m.count }) (record { edit = e; room = room }))

-- the outcome by the reply
desk_reply_refused : (v : CallOutcome) (n q : ℕ) → NotOld v → Desk.Refused n q ≡ desk_reply_to v → v ≡ refused n q
desk_reply_refused (refused k p) n q h e = let i : n ≡ k = cc in let j : q ≡ p = cc in sym (ap₂ refused i j)
desk_reply_refused (old s) n q h e = absurd h
desk_reply_refused (updated s r) n q h e = let z : ◌≡◌ {A = ℕ} 0 1 = cc in absurd (omega arith)

desk_reply_accepted : (v : CallOutcome) (q : Removed) → NotOld v → Desk.Accepted q ≡ desk_reply_to v → (s : State Drawing) × (v ≡ updated s q)
desk_reply_accepted (refused k p) q h e = let z : ◌≡◌ {A = ℕ} 0 1 = cc in absurd (omega arith)
desk_reply_accepted (old s) q h e = absurd h
desk_reply_accepted (updated s r) q h e = let i : q ≡ r = cc in (s, ap (updated s) (sym i))

-- an unknown operation's number is small
first_low : (s : List ℕ) {n : ℕ} → n ≡ first_fault s 6 → n ≤ 6
unfolding guard_number
first_low s {n} e = go (I.image_fault s) (image_fault_low s) e
  where
    go : (k : ℕ) → k ≤ 5 → n ≡ guard_number (eqb k 0) k 6 → n ≤ 6
    go zero h e = omega (arith, e)
    go (suc k) h e = let q : n ≡ suc k = e ∙ rw (ne_eqb (suc k) 0 (λ z. omega arith)) in omega arith

-- the outcome by the operation's number
module _ (b : List ℕ) (len count mark operation : ℕ) (e : Edit) (room : ℕ) where
  pub known_outcome : is_operation operation ≡ true → desk_outcome_by_number b len count mark operation e room ≡ R.desk_call_outcome (record { buffer = b; size = len; mark = mark; count = count }) e room
  known_outcome k = on (I.parse (take len b))
    where
      on :
          (p : I.ParseResult)
          → on_image p count (desk_by_number mark (length b) operation (record { edit = e; room = room })) ≡ on_image p count (desk_on mark (length b) (record { edit = e; room = room }))
      on (I.refused k) = refl
      on (I.accepted d) = rw k

  pub unknown_outcome : is_operation operation ≡ false → (n : ℕ) × (desk_outcome_by_number b len count mark operation e room ≡ refused n 0)
  unknown_outcome k = on (I.parse (take len b))
    where
      on : (p : I.ParseResult) → (n : ℕ) × (on_image p count (desk_by_number mark (length b) operation (record { edit = e; room = room })) ≡ refused n 0)
      on (I.refused n) = (n, refl)
      on (I.accepted d) = (6, rw k)

module _ (b : List ℕ) (len count mark operation : ℕ) (e : Edit) (l kept a : List ℕ) where
  abbrev m : Memory
  m = record { buffer = b; size = len; mark = mark; count = count }

  abbrev call : Call Edit
  call = record { edit = e; room = length l }

  abbrev outcome : CallOutcome
  outcome = desk_outcome_by_number b len count mark operation e (length l)

  pub desk_unknown : is_operation operation ≡ false → {image : List ℕ} {n : ℕ} → image ≡ take len b → n ≡ first_fault image 6 → DeskCallWritten len count mark operation e b b l l kept kept a a n
  desk_unknown k {image} {n} is f =
      let own : n ≡ first_fault (take len b) 6 = first_of (take len b) 6 is f in
      let g : outcome ≡ refused n 0 = on_first (take len b) count (desk_by_number mark (length b) operation call) 6 n own (rw k) in
      let small = first_low (take len b) own in
      record {
        served = refused_written outcome n 0 n g (first_some (take len b) 6 n (λ z. omega arith) own) (omega arith) (omega arith) b a;
        written = sym (ap (λ (v : CallOutcome). message_after mark v e l) g);
        kept = sym (ap (λ (v : CallOutcome). window_after v kept l) g);
      }

  module _ (known : is_operation operation ≡ true) (left : Memory) (reply : DeskReply) (l' kept' : List ℕ)
      (w : DeskEdits m kept (record { edit = e; before = l; after = l'; left = left; window = kept'; reply = reply }))
    where
      abbrev desks : CallOutcome
      desks = R.desk_call_outcome m e (length l)

      same : outcome ≡ desks
      same = known_outcome b len count mark operation e (length l) known

      message_is : l' ≡ message_after mark outcome e l
      message_is = w.message_is ∙ sym (ap (λ (v : CallOutcome). message_after mark v e l) same)

      window_is : kept' ≡ window_after outcome kept l'
      window_is = w.window_is ∙ sym (ap (λ (v : CallOutcome). window_after v kept l') same)

      pub desk_refused_lem : (n place : ℕ) → reply ≡ Desk.Refused n place → Bytes left.buffer → (r : ℕ) → r % 65536 ≡ n → r / 65536 ≡ place % 65536 → DeskCallWritten len count mark operation e b left.buffer l l' kept kept a a r
      desk_refused_lem n place q are r low high =
          let g = desk_reply_refused desks n place (desk_not_old m e (length l)) (sym q ∙ w.reply_is) in
          let were = subst (λ (t : Memory). Bytes t.buffer) (refused_buffer m desks w.sound left w.left_is n place g) are in
          let c = refused_written outcome n place r (same ∙ g) (subst OutcomeSound g w.sound) low (whole_place desks n place r g (desk_place_within m were e (length l)) high) b a in
          record {
            served = subst (λ (t : List ℕ). CallWritten outcome b t a a r) (sym (ap (λ (t : Memory). t.buffer) (refused_buffer m desks w.sound left w.left_is n place g))) c;
            written = message_is;
            kept = sym (ap (λ (v : CallOutcome). window_after v kept l') (same ∙ g));
          }

      module _ (q : Removed) (is : reply ≡ Desk.Accepted q) where
        done : (s : State Drawing) × (desks ≡ updated s q)
        done = desk_reply_accepted desks q (desk_not_old m e (length l)) (sym is ∙ w.reply_is)

        pub desk_size : left.size ≤ I.max_image_size
        desk_size = updated_size m desks w.sound left w.left_is done.0 q done.1

        pub desk_accepted_lem : (a' : List ℕ) (r : ℕ) → (r ≡ 0) × (a' ≡ answer_with a left.count left.size q) → DeskCallWritten len count mark operation e b left.buffer l l' kept kept' a a' r
        desk_accepted_lem a' r (z, n) =
            record {
              served = subst (λ (v : CallOutcome). CallWritten v b left.buffer a a' r) (sym same) (updated_written m desks w.sound left w.left_is done.0 q done.1 a a' r z n);
              written = message_is;
              kept = window_is;
            }

-- ---- the wall

wall_reply_refused : (v : CallOutcome) (n q : ℕ) → Wall.Refused n q ≡ wall_reply_to v → v ≡ refused n q
wall_reply_refused (refused k p) n q e = let i : n ≡ k = cc in let j : q ≡ p = cc in sym (ap₂ refused i j)
wall_reply_refused (old s) n q e = let z : ◌≡◌ {A = ℕ} 0 1 = cc in absurd (omega arith)
wall_reply_refused (updated s r) n q e = let z : ◌≡◌ {A = ℕ} 0 1 = cc in absurd (omega arith)

wall_reply_old : (v : CallOutcome) → Wall.Old ≡ wall_reply_to v → (s : State Drawing) × (v ≡ old s)
wall_reply_old (refused k p) e = let z : ◌≡◌ {A = ℕ} 0 1 = cc in absurd (omega arith)
wall_reply_old (old s) e = (s, refl)
wall_reply_old (updated s r) e = let z : ◌≡◌ {A = ℕ} 0 1 = cc in absurd (omega arith)

wall_reply_applied : (v : CallOutcome) (q : Removed) → Wall.Applied q ≡ wall_reply_to v → (s : State Drawing) × (v ≡ updated s q)
wall_reply_applied (refused k p) q e = let z : ◌≡◌ {A = ℕ} 0 1 = cc in absurd (omega arith)
wall_reply_applied (old s) q e = let z : ◌≡◌ {A = ℕ} 0 1 = cc in absurd (omega arith)
wall_reply_applied (updated s r) q e = let i : q ≡ r = cc in (s, ap (updated s) (sym i))

-- an old message leaves the image that was found
abbrev OldAt : Drawing → CallOutcome → Type 0
OldAt d (refused k place) = Unit {0}
OldAt d (old s) = s.drawing ≡ d
OldAt d (updated s r) = Unit {0}

old_at : (room : ℕ) (s : State Drawing) (x : State Drawing × M.WallReply Removed) → WallCase s x → OldAt s.drawing (wall_outcome room x.0 x.1)
old_at room s x c = by c
  where
    from : (y : State Drawing × M.WallReply Removed) → x ≡ y → OldAt s.drawing (wall_outcome room y.0 y.1) → OldAt s.drawing (wall_outcome room x.0 x.1)
    from y e h = subst (λ (y : State Drawing × M.WallReply Removed). OldAt s.drawing (wall_outcome room y.0 y.1)) (sym e) h

    fits : (t : State Drawing) (q : Removed) (b : Bool) → OldAt s.drawing (ite b (updated t q) (refused 25 0))
    fits t q true = tt
    fits t q false = tt

    by : WallCase s x → OldAt s.drawing (wall_outcome room x.0 x.1)
    by (is_refused k place e) = from (s, M.wall_refused k place) e tt
    by (is_old e) = from (s, M.wall_old) e refl
    by (is_applied e d q g f) = from (record { drawing = d; count = s.count + 1 }, M.wall_applied q) f (fits (record { drawing = d; count = s.count + 1 }) q (leb (E.drawing_size d) room))

old_size : (m : Memory) (bytes : List ℕ) (s : State Drawing) → R.wall_call_outcome m bytes ≡ old s → E.drawing_size s.drawing ≤ I.max_image_size
old_size m bytes s g = on (I.parse (image_in m)) refl g
  where
    on : (p : I.ParseResult) → I.parse (image_in m) ≡ p → on_image p m.count (wall_on m.mark (length m.buffer) bytes) ≡ old s → E.drawing_size s.drawing ≤ I.max_image_size
    on (I.refused k) e g = absurd (subst NotOld g tt)
    on (I.accepted d) e g =
        let found : State Drawing = record { drawing = d; count = m.count } in
        let same : s.drawing ≡ d = subst (OldAt d) g (old_at (length m.buffer) found (wall_transition (protocol m.mark) found ((protocol m.mark).decode bytes)) (wall_case m.mark found ((protocol m.mark).decode bytes))) in
        let size : length (image_in m) ≡ E.drawing_size s.drawing = length_parsed (image_in m) d e ∙ ap E.drawing_size (sym same) in
        omega (arith, size, good_size (image_in m) (result_accepted (I.image_fault (image_in m)) (I.drawing_of (image_in m)) d e).0)

module _ (b : List ℕ) (len count mark : ℕ) (bytes a : List ℕ) (left : Memory) (reply : WallReply) (w : WallDelivers (record { buffer = b; size = len; mark = mark; count = count }) (record { bytes = bytes; left = left; reply = reply })) where
  abbrev found : Memory
  found = record { buffer = b; size = len; mark = mark; count = count }

  abbrev walls : CallOutcome
  walls = R.wall_call_outcome found bytes

  pub wall_refused_lem : (n place : ℕ) → reply ≡ Wall.Refused n place → Bytes left.buffer → (r : ℕ) → r % 65536 ≡ n → r / 65536 ≡ place % 65536 → WallCallWritten len count mark bytes b left.buffer a a r
  wall_refused_lem n place q are r low high =
      let g = wall_reply_refused walls n place (sym q ∙ w.reply_is) in
      let were = subst (λ (t : Memory). Bytes t.buffer) (refused_buffer found walls w.sound left w.left_is n place g) are in
      let c = refused_written walls n place r g (subst OutcomeSound g w.sound) low (whole_place walls n place r g (wall_place_within found were bytes) high) b a in
      subst (λ (t : List ℕ). CallWritten walls b t a a r) (sym (ap (λ (t : Memory). t.buffer) (refused_buffer found walls w.sound left w.left_is n place g))) c

  module _ (is : reply ≡ Wall.Old) where
    was_old : (s : State Drawing) × (walls ≡ old s)
    was_old = wall_reply_old walls (sym is ∙ w.reply_is)

    pub wall_old_size : left.size ≤ I.max_image_size
    wall_old_size =
        let l : left.size ≡ E.drawing_size was_old.0.drawing = ap (λ (m : Memory). m.size) (w.left_is ∙ ap (λ (v : CallOutcome). memory_after v found) was_old.1) in
        omega (arith, l, old_size found bytes was_old.0 was_old.1)

    pub wall_old_lem : (a' : List ℕ) (r : ℕ) → (r ≡ 0) × (a' ≡ answer_with a left.count left.size nothing) → WallCallWritten len count mark bytes b left.buffer a a' r
    wall_old_lem a' r (z, n) = old_written found walls w.sound left w.left_is was_old.0 was_old.1 a a' r z n

  module _ (q : Removed) (is : reply ≡ Wall.Applied q) where
    was_applied : (s : State Drawing) × (walls ≡ updated s q)
    was_applied = wall_reply_applied walls q (sym is ∙ w.reply_is)

    pub wall_size : left.size ≤ I.max_image_size
    wall_size = updated_size found walls w.sound left w.left_is was_applied.0 q was_applied.1

    pub wall_applied_lem : (a' : List ℕ) (r : ℕ) → (r ≡ 0) × (a' ≡ answer_with a left.count left.size q) → WallCallWritten len count mark bytes b left.buffer a a' r
    wall_applied_lem a' r (z, n) = updated_written found walls w.sound left w.left_is was_applied.0 q was_applied.1 a a' r z n
