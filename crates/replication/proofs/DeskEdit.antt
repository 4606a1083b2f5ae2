-- The ways out of the desk's call.
use mathlib.Core.Path.{◌≡◌, refl, sym, ap, ◌∙◌, subst}
use mathlib.Core.Bool.{true, not}
use mathlib.Core.List.{List}
use Prim.Native.Nat.{ℕ, ◌+◌, ◌≤◌, ◌<◌}
use native.Mathlib.Omega.{arith}
use lib.ListN.{length}
use lib.Dec.{T, eqb}
use lib.Ieee.{is_nan}
use borrow.Author.Tests.{le-leb, lt-leb, lt-ltb, le-ltb}
use Rattle.std.specs.Prelude.{Result, Ok, Err, IsOk, is_ok, ⊤}
use Rattle.refusal.specs.declared.Refusal.{Refusal}
use Rattle.refusal.specs.Refusals as R
use Rattle.refusal.proofs.Numbers.{accepted_of_0}
use Rattle.big_endian.specs.Fields.{over}
use Rattle.sketch.specs.Lists.{guard_number}
use Rattle.sketch.specs.Drawing.{Drawing, limits, curve_in}
use Rattle.sketch.specs.Valid.{ok_coordinate}
use Rattle.sketch.proofs.Bools.{and_both}
use Rattle.image.specs.Image as I
use Rattle.message.specs.declared.Message.{Message}
use Rattle.message.specs.Message.{encode, MessageWritten, message_size}
use Rattle.window.specs.declared.Window.{Window}
use Rattle.window.specs.Window.{slid}
use Rattle.edit_plan.specs.declared.Removed.{Removed}
use Rattle.edit_plan.specs.Outcome as O
use Rattle.edit_plan.specs.Outcome.{guard}
use Rattle.edit_plan.specs.Tables.{ok_position}
use Rattle.apply.specs.declared.Applied.{Applied}
use Rattle.extend.specs.Answers.{answer_of}
use Rattle.extend.proofs.Places.{placeless_above, place_none}
use Rattle.modify.specs.Edits.{plan_on_found, edit_of}
use Rattle.modify.specs.ImageEdits.{EditWritten}
use Rattle.modify.proofs.Planned.{guard_accepted}
use Rattle.agreement.specs.Machines.{max_edit_number, Call, with_count}
use Rattle.replication.specs.declared.Replica.{Replica}
use Rattle.replication.specs.declared.DeskTransition.{DeskTransition}
use Rattle.replication.specs.Protocol.{Edit, is_pick, place, message_for}
use Rattle.replication.specs.DeskReply.{desk_reply_of}
use Rattle.replication.specs.Outcomes.{CallOutcome, refused, desk_outcome, desk_on, OutcomeSound, message_after, window_after}
use Rattle.replication.specs.Transitions.{Memory, memory, image_in, first_fault, memory_after, desk_reply_to, desk_call_outcome, DeskEdits}
use Rattle.replication.specs.Clauses.{desk_refusing}
use Rattle.replication.proofs.Picks.{is_number, decided_place}
use Rattle.replication.proofs.CallOutcomes.{nonzero, placeless_first, on_first, applied, on_image_lem, EditOutcome, edit_outcome}

-- a message with a number from 1 is written where it has room
pub message_has_room : {mark : ℕ} {x : Message} (l l' : List ℕ) → message_size ≤ length l → 1 ≤ x.number → (r : Result ⊤ Refusal) → MessageWritten mark x l l' (R.refusal_number r) → IsOk r
unfolding guard_number
message_has_room {mark} {x} l l' room numbered r w =
    let e : R.refusal_number r ≡ 0 = w.number ∙ rw (le-leb 1 x.number numbered, le-leb message_size (length l) room) in
    ap is_ok (accepted_of_0 r e).1

module _ (s : Replica) (kept : Window) (b : List ℕ) (e : Edit) (l : List ℕ) where
  abbrev m : Memory
  m = memory s b

  abbrev call : Call Edit
  call = record { edit = e; room = length l }

  abbrev outcome : CallOutcome
  outcome = desk_call_outcome m e (length l)

  -- an answer, with what is left of buffer and message
  abbrev Answers : List ℕ → List ℕ → DeskTransition → Type 0
  Answers b' l' r = DeskEdits m kept.bytes (record { edit = e; before = l; after = l'; left = memory r.replica b'; window = r.window.bytes; reply = desk_reply_of r.reply })

  -- a refusal leaves all
  refusing : (x : Refusal) → outcome ≡ refused (R.number x) (R.place x) → Answers b l (desk_refusing s kept x)
  refusing x g =
      record {
        reply_is = sym (ap desk_reply_to g);
        left_is = sym (ap (λ (v : CallOutcome). memory_after v m) g);
        message_is = sym (ap (λ (v : CallOutcome). message_after s.mark v e l) g);
        window_is = sym (ap (λ (v : CallOutcome). window_after v kept.bytes l) g);
        sound = subst OutcomeSound (sym g) (nonzero x);
      }

  -- refused before the edit is looked at
  first : (k : ℕ) → 20 ≤ k → desk_on s.mark (length b) call (record { drawing = I.drawing_of (image_in m); count = s.count }) ≡ refused k 0 → {x : Refusal} → R.number x ≡ first_fault (image_in m) k → {r : DeskTransition} → r ≡ desk_refusing s kept x → Answers b l r
  first k h g {x} f q =
      subst (Answers b l) (sym q)
      (refusing x (on_first (image_in m) s.count (desk_on s.mark (length b) call) k (R.number x) f g ∙ ap (refused (R.number x)) (sym (placeless_first (image_in m) k (placeless_above h) x f))))

  -- 23 and 25 come with no place
  placed_none : (k : ℕ) → 20 ≤ k → refused k (place (I.drawing_of (image_in m)) e k) ≡ refused k 0
  placed_none k h = ap (refused k) (sym (place_none (I.drawing_of (image_in m)) _ (placeless_above h)))

  pub desk_short : length l < message_size → {x : Refusal} → R.number x ≡ first_fault (image_in m) 25 → {r : DeskTransition} → r ≡ desk_refusing s kept x → Answers b l r
  unfolding guard
  desk_short h = first 25 (omega arith) (rw (lt-leb message_size (length l) h) (placed_none 25 (omega arith)))

  module _ (room : message_size ≤ length l) where
    pub desk_full : max_edit_number ≤ s.count → {x : Refusal} → R.number x ≡ first_fault (image_in m) 23 → {r : DeskTransition} → r ≡ desk_refusing s kept x → Answers b l r
    unfolding guard
    desk_full h = first 23 (omega arith) (rw (le-leb message_size (length l) room, le-ltb s.count max_edit_number h) (placed_none 23 (omega arith)))

    module _ (low : s.count < max_edit_number) (pick : is_pick e.at ≡ true) (b' : List ℕ) where
      counted : (n : ℕ) (f : ℕ → ℕ) (o : O.Outcome Drawing Removed) → desk_outcome (length b) f (with_count n o) ≡ applied (length b) n f o
      counted n f (O.refused k) = refl
      counted n f (O.accepted d q) = refl

      came : (o : Result Applied Refusal) (w : EditWritten e.operation (image_in m) e.curve e.at b b' (answer_of o)) → EditOutcome (image_in m) e b b' (answer_of o) w (s.count + 1) outcome
      unfolding guard
      came o w =
          edit_outcome (image_in m) e b b' (answer_of o) w (s.count + 1) outcome
          (on_image_lem (image_in m) s.count (desk_on s.mark (length b) call) (length b) (s.count + 1) e
          (rw (le-leb message_size (length l) room, lt-ltb s.count max_edit_number low, pick) (counted (s.count + 1) (place (I.drawing_of (image_in m)) e) (edit_of e.operation limits (I.drawing_of (image_in m)) e.curve e.at))))

      pub desk_declined : (x : Refusal) → EditWritten e.operation (image_in m) e.curve e.at b b' (answer_of (Err x)) → {r : DeskTransition} → r ≡ desk_refusing s kept x → Answers b' l r
      desk_declined x w q =
          let (g, same) = (came (Err x) w).when_refused (nonzero x) in
          subst (Answers b' l) (sym q) (subst (λ (t : List ℕ). Answers t l (desk_refusing s kept x)) (sym same) (refusing x g))

      module _ (x : Applied) (w : EditWritten e.operation (image_in m) e.curve e.at b b' (answer_of (Ok x))) where
        -- a pick that was accepted is one of numbers
        pub pick_numbers : T (not (is_nan e.at.x)) × T (not (is_nan e.at.y))
        pick_numbers =
            let u = (came (Ok x) w).when_done refl in
            let d₀ = I.drawing_of (image_in m) in
            let (i, g) = guard_accepted (eqb (I.image_fault (image_in m)) 0) (I.image_fault (image_in m)) (edit_of e.operation limits d₀ e.curve e.at) u.drawing x.removed u.made_is in
            let p = decided_place (ok_position e.at) (plan_on_found e.operation d₀ e.at (curve_in d₀.curves e.curve)) d₀ e.curve u.drawing x.removed g in
            let (p, q) = and_both (ok_coordinate e.at.x) (ok_coordinate e.at.y) p in
            (is_number e.at.x p, is_number e.at.y q)

        pub desk_done :
            (l' : List ℕ) (k : ℕ) → MessageWritten s.mark (message_for (s.count + 1) e) l l' k → (next : Window) → next.bytes ≡ slid kept.bytes (s.count + 1) l'
            → Answers b' l' (record { replica = record { size = x.size; mark = s.mark; count = s.count + 1 }; window = next; reply = Ok x.removed })
        unfolding guard_number
        desk_done l' k u next slides =
            let t = (came (Ok x) w).when_done refl in
            let g = t.outcome in
            let sent : l' ≡ over l 0 (encode s.mark (message_for (s.count + 1) e)) = u.buffer ∙ rw (le-leb 1 (s.count + 1) (omega arith), le-leb message_size (length l) room) in
            record {
              reply_is = sym (ap desk_reply_to g);
              left_is = (λ i. record { buffer = t.buffer_is i; size = t.size_is i; mark = s.mark; count = s.count + 1 }) ∙ sym (ap (λ (v : CallOutcome). memory_after v m) g);
              message_is = sent ∙ sym (ap (λ (v : CallOutcome). message_after s.mark v e l) g);
              window_is = slides ∙ sym (ap (λ (v : CallOutcome). window_after v kept.bytes l') g);
              sound = subst OutcomeSound (sym g) t.sound;
            }
