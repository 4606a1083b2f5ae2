-- The ways out of a delivery.
use mathlib.Core.Path.{◌≡◌, refl, sym, ap, ◌∙◌, subst}
use mathlib.Core.Bool.{Bool, true, false, not, ◌&&◌}
use mathlib.Core.List.{List}
use Prim.Native.Nat.{ℕ, zero, suc, ◌+◌, ◌≤◌, ◌<◌}
use native.Mathlib.Omega.{arith}
use lib.ListN.{length}
use lib.Ieee.{nan_bits, binary64}
use borrow.Author.Tests.{le-leb, lt-leb, eq-eqb, ne_eqb}
use Rattle.std.specs.Prelude.{Result, Ok, Err}
use Rattle.refusal.specs.declared.Refusal.{Refusal}
use Rattle.refusal.specs.Refusals as R
use Rattle.refusal.specs.Refusals.{Accepted, Refused}
use Rattle.sketch.specs.Lists.{guard_number}
use Rattle.sketch.specs.Drawing.{Drawing, limits}
use Rattle.image.specs.Image as I
use Rattle.image.proofs.RoundTrips.{image_kept, size_back, result_none}
use Rattle.message.specs.declared.Message.{Message}
use Rattle.message.specs.Message.{message_fault, message_of, parse}
use Rattle.message.proofs.MessageRoundTrips.{result_refused}
use Rattle.edit_plan.specs.declared.Removed.{Removed}
use Rattle.edit_plan.specs.Outcome as O
use Rattle.edit_plan.specs.Outcome.{guard}
use Rattle.apply.specs.declared.Applied.{Applied}
use Rattle.extend.specs.Answers.{answer_of}
use Rattle.extend.proofs.Places.{Placeless, placeless_below, placeless_above, place_none}
use Rattle.modify.specs.Edits.{edit_of}
use Rattle.modify.specs.ImageEdits.{edit_image, EditWritten}
use Rattle.agreement.specs.Machines as M
use Rattle.agreement.specs.Machines.{State, message, wall_transition, wall_apply}
use Rattle.replication.specs.declared.Replica.{Replica}
use Rattle.replication.specs.declared.Delivered.TheVariants as D
use Rattle.replication.specs.declared.WallTransition.{WallTransition}
use Rattle.replication.specs.Protocol.{edit, place, edit_in, decoded_of, protocol}
use Rattle.replication.specs.Outcomes.{CallOutcome, refused, old, on_image, wall_outcome, wall_on, OutcomeSound}
use Rattle.replication.specs.Transitions.{Memory, memory, image_in, first_fault, memory_after, wall_call, wall_call_outcome, wall_reply_to, WallDelivers}
use Rattle.replication.specs.Clauses.{wall_answer, wall_refusing, OldAnswered, MessageApplied, DeliversMessage}
use Rattle.replication.proofs.Picks.{is_pick_lem, nan_refused}
use Rattle.replication.proofs.CallOutcomes.{nonzero, placeless, placeless_own, placeless_first, on_fault, on_first, applied, on_image_lem, EditOutcome, edit_outcome}

-- ---- an old message, at an image

module _ (s : Replica) (image : List ℕ) where
  pub old_refused : (x : Refusal) → R.number x ≡ I.image_fault image → {r : WallTransition} → r ≡ wall_refusing s x → OldAnswered s image r
  old_refused x e q = record { when_refused = λ h. (x, e, q); when_good = λ h. absurd (nonzero x (e ∙ h)) }

  pub old_answered : 0 ≡ I.image_fault image → OldAnswered s image (record { replica = record { size = length image; mark = s.mark; count = s.count }; reply = Ok D.Old })
  old_answered z = record { when_refused = λ h. absurd (h (sym z)); when_good = λ h. refl }

-- ---- the edit of a message

module _ (s : Replica) (x : Message) (b b' : List ℕ) where
  pub message_declined : (k : Refusal) → EditWritten x.operation (image_in (memory s b)) x.curve (edit_in x).at b b' (answer_of (Err k)) → {r : WallTransition} → r ≡ wall_refusing s k → MessageApplied s x b b' r
  message_declined k w q = record { edited = Err k; written = w; answer = q }

  pub message_applied : (t : Applied) → EditWritten x.operation (image_in (memory s b)) x.curve (edit_in x).at b b' (answer_of (Ok t)) → MessageApplied s x b b' (record { replica = record { size = t.size; mark = s.mark; count = x.number }; reply = Ok (D.Applied t.removed) })
  message_applied t w = record { edited = Ok t; written = w; answer = refl }

-- ---- a message that is not read

-- what refuses it comes with no place
guard_placeless : (b : Bool) (n rest : ℕ) → Placeless n → Placeless rest → Placeless (guard_number b n rest)
unfolding guard_number
guard_placeless true n rest p q = q
guard_placeless false n rest p q = p

fault_placeless : (mark : ℕ) (s : List ℕ) → Placeless (message_fault mark s)
unfolding message_fault
fault_placeless mark s =
    guard_placeless _ 1 _ (placeless_below (omega arith))
    (guard_placeless _ 2 _ (placeless_below (omega arith))
    (guard_placeless _ 1 _ (placeless_below (omega arith))
    (guard_placeless _ 28 _ (placeless_above (omega arith))
    (guard_placeless _ 6 0 (placeless_below (omega arith)) (placeless_below (omega arith))))))

message_placeless : (mark : ℕ) (s : List ℕ) (k : ℕ) → parse mark s ≡ Refused k → Placeless k
message_placeless mark s k e = subst Placeless (sym (result_refused (message_fault mark s) (message_of s) k e).0) (fault_placeless mark s)

-- ---- a delivery

abbrev Moved : Type 0
Moved = State Drawing × M.WallReply Removed

module _ (s : Replica) (b : List ℕ) where
  abbrev m : Memory
  m = memory s b

  abbrev found : State Drawing
  found = record { drawing = I.drawing_of (image_in m); count = s.count }

  -- a refusal leaves all
  refusing : (bytes : List ℕ) (x : Refusal) → wall_call_outcome m bytes ≡ refused (R.number x) (R.place x) → WallDelivers m (wall_call bytes b (wall_refusing s x))
  refusing bytes x g =
      record {
        reply_is = sym (ap wall_reply_to g);
        left_is = sym (ap (λ (v : CallOutcome). memory_after v m) g);
        sound = subst OutcomeSound (sym g) (nonzero x);
      }

  first : (bytes : List ℕ) (k : ℕ) → Placeless k → wall_on s.mark (length b) bytes found ≡ refused k 0 → {x : Refusal} → R.number x ≡ first_fault (image_in m) k → {r : WallTransition} → r ≡ wall_refusing s x → WallDelivers m (wall_call bytes b r)
  first bytes k p g {x} f q =
      subst (λ (r : WallTransition). WallDelivers m (wall_call bytes b r)) (sym q)
      (refusing bytes x (on_first (image_in m) s.count (wall_on s.mark (length b) bytes) k (R.number x) f g ∙ ap (refused (R.number x)) (sym (placeless_first (image_in m) k p x f))))

  pub wall_unread : (bytes : List ℕ) (k : ℕ) → parse s.mark bytes ≡ Refused k → {x : Refusal} → R.number x ≡ first_fault (image_in m) k → {r : WallTransition} → r ≡ wall_refusing s x → WallDelivers m (wall_call bytes b r)
  unfolding decoded_of
  wall_unread bytes k e =
      first bytes k (message_placeless s.mark bytes k e)
      (ap (λ (x : Moved). wall_outcome (length b) x.0 x.1) (ap (λ x. wall_transition (protocol s.mark) found (decoded_of x)) e))

  module _ (x : Message) where
    -- what the machine does with a message that some bytes give
    heard : (bytes : List ℕ) → parse s.mark bytes ≡ Accepted x → (y : Moved) → wall_transition (protocol s.mark) found (message x.number (edit_in x)) ≡ y → wall_on s.mark (length b) bytes found ≡ wall_outcome (length b) y.0 y.1
    unfolding decoded_of
    heard bytes is y h = ap (λ (y : Moved). wall_outcome (length b) y.0 y.1) (ap (λ y. wall_transition (protocol s.mark) found (decoded_of y)) is ∙ h)

    pub wall_old_lem : x.number ≤ s.count → {image : List ℕ} → image ≡ image_in m → (r : WallTransition) → OldAnswered s image r → DeliversMessage m x b r
    wall_old_lem l {image} i r w₀ bytes is = go (I.image_fault (image_in m)) refl
      where
        w : OldAnswered s (image_in m) r
        w = subst (λ (image : List ℕ). OldAnswered s image r) i w₀

        go : (k : ℕ) → I.image_fault (image_in m) ≡ k → WallDelivers m (wall_call bytes b r)
        go zero z =
            let size_is = size_back (image_in m) (image_kept (image_in m) z) in
            let h : wall_call_outcome m bytes ≡ old found =
            ap (λ (x : I.ParseResult). on_image x s.count (wall_on s.mark (length b) bytes)) (result_none (I.image_fault (image_in m)) (I.drawing_of (image_in m)) z)
            ∙ heard bytes is (found, M.wall_old) (rw (le-leb x.number s.count l)) in
            subst (λ (r : WallTransition). WallDelivers m (wall_call bytes b r)) (sym (w.when_good z))
            (record {
              reply_is = sym (ap wall_reply_to h);
              left_is = ap (λ (n : ℕ). record { buffer = b; size = n; mark = s.mark; count = s.count }) (sym size_is) ∙ sym (ap (λ (v : CallOutcome). memory_after v m) h);
              sound = subst OutcomeSound (sym h) tt;
            })
        go (suc k) z =
            let (y, e, q) = w.when_refused (λ y. omega arith) in
            let place_is : R.place y ≡ 0 = placeless y (placeless_own (image_in m) e) in
            subst (λ (r : WallTransition). WallDelivers m (wall_call bytes b r)) (sym q)
            (refusing bytes y (on_fault (image_in m) s.count (wall_on s.mark (length b) bytes) (R.number y) e (nonzero y) ∙ ap (refused (R.number y)) (sym place_is)))

    module _ (new : s.count < x.number) where
      pub wall_ahead : (x.number ≡ s.count + 1 → ⊥) → {y : Refusal} → R.number y ≡ first_fault (image_in m) 7 → {r : WallTransition} → r ≡ wall_refusing s y → DeliversMessage m x b r
      wall_ahead h f q bytes is =
          first bytes 7 (placeless_below (omega arith))
          (heard bytes is (found, M.wall_refused 7 0) (rw (lt-leb x.number s.count new, ne_eqb x.number (s.count + 1) h))) f q

      module _ (next : x.number ≡ s.count + 1) where
        came : (bytes : List ℕ) → parse s.mark bytes ≡ Accepted x → (o : O.Outcome Drawing Removed) → edit (I.drawing_of (image_in m)) (edit_in x) ≡ o
            → wall_on s.mark (length b) bytes found ≡ wall_outcome (length b) (wall_apply (protocol s.mark) found x.number (edit_in x) o).0 (wall_apply (protocol s.mark) found x.number (edit_in x) o).1
        came bytes is o h =
            heard bytes is (wall_apply (protocol s.mark) found x.number (edit_in x) o)
            (rw (lt-leb x.number s.count new, eq-eqb x.number (s.count + 1) next) (ap (wall_apply (protocol s.mark) found x.number (edit_in x)) h))

        pub wall_nan : (not (nan_bits binary64 x.x) && not (nan_bits binary64 x.y)) ≡ false → {y : Refusal} → R.number y ≡ first_fault (image_in m) 9 → {r : WallTransition} → r ≡ wall_refusing s y → DeliversMessage m x b r
        wall_nan h f q bytes is =
            first bytes 9 (placeless_below (omega arith))
            (came bytes is (O.refused 9) (nan_refused (I.drawing_of (image_in m)) (edit_in x) x.x x.y refl h) ∙ ap (refused 9) (sym (place_none (I.drawing_of (image_in m)) _ (placeless_below (omega arith))))) f q

        applied_is : (o : O.Outcome Drawing Removed) → wall_outcome (length b) (wall_apply (protocol s.mark) found x.number (edit_in x) o).0 (wall_apply (protocol s.mark) found x.number (edit_in x) o).1 ≡ applied (length b) x.number (place (I.drawing_of (image_in m)) (edit_in x)) o
        applied_is (O.refused k) = refl
        applied_is (O.accepted d q) = refl

        abbrev asked : O.Outcome Drawing Removed
        asked = edit_of x.operation limits (I.drawing_of (image_in m)) x.curve (edit_in x).at

        outcome_is : (bytes : List ℕ) → parse s.mark bytes ≡ Accepted x → wall_call_outcome m bytes ≡ applied (length b) x.number (place (I.drawing_of (image_in m)) (edit_in x)) (edit_image x.operation (image_in m) x.curve (edit_in x).at)
        unfolding guard
        outcome_is bytes is =
            on_image_lem (image_in m) s.count (wall_on s.mark (length b) bytes) (length b) x.number (edit_in x)
            (came bytes is asked (rw (is_pick_lem x.x x.y)) ∙ applied_is asked)

        module _ (b' bytes : List ℕ) (is : parse s.mark bytes ≡ Accepted x) where
          ends : (t : Result Applied Refusal) (w : EditWritten x.operation (image_in m) x.curve (edit_in x).at b b' (answer_of t)) → EditOutcome (image_in m) (edit_in x) b b' (answer_of t) w x.number (wall_call_outcome m bytes)
          ends t w = edit_outcome (image_in m) (edit_in x) b b' (answer_of t) w x.number (wall_call_outcome m bytes) (outcome_is bytes is)

          answered : (t : Result Applied Refusal) → EditWritten x.operation (image_in m) x.curve (edit_in x).at b b' (answer_of t) → WallDelivers m (wall_call bytes b' (wall_answer s x t))
          answered (Err k) w =
              let (g, same) = (ends (Err k) w).when_refused (nonzero k) in
              subst (λ (l : List ℕ). WallDelivers m (wall_call bytes l (wall_refusing s k))) (sym same) (refusing bytes k g)
          answered (Ok t) w =
              let u = (ends (Ok t) w).when_done refl in
              let g = u.outcome in
              record {
                reply_is = sym (ap wall_reply_to g);
                left_is = (λ i. record { buffer = u.buffer_is i; size = u.size_is i; mark = s.mark; count = x.number }) ∙ sym (ap (λ (v : CallOutcome). memory_after v m) g);
                sound = subst OutcomeSound (sym g) u.sound;
              }

        pub wall_edited : (b' : List ℕ) (r : WallTransition) → MessageApplied s x b b' r → DeliversMessage m x b' r
        wall_edited b' r a bytes is = subst (λ (r : WallTransition). WallDelivers m (wall_call bytes b' r)) (sym a.answer) (answered b' bytes is a.edited a.written)
