-- A call on a memory that is ready is a step of the machines at its mark, and leaves one that is ready and has that mark. Assumes nothing.
use mathlib.Core.Path.{◌≡◌, refl, sym, ap, ◌∙◌, subst}
use mathlib.Core.Bool.{Bool, true, false}
use mathlib.Core.List.{List}
use Prim.Native.Nat.{ℕ, ◌+◌, ◌≤◌}
use native.Mathlib.Omega.{arith}
use lib.ListN.{length, take, length-take}
use lib.Dec.{leb}
use lib.Seq.{take_all, take_at}
use borrow.Author.Tests.{le-leb, leb-true, leb-false}
use Rattle.big_endian.specs.Fields.{over}
use Rattle.big_endian.specs.Laws.{length_over}
use Rattle.sketch.specs.Drawing.{Drawing, limits}
use Rattle.sketch.specs.Facts.{Valid}
use Rattle.image.specs.Image as I
use Rattle.image.specs.Encode as E
use Rattle.image.proofs.RoundTrips.{image_kept, size_back, result_accepted}
use Rattle.image.proofs.Sizes.{image_size}
use Rattle.sketch_image.specs.SketchImage.{drawing_in}
use Rattle.message.specs.declared.Message.{Message}
use Rattle.message.specs.Message as G
use Rattle.message.specs.Message.{message_size}
use Rattle.message.proofs.MessageRoundTrips.{length_message}
use Rattle.edit_plan.specs.declared.Removed.{Removed}
use Rattle.edit_plan.specs.Outcome as O
use Rattle.edit_plan.proofs.Tables.{Holds}
use Rattle.agreement.specs.Machines as M
use Rattle.agreement.specs.Machines.{State, Call, call_outcome, state_after, DeskStepValid, WallStepValid, wall_transition}
use Rattle.agreement.proofs.Reference.{Step, called}
use Rattle.replication.specs.DeskReply.{DeskReply}
use Rattle.replication.specs.Protocol.{Edit, place, message_for, protocol}
use Rattle.replication.specs.Outcomes.{CallOutcome, refused, old, updated, if_image_fits, on_image, desk_outcome, desk_on, wall_outcome, wall_on, OutcomeSound, message_after}
use Rattle.replication.specs.Transitions.{Memory, image_in, state_in, Ready, memory_after, DeskCall, desk_reply, desk_step, desk_reply_to, desk_call_outcome, DeskEdits, WallCall, wall_reply, wall_step, wall_reply_to, wall_call_outcome, WallDelivers}
use Rattle.replication.proofs.WallCases.{WallCase, is_refused, is_old, is_applied, wall_case, edit_keeps_valid}

-- ---- an image's size, by its drawing

pub length_parsed : (s : List ℕ) (d : Drawing) → I.parse s ≡ I.accepted d → length s ≡ E.drawing_size d
length_parsed s d e = let (z, same) = result_accepted (I.image_fault s) (I.drawing_of s) d e in sym (size_back s (image_kept s z)) ∙ ap E.drawing_size same

-- so a front of that size is the whole image
front_again : (n : ℕ) (b : List ℕ) (k : ℕ) → length (take n b) ≡ k → take k b ≡ take n b
front_again n b k e = go (leb n (length b)) refl
  where
    go : (t : Bool) → leb n (length b) ≡ t → take k b ≡ take n b
    go true h = let q : k ≡ n = sym e ∙ length-take n b ∙ omega (arith, leb-true n (length b) h) in ap (λ (m : ℕ). take m b) q
    go false h =
        let l : length b ≤ n = omega (arith, leb-false n (length b) h) in
        let q : k ≡ length b = sym e ∙ ap length (take_all n b l) in
        take_all k b (omega arith) ∙ sym (take_all n b l)

-- ---- what outcomes leave

-- by an image in a memory
pub ready_by : (m : Memory) (d : Drawing) → I.parse (image_in m) ≡ I.accepted d → Valid limits d → I.max_image_size ≤ length m.buffer → Ready m
ready_by m d e v l =
    let is : d ≡ (state_in m).drawing = sym (ap drawing_in e) in
    record { image_is = e ∙ ap I.accepted is; valid = subst (Valid limits) is v; room = l }

-- a memory with a mark, a drawing and a count
pub record Holding (mark : ℕ) (m : Memory) (s : State Drawing) : Type 0 where
  pub ready : Ready m
  pub mark_is : m.mark ≡ mark
  pub state : state_in m ≡ s

module _ (m : Memory) (h : Ready m) where
  pub after_old : Holding m.mark (memory_after (old (state_in m)) m) (state_in m)
  after_old =
      let d = (state_in m).drawing in
      let whole : take (E.drawing_size d) m.buffer ≡ image_in m = front_again m.size m.buffer (E.drawing_size d) (length_parsed (image_in m) d h.image_is) in
      let e : I.parse (take (E.drawing_size d) m.buffer) ≡ I.accepted d = ap I.parse whole ∙ h.image_is in
      record { ready = ready_by _ d e h.valid h.room; mark_is = refl; state = λ i. record { drawing = ap drawing_in e i; count = m.count } }

  pub after_updated : (t : State Drawing) (q : Removed) → OutcomeSound (updated t q) → Valid limits t.drawing → Holding m.mark (memory_after (updated t q) m) t
  unfolding over
  after_updated t q o v =
      let d = t.drawing in
      let b = over m.buffer 0 (E.encode d) in
      let front : take (E.drawing_size d) b ≡ E.encode d = take_at (E.encode d) _ (E.drawing_size d) o.0 in
      let e : I.parse (take (E.drawing_size d) b) ≡ I.accepted d = ap I.parse front ∙ o.1 in
      let fits : 0 + length (E.encode d) ≤ length m.buffer = omega (arith, o.0, image_size d v, h.room) in
      let room : I.max_image_size ≤ length b = subst (λ (n : ℕ). I.max_image_size ≤ n) (sym (length_over m.buffer 0 (E.encode d) fits)) h.room in
      record { ready = ready_by _ d e v room; mark_is = refl; state = λ i. record { drawing = ap drawing_in e i; count = t.count } }

  -- a valid drawing's image fits into a buffer that has room for any
  fits_always : (t : State Drawing) (q : Removed) → Valid limits t.drawing → if_image_fits (length m.buffer) t q ≡ updated t q
  fits_always t q v = rw (le-leb (E.drawing_size t.drawing) (length m.buffer) (omega (arith, h.room, image_size t.drawing v)))

  -- ---- the desk

  module _ (e : Edit) (room : ℕ) where
    abbrev call : Call Edit
    call = record { edit = e; room = room }

    -- the outcome on the memory, by the machine's
    pub data DeskCase : Type 0 where
      desk_refused_lem : (k : ℕ) → desk_call_outcome m e room ≡ refused k (place (state_in m).drawing e k) → call_outcome (protocol m.mark) (state_in m) call ≡ O.refused k → DeskCase
      desk_updated : (t : State Drawing) (q : Removed) → desk_call_outcome m e room ≡ updated t q → call_outcome (protocol m.mark) (state_in m) call ≡ O.accepted t q → Valid limits t.drawing → DeskCase

    pub desk_case : DeskCase
    desk_case = go (call_outcome (protocol m.mark) (state_in m) call) refl (ap (λ (o : I.ParseResult). on_image o m.count (desk_on m.mark (length m.buffer) call)) h.image_is)
      where
        go : (o : O.Outcome (State Drawing) Removed) → call_outcome (protocol m.mark) (state_in m) call ≡ o → desk_call_outcome m e room ≡ desk_outcome (length m.buffer) (place (state_in m).drawing e) (call_outcome (protocol m.mark) (state_in m) call) → DeskCase
        go (O.refused k) c g = desk_refused_lem k (g ∙ ap (desk_outcome (length m.buffer) (place (state_in m).drawing e)) c) c
        go (O.accepted t q) c g =
            let step : Step (protocol m.mark) (state_in m) e t q = subst (Holds (Step (protocol m.mark) (state_in m) e)) c (called (protocol m.mark) (state_in m) call) in
            let v : Valid limits t.drawing = edit_keeps_valid (state_in m).drawing e t.drawing q h.valid step.gives in
            desk_updated t q (g ∙ ap (desk_outcome (length m.buffer) (place (state_in m).drawing e)) c ∙ fits_always t q v) c v

  -- ---- the wall

  module _ (bytes : List ℕ) where
    abbrev moved : State Drawing × M.WallReply Removed
    moved = wall_transition (protocol m.mark) (state_in m) ((protocol m.mark).decode bytes)

    pub data DeliveryCase : Type 0 where
      delivery_refused : (k place : ℕ) → wall_call_outcome m bytes ≡ refused k place → moved ≡ (state_in m, M.wall_refused k place) → DeliveryCase
      delivery_old : wall_call_outcome m bytes ≡ old (state_in m) → moved ≡ (state_in m, M.wall_old) → DeliveryCase
      delivery_updated : (t : State Drawing) (q : Removed) → wall_call_outcome m bytes ≡ updated t q → moved ≡ (t, M.wall_applied q) → t.count ≡ m.count + 1 → Valid limits t.drawing → DeliveryCase

    pub delivery_case : DeliveryCase
    delivery_case = go (wall_case m.mark (state_in m) ((protocol m.mark).decode bytes))
      where
        came : (y : State Drawing × M.WallReply Removed) → moved ≡ y → wall_call_outcome m bytes ≡ wall_outcome (length m.buffer) y.0 y.1
        came y e =
            ap (λ (o : I.ParseResult). on_image o m.count (wall_on m.mark (length m.buffer) bytes)) h.image_is
            ∙ ap (λ (y : State Drawing × M.WallReply Removed). wall_outcome (length m.buffer) y.0 y.1) e

        go : WallCase (state_in m) moved → DeliveryCase
        go (is_refused k place e) = delivery_refused k place (came (state_in m, M.wall_refused k place) e) e
        go (is_old e) = delivery_old (came (state_in m, M.wall_old) e) e
        go (is_applied e d q g f) =
            let t : State Drawing = record { drawing = d; count = m.count + 1 } in
            let v : Valid limits d = edit_keeps_valid (state_in m).drawing e d q h.valid g in
            delivery_updated t q (came (t, M.wall_applied q) f ∙ fits_always t q v) f refl v

-- ---- the steps

pub message_front : (mark : ℕ) (b : List ℕ) (x : Message) → take message_size (over b 0 (G.encode mark x)) ≡ G.encode mark x
unfolding over
message_front mark b x = take_at (G.encode mark x) _ message_size (length_message mark x)

-- what a call leaves, beside the step that it is
abbrev pub Leaves : Memory → Memory → Type 0
Leaves m t = Ready t × (t.mark ≡ m.mark)

-- a call is by its parts
pub same_edit :
    (m : Memory) (w b a : List ℕ) (y : Memory) (w' : List ℕ) (t : DeskReply) (e e' : Edit) → e.operation ≡ e'.operation → e.curve ≡ e'.curve → e.at.x ≡ e'.at.x → e.at.y ≡ e'.at.y
    → DeskEdits m w (record { edit = e; before = b; after = a; left = y; window = w'; reply = t }) → DeskEdits m w (record { edit = e'; before = b; after = a; left = y; window = w'; reply = t })
same_edit m w b a y w' t e e' o c x z =
    subst (λ (e : Edit). DeskEdits m w (record { edit = e; before = b; after = a; left = y; window = w'; reply = t })) (λ i. record { operation = o i; curve = c i; at = record { x = x i; y = z i } })

pub desk_step_lem : (m : Memory) → Ready m → (kept : List ℕ) (c : DeskCall) → DeskEdits m kept c → DeskStepValid (protocol m.mark) (state_in m) (desk_step c) × Leaves m c.left
desk_step_lem m h kept c w = go (desk_case m h c.edit (length c.before))
  where
    go : DeskCase m h c.edit (length c.before) → DeskStepValid (protocol m.mark) (state_in m) (desk_step c) × Leaves m c.left
    go (desk_refused_lem k g o) =
        let left : c.left ≡ m = w.left_is ∙ ap (λ (v : CallOutcome). memory_after v m) g in
        let reply = w.reply_is ∙ ap desk_reply_to g in (
          record {
            state = ap state_in left ∙ sym (ap (state_after (state_in m)) o);
            reply = ap (λ r. desk_reply r (take message_size c.after)) reply ∙ sym (ap (M.reply_to (protocol m.mark) (state_in m).drawing c.edit) o);
          },
          subst (Leaves m) (sym left) (h, refl),
        )
    go (desk_updated t q g o v) =
        let a = after_updated m h t q (subst OutcomeSound g w.sound) v in
        let left : c.left ≡ memory_after (updated t q) m = w.left_is ∙ ap (λ (v : CallOutcome). memory_after v m) g in
        let reply = w.reply_is ∙ ap desk_reply_to g in
        let sent : take message_size c.after ≡ G.encode m.mark (message_for t.count c.edit) =
        ap (take message_size) (w.message_is ∙ ap (λ (v : CallOutcome). message_after m.mark v c.edit c.before) g) ∙ message_front m.mark c.before (message_for t.count c.edit) in (
          record {
            state = ap state_in left ∙ a.state ∙ sym (ap (state_after (state_in m)) o);
            reply = ap (λ r. desk_reply r (take message_size c.after)) reply ∙ ap (M.desk_accepted q) sent ∙ sym (ap (M.reply_to (protocol m.mark) (state_in m).drawing c.edit) o);
          },
          subst (Leaves m) (sym left) (a.ready, a.mark_is),
        )

pub wall_step_lem : (m : Memory) → Ready m → (c : WallCall) → WallDelivers m c → WallStepValid (protocol m.mark) (state_in m) (wall_step c) × Leaves m c.left
wall_step_lem m h c w = go (delivery_case m h c.bytes)
  where
    -- what is left of an outcome, and the reply to it
    by :
        (v : CallOutcome) (s : State Drawing) (r : M.WallReply Removed) → wall_call_outcome m c.bytes ≡ v → wall_transition (protocol m.mark) (state_in m) ((protocol m.mark).decode c.bytes) ≡ (s, r)
        → Holding m.mark (memory_after v m) s → wall_reply (wall_reply_to v) ≡ r → WallStepValid (protocol m.mark) (state_in m) (wall_step c) × Leaves m c.left
    by v s r g o a p =
        let left : c.left ≡ memory_after v m = w.left_is ∙ ap (λ (v : CallOutcome). memory_after v m) g in
        let reply = w.reply_is ∙ ap wall_reply_to g in (
          record {
            state = ap state_in left ∙ a.state ∙ sym (ap (λ (y : State Drawing × M.WallReply Removed). y.0) o);
            reply = ap wall_reply reply ∙ p ∙ sym (ap (λ (y : State Drawing × M.WallReply Removed). y.1) o);
          },
          subst (Leaves m) (sym left) (a.ready, a.mark_is),
        )

    go : DeliveryCase m h c.bytes → WallStepValid (protocol m.mark) (state_in m) (wall_step c) × Leaves m c.left
    go (delivery_refused k place g o) = by (refused k place) (state_in m) (M.wall_refused k place) g o (record { ready = h; mark_is = refl; state = refl }) refl
    go (delivery_old g o) = by (old (state_in m)) (state_in m) M.wall_old g o (after_old m h) refl
    go (delivery_updated t q g o n v) = by (updated t q) t (M.wall_applied q) g o (after_updated m h t q (subst OutcomeSound g w.sound) v) refl
