-- Demand 3 over the calls that a host links: any list of the desk's, and any life of the wall, each call on the memory that the device's last one
-- left (`host_demand_3`); what a catch-up by the desk's window answers and writes (`host_catch_up`), by which a wall becomes level with the desk
-- (`host_level_with_desk`). The calls are those of `replication`, as a host sees them. Assumes nothing.
use mathlib.Core.Path.{◌≡◌, refl, sym, ap, ap₂, ◌∙◌, subst, subst₂}
use mathlib.Core.Bool.{Bool, true, false}
use mathlib.Core.List.{List, [], ◌∷◌, ◌++◌, map, append_assoc, Memᴰ}
use mathlib.Core.Logic.{◌⊎◌}
use Prim.Native.Nat.{ℕ, zero, suc, ◌+◌, ◌-◌, ◌*◌, ◌/◌, ◌%◌}
use native.Mathlib.Omega.{arith}
use lib.ListN.{length, take, drop, get_or}
use lib.Dec.{leb, eqb}
use borrow.Author.Tests.{eq-eqb, ne_eqb, leb-true}
use Rattle.big_endian.specs.Fields.{over}
use Rattle.big_endian.specs.Laws.{Bytes}
use Rattle.sketch.specs.Lists.{ite, guard_number}
use Rattle.sketch.specs.Drawing.{Drawing}
use Rattle.image.specs.Image as I
use Rattle.image.specs.Encode as E
use Rattle.message.specs.Message.{message_size, is_operation}
use Rattle.message.specs.Stored.{Mark}
use Rattle.window.specs.Window.{window_messages, empty_window, due_bytes, CatchesUp}
use Rattle.window.specs.KeptMessages.{concat, CatchUpOf}
use Rattle.edit_plan.specs.declared.Removed.{Removed}
use Rattle.edit_plan.specs.Steps.{nothing}
use Rattle.agreement.specs.Machines as M
use Rattle.agreement.specs.Machines.{State, DeskStep, messages, Unread, WallEvent, started, delivered}
use Rattle.replication.specs.DeskReply.{DeskReply}
use Rattle.replication.specs.DeskReply as Desk
use Rattle.replication.specs.WallReply.{WallReply}
use Rattle.replication.specs.WallReply as Wall
use Rattle.replication.specs.Protocol.{Edit, protocol}
use Rattle.replication.specs.Outcomes.{CallOutcome, refused, old, updated, message_after, window_after}
use Rattle.replication.specs.Transitions.{Memory, image_in, state_in, Ready, StartsWith, memory_after, desk_reply, DeskCall, desk_step, desk_reply_to, desk_call_outcome, DeskEdits, DeskCalls, memory_left, window_left, WallCall, wall_reply, wall_step, wall_reply_to, wall_call_outcome, WallDelivers, WallCalls, WallUse, starts, delivers, WallUses, uses_left, UsesFromDesk, wall_event}
use Rattle.replication.specs.Replication.{ReplicationCorrect}
use Rattle.replication.specs.CatchUps.{messages_in, calls_left, DeliversDue, LevelWithDesk}
use Rattle.replication.proofs.Demand3.{started_had, calls_demand_3}
use Rattle.replication.proofs.StartCases.{held_at_start}
use Rattle.replication.proofs.Steps.{Leaves, DeliveryCase, delivery_refused, delivery_old, delivery_updated, delivery_case, wall_step_lem}
use Rattle.replication.proofs.CatchUps.{desk_count, desk_window_lem, level_with_desk}
use Rattle.mulkefi.specs.Calls.{answer_for, CallWritten, desk_outcome_by_number, DeskCallWritten, WallCallWritten}
use Rattle.mulkefi.specs.Hosts.{after_call, report_in, DeskUse, edit_of_use, after_desk, desk_step_in, desk_steps_in, DeskUses, desk_left, desk_window, WallDelivery, after_wall, wall_step_in, HostWallUse, host_starts, host_delivers, HostWallUses, wall_left, wall_events_in, HostUsesFromDesk, DueWritten, HostDeliversDue, HostLevelWithDesk}
use Rattle.mulkefi.proofs.Calls.{known_outcome, unknown_outcome}

-- ---- what a host takes over

-- the five fields of an answer
five : (a : List ℕ) (s : State Drawing) (r : Removed) → length a ≡ 5 → answer_for a s r ≡ s.count ∷ E.drawing_size s.drawing ∷ r.curve ∷ r.from ∷ r.to ∷ []
five (a ∷ b ∷ c ∷ d ∷ e ∷ []) s r h = refl
five [] s r h = absurd (omega arith)
five (a ∷ []) s r h = absurd (omega arith)
five (a ∷ b ∷ []) s r h = absurd (omega arith)
five (a ∷ b ∷ c ∷ []) s r h = absurd (omega arith)
five (a ∷ b ∷ c ∷ d ∷ []) s r h = absurd (omega arith)
five (a ∷ b ∷ c ∷ d ∷ e ∷ f ∷ l) s r h = absurd (omega arith)

-- an answer whose low 16 bits are not 0 leaves the memory, where the call left the buffer
memory_kept : (m : Memory) (b a : List ℕ) (r : ℕ) → (r % 65536 ≡ 0 → ⊥) → b ≡ m.buffer → after_call m b a r ≡ m
memory_kept m b a zero h e = absurd (h refl)
memory_kept m b a (suc r) h e = ap (λ (x : List ℕ). record { buffer = x; size = m.size; mark = m.mark; count = m.count }) e

-- by the count, which a wall's edit raises, a host tells an old message from it
abbrev Counted : Memory → CallOutcome → Type 0
Counted m (refused k place) = Unit {0}
Counted m (old s) = s.count ≡ m.count
Counted m (updated s q) = s.count ≡ m.count + 1

module _ (m : Memory) (b a a' : List ℕ) (r : ℕ) (l : length a ≡ 5) where
  -- an answer 0: the size and count in it
  taken_over :
      (t : State Drawing) (q : Removed) → r % 65536 ≡ 0 → r / 65536 ≡ 0 → a' ≡ answer_for a t q → (b' : List ℕ) → b ≡ b'
      → after_call m b a' r ≡ record { buffer = b'; size = E.drawing_size t.drawing; mark = m.mark; count = t.count }
  taken_over t q low high f b' e =
      let none : r ≡ 0 = omega arith in
      let g = f ∙ five a t q l in
      ap (after_call m b a') none ∙ (λ i. record { buffer = e i; size = ap (λ (x : List ℕ). get_or x 1 0) g i; mark = m.mark; count = ap (λ (x : List ℕ). get_or x 0 0) g i })

  count_told : (t : State Drawing) (q : Removed) → a' ≡ answer_for a t q → get_or a' 0 0 ≡ t.count
  count_told t q f = ap (λ (x : List ℕ). get_or x 0 0) (f ∙ five a t q l)

  report_told : (t : State Drawing) (q : Removed) → a' ≡ answer_for a t q → report_in a' ≡ q
  report_told t q f = ap report_in (f ∙ five a t q l)

  -- a refusal's number is not 0
  some : (k place : ℕ) → CallWritten (refused k place) m.buffer b a a' r → r % 65536 ≡ 0 → ⊥
  some k place w y = w.sound (sym w.number ∙ y)

  -- the memory is the outcome's
  memory_after_lem : (v : CallOutcome) → CallWritten v m.buffer b a a' r → after_call m b a' r ≡ memory_after v m
  memory_after_lem (refused k place) w = memory_kept m b a' r (some k place w) w.image
  memory_after_lem (old s) w = taken_over s nothing w.number w.place w.numbers m.buffer w.image
  memory_after_lem (updated s q) w = taken_over s q w.number w.place w.numbers (over m.buffer 0 (E.encode s.drawing)) w.image

  -- and so is the reply, at the desk
  desk_reply_lem : (v : CallOutcome) → CallWritten v m.buffer b a a' r → ite (eqb (r % 65536) 0) (Desk.Accepted (report_in a')) (Desk.Refused (r % 65536) (r / 65536)) ≡ desk_reply_to v
  desk_reply_lem (refused k place) w = rw (ne_eqb (r % 65536) 0 (some k place w)) (ap₂ Desk.Refused w.number w.place)
  desk_reply_lem (old s) w = rw (eq-eqb (r % 65536) 0 w.number) (ap Desk.Accepted (report_told s nothing w.numbers))
  desk_reply_lem (updated s q) w = rw (eq-eqb (r % 65536) 0 w.number) (ap Desk.Accepted (report_told s q w.numbers))

  -- and at the wall
  wall_reply_lem :
      (v : CallOutcome) → CallWritten v m.buffer b a a' r → Counted m v
      → ite (eqb (r % 65536) 0) (ite (eqb (get_or a' 0 0) m.count) Wall.Old (Wall.Applied (report_in a'))) (Wall.Refused (r % 65536) (r / 65536)) ≡ wall_reply_to v
  wall_reply_lem (refused k place) w n = rw (ne_eqb (r % 65536) 0 (some k place w)) (ap₂ Wall.Refused w.number w.place)
  wall_reply_lem (old s) w n = rw (eq-eqb (r % 65536) 0 w.number, eq-eqb (get_or a' 0 0) m.count (count_told s nothing w.numbers ∙ n))
  wall_reply_lem (updated s q) w n =
      let count = count_told s q w.numbers in
      rw (eq-eqb (r % 65536) 0 w.number, ne_eqb (get_or a' 0 0) m.count (λ y. omega (arith, n, count, y))) (ap Wall.Applied (report_told s q w.numbers))

-- ---- the desk

-- a call as a host sees it
abbrev call_in : Memory → DeskUse → DeskCall
call_in m u =
    record {
      edit = edit_of_use u;
      before = u.lent;
      after = u.message;
      left = after_desk m u;
      window = u.window;
      reply = ite (eqb (u.result % 65536) 0) (Desk.Accepted (report_in u.answer)) (Desk.Refused (u.result % 65536) (u.result / 65536));
    }

abbrev calls_in : Memory → List DeskUse → List DeskCall
calls_in m [] = []
calls_in m (u ∷ us) = ite (is_operation u.operation) (call_in m u ∷ []) [] ++ calls_in (after_desk m u) us

step_in : (m : Memory) (u : DeskUse) → desk_step (call_in m u) ≡ desk_step_in m u
step_in m u = ap (λ (r : M.DeskReply Removed). record { call = (desk_step_in m u).call; state = (desk_step_in m u).state; reply = r }) (go (eqb (u.result % 65536) 0))
  where
    go :
        (b : Bool)
        → desk_reply (ite b (Desk.Accepted (report_in u.answer)) (Desk.Refused (u.result % 65536) (u.result / 65536))) (take message_size u.message)
        ≡ ite b (M.desk_accepted (report_in u.answer) (take message_size u.message)) (M.desk_refused (u.result % 65536) (u.result / 65536))
    go true = refl
    go false = refl

steps_in : (m : Memory) (us : List DeskUse) → map desk_step (calls_in m us) ≡ desk_steps_in m us
steps_in m [] = refl
steps_in m (u ∷ us) = go (is_operation u.operation) (steps_in (after_desk m u) us)
  where
    go :
        (b : Bool) → map desk_step (calls_in (after_desk m u) us) ≡ desk_steps_in (after_desk m u) us
        → map desk_step (ite b (call_in m u ∷ []) [] ++ calls_in (after_desk m u) us) ≡ ite b (desk_step_in m u ∷ []) [] ++ desk_steps_in (after_desk m u) us
    go true rest = ap₂ (λ (x : DeskStep Drawing Edit Removed) (l : List (DeskStep Drawing Edit Removed)). x ∷ l) (step_in m u) rest
    go false rest = rest

module _ (m : Memory) (kept : List ℕ) (u : DeskUse)
    (w : DeskCallWritten m.size m.count m.mark u.operation (edit_of_use u) m.buffer u.buffer u.lent u.message kept u.window u.before u.answer u.result)
    (l : length u.before ≡ 5)
  where
    abbrev outcome : CallOutcome
    outcome = desk_outcome_by_number m.buffer m.size m.count m.mark u.operation (edit_of_use u) (length u.lent)

    served : (v : CallOutcome) → outcome ≡ v → CallWritten v m.buffer u.buffer u.before u.answer u.result
    served v g = subst (λ (v : CallOutcome). CallWritten v m.buffer u.buffer u.before u.answer u.result) g w.served

    edits : is_operation u.operation ≡ true → DeskEdits m kept (call_in m u)
    edits k =
        let v = desk_call_outcome m (edit_of_use u) (length u.lent) in
        let g = known_outcome m.buffer m.size m.count m.mark u.operation (edit_of_use u) (length u.lent) k in
        let s = served v g in
        record {
          reply_is = desk_reply_lem m u.buffer u.before u.answer u.result l v s;
          left_is = memory_after_lem m u.buffer u.before u.answer u.result l v s;
          message_is = w.written ∙ ap (λ (v : CallOutcome). message_after m.mark v (edit_of_use u) u.lent) g;
          window_is = w.kept ∙ ap (λ (v : CallOutcome). window_after v kept u.message) g;
          sound = s.sound;
        }

    -- a number that is no operation's leaves all
    unasked : is_operation u.operation ≡ false → (after_desk m u ≡ m) × (u.window ≡ kept)
    unasked k =
        let (n, g) = unknown_outcome m.buffer m.size m.count m.mark u.operation (edit_of_use u) (length u.lent) k in
        (memory_after_lem m u.buffer u.before u.answer u.result l (refused n 0) (served (refused n 0) g), w.kept ∙ ap (λ (v : CallOutcome). window_after v kept u.message) g)

-- calls, and what they leave
record Made (m : Memory) (kept : List ℕ) (cs : List DeskCall) (m' : Memory) (kept' : List ℕ) : Type 0 where
  calls : DeskCalls m kept cs
  memory_is : memory_left m cs ≡ m'
  window_is : window_left kept cs ≡ kept'

made : (m : Memory) (kept : List ℕ) (us : List DeskUse) → DeskUses m kept us → Made m kept (calls_in m us) (desk_left m us) (desk_window kept us)
made m kept [] w = record { calls = tt; memory_is = refl; window_is = refl }
made m kept (u ∷ us) w = go (is_operation u.operation) refl (made (after_desk m u) u.window us w.2)
  where
    go :
        (b : Bool) → is_operation u.operation ≡ b → Made (after_desk m u) u.window (calls_in (after_desk m u) us) (desk_left (after_desk m u) us) (desk_window u.window us)
        → Made m kept (ite b (call_in m u ∷ []) [] ++ calls_in (after_desk m u) us) (desk_left (after_desk m u) us) (desk_window u.window us)
    go true k rest = record { calls = (edits m kept u w.0 w.1 k, rest.calls); memory_is = rest.memory_is; window_is = rest.window_is }
    go false k rest =
        let (same, left) = unasked m kept u w.0 w.1 k in
        subst₂ (λ (t : Memory) (x : List ℕ). Made t x (calls_in (after_desk m u) us) (desk_left (after_desk m u) us) (desk_window u.window us)) same left rest

calls_join : (m : Memory) (us vs : List DeskUse) → calls_in m (us ++ vs) ≡ calls_in m us ++ calls_in (desk_left m us) vs
calls_join m [] vs = refl
calls_join m (u ∷ us) vs =
    ap (λ (l : List DeskCall). ite (is_operation u.operation) (call_in m u ∷ []) [] ++ l) (calls_join (after_desk m u) us vs)
    ∙ sym (append_assoc (ite (is_operation u.operation) (call_in m u ∷ []) []) (calls_in (after_desk m u) us) (calls_in (desk_left (after_desk m u) us) vs))

uses_front : (m : Memory) (kept : List ℕ) (us vs : List DeskUse) → DeskUses m kept (us ++ vs) → DeskUses m kept us
uses_front m kept [] vs w = tt
uses_front m kept (u ∷ us) vs w = (w.0, w.1, uses_front (after_desk m u) u.window us vs w.2)

-- ---- the wall

abbrev delivery_in : Memory → WallDelivery → WallCall
delivery_in m u =
    record {
      bytes = u.bytes;
      left = after_wall m u;
      reply =
          ite (eqb (u.result % 65536) 0) (ite (eqb (get_or u.answer 0 0) m.count) Wall.Old (Wall.Applied (report_in u.answer))) (Wall.Refused (u.result % 65536) (u.result / 65536));
    }

abbrev uses_in : Memory → List HostWallUse → List WallUse
uses_in m [] = []
uses_in m (host_starts t ∷ us) = starts t ∷ uses_in t us
uses_in m (host_delivers u ∷ us) = delivers (delivery_in m u) ∷ uses_in (after_wall m u) us

delivery_step_in : (m : Memory) (u : WallDelivery) → wall_step (delivery_in m u) ≡ wall_step_in m u
delivery_step_in m u =
    ap (λ (r : M.WallReply Removed). record { bytes = u.bytes; state = (wall_step_in m u).state; reply = r }) (go (eqb (u.result % 65536) 0) (eqb (get_or u.answer 0 0) m.count))
  where
    go :
        (b c : Bool) → wall_reply (ite b (ite c Wall.Old (Wall.Applied (report_in u.answer))) (Wall.Refused (u.result % 65536) (u.result / 65536)))
        ≡ ite b (ite c M.wall_old (M.wall_applied (report_in u.answer))) (M.wall_refused (u.result % 65536) (u.result / 65536))
    go true true = refl
    go true false = refl
    go false c = refl

events_in : (m : Memory) (us : List HostWallUse) → map wall_event (uses_in m us) ≡ wall_events_in m us
events_in m [] = refl
events_in m (host_starts t ∷ us) = ap (λ (l : List (WallEvent Drawing Removed)). started (state_in t) ∷ l) (events_in t us)
events_in m (host_delivers u ∷ us) =
    ap₂ (λ (x : M.WallStep Drawing Removed) (l : List (WallEvent Drawing Removed)). delivered x ∷ l) (delivery_step_in m u) (events_in (after_wall m u) us)

-- a delivery to a memory that is ready
delivery_made :
    (m : Memory) → Ready m → (u : WallDelivery) → WallCallWritten m.size m.count m.mark u.bytes m.buffer u.buffer u.before u.answer u.result → length u.before ≡ 5
    → WallDelivers m (delivery_in m u)
delivery_made m h u w l =
    let v = wall_call_outcome m u.bytes in
    record {
      reply_is = wall_reply_lem m u.buffer u.before u.answer u.result l v w (counted (delivery_case m h u.bytes));
      left_is = memory_after_lem m u.buffer u.before u.answer u.result l v w;
      sound = w.sound;
    }
  where
    counted : DeliveryCase m h u.bytes → Counted m (wall_call_outcome m u.bytes)
    counted (delivery_refused k place g o) = subst (Counted m) (sym g) tt
    counted (delivery_old g o) = subst (Counted m) (sym g) refl
    counted (delivery_updated t q g o n v) = subst (Counted m) (sym g) n

module _ (d : Memory) (kept : List ℕ) (desk : List DeskUse) (h : Ready d) (du : DeskUses d kept desk) where
  uses_from : (m : Memory) (us : List HostWallUse) → HostUsesFromDesk d desk us → UsesFromDesk d (calls_in d desk) (uses_in m us)
  uses_from m [] f = tt
  uses_from m (host_starts t ∷ us) ((front, later, q, s), f) =
      let left = (made d kept front (uses_front d kept front later (subst (DeskUses d kept) q du))).memory_is in (
        (
          calls_in d front,
          calls_in (desk_left d front) later,
          ap (calls_in d) q ∙ calls_join d front later,
          subst (λ (x : Memory). StartsWith (image_in x) d.mark x.count t) (sym left) s,
        ),
        uses_from t us f,
      )
  uses_from m (host_delivers u ∷ us) f = (
    subst (λ (l : List (DeskStep Drawing Edit Removed)). Memᴰ u.bytes (messages l) ⊎ Unread (protocol d.mark) u.bytes) (sym (steps_in d desk)) f.0,
    uses_from (after_wall m u) us f.1,
  )

  uses_made : (m : Memory) (us : List HostWallUse) → Leaves d m → HostWallUses m us → HostUsesFromDesk d desk us → WallUses m (uses_in m us) × Leaves d (wall_left m us)
  uses_made m [] l w f = (tt, l)
  uses_made m (host_starts t ∷ us) l w f =
      uses_made t us (started_had d kept (calls_in d desk) h (made d kept desk du).calls t (uses_from m (host_starts t ∷ us) f).0).0 w f.1
  uses_made m (host_delivers u ∷ us) l w f =
      let called = delivery_made m l.0 u w.0 w.1 in
      let (valid, left) = wall_step_lem m l.0 (delivery_in m u) called in
      let (rest, last) = uses_made (after_wall m u) us (left.0, left.1 ∙ l.1) w.2 f.1 in
      ((called, rest), last)

-- ---- demand 3

pub host_demand_3 :
    (image : List ℕ) → Bytes image → (mark : ℕ) → Mark mark → (start : Drawing) → I.parse image ≡ I.accepted start
    → (d w : Memory) → StartsWith image mark 0 d → StartsWith image mark 0 w
    → (kept : List ℕ) (desk : List DeskUse) (wall : List HostWallUse) → DeskUses d kept desk → HostWallUses w wall → HostUsesFromDesk d desk wall
    → ReplicationCorrect mark start (desk_steps_in d desk) (wall_events_in w wall)
host_demand_3 image b mark k start e d w hd hw kept desk wall du wu uf =
    let sd = held_at_start image b mark 0 start e d hd in
    let sw = held_at_start image b mark 0 start e w hw in
    subst₂ (ReplicationCorrect mark start) (steps_in d desk) (events_in w wall)
    (calls_demand_3 image b mark k start e d w hd hw kept (calls_in d desk) (uses_in w wall) (made d kept desk du).calls
    (uses_made d kept desk sd.ready du w wall (sw.ready, sw.mark_is ∙ sym sd.mark_is) wu uf).0 (uses_from d kept desk sd.ready du w wall uf))

-- ---- catching up

-- by a window that answers for these messages
due_written :
    (mark : ℕ) (w : List ℕ) (ms : List (List ℕ)) → CatchUpOf mark w ms → (k : ℕ) (before later : List ℕ) (r : ℕ) → CatchesUp mark w (length ms) k before later r → DueWritten ms k before later r
unfolding guard_number
due_written mark w ms h k before later r c =
    record {
      number = c.number ∙ h.fault k (length before);
      buffer =
          c.buffer ∙ ap (λ (f : ℕ). ite (eqb f 0) (over before 0 (due_bytes w k (length ms - k))) before) (h.fault k (length before))
          ∙ go (leb k (length ms)) refl (leb (length ms - k) window_messages) refl (leb (message_size * (length ms - k)) (length before));
    }
  where
    go :
        (a : Bool) → leb k (length ms) ≡ a → (b : Bool) → leb (length ms - k) window_messages ≡ b → (e : Bool)
        → ite (eqb (guard_number a 27 (guard_number b 26 (guard_number e 25 0))) 0) (over before 0 (due_bytes w k (length ms - k))) before
        ≡ ite (eqb (guard_number a 27 (guard_number b 26 (guard_number e 25 0))) 0) (over before 0 (concat (drop k ms))) before
    go true p true q true = ap (over before 0) (h.due k (leb-true k (length ms) p) (leb-true (length ms - k) window_messages q))
    go true p true q false = refl
    go true p false q e = refl
    go false p b q e = refl

-- a desk that started with an empty window, and keeps it along its calls
pub host_catch_up :
    (image : List ℕ) → Bytes image → (start : Drawing) → I.parse image ≡ I.accepted start → (d : Memory) → Mark d.mark → StartsWith image d.mark 0 d
    → (desk : List DeskUse) → DeskUses d empty_window desk
    → (k : ℕ) (before later : List ℕ) (r : ℕ) → CatchesUp d.mark (desk_window empty_window desk) (desk_left d desk).count k before later r
    → DueWritten (messages (desk_steps_in d desk)) k before later r
host_catch_up image b start e d fits s desk du k before later r c =
    let ready = (held_at_start image b d.mark 0 start e d s).ready in
    let m = made d empty_window desk du in
    let cs = calls_in d desk in
    let ms = messages (map desk_step cs) in
    let n : (desk_left d desk).count ≡ length ms = ap (λ (t : Memory). t.count) (sym m.memory_is) ∙ desk_count d ready fits s.count_is cs m.calls in
    subst (λ (l : List (DeskStep Drawing Edit Removed)). DueWritten (messages l) k before later r) (steps_in d desk)
    (due_written d.mark (window_left empty_window cs) ms (desk_window_lem d ready fits s.count_is cs m.calls) k before later r
    (subst₂ (λ (w : List ℕ) (n : ℕ). CatchesUp d.mark w n k before later r) (sym m.window_is) n c))

-- ---- a wall that is delivered what is due

uses_left_in : (m : Memory) (us : List HostWallUse) → uses_left m (uses_in m us) ≡ wall_left m us
uses_left_in m [] = refl
uses_left_in m (host_starts t ∷ us) = uses_left_in t us
uses_left_in m (host_delivers u ∷ us) = uses_left_in (after_wall m u) us

abbrev deliveries_in : Memory → List WallDelivery → List WallCall
deliveries_in m [] = []
deliveries_in m (u ∷ us) = delivery_in m u ∷ deliveries_in (after_wall m u) us

deliveries_made : (m : Memory) (us : List WallDelivery) → Ready m → HostWallUses m (map host_delivers us) → WallCalls m (deliveries_in m us)
deliveries_made m [] h w = tt
deliveries_made m (u ∷ us) h w =
    let called = delivery_made m h u w.0 w.1 in
    (called, deliveries_made (after_wall m u) us (wall_step_lem m h (delivery_in m u) called).1.0 w.2)

deliveries_left : (m : Memory) (us : List WallDelivery) → calls_left m (deliveries_in m us) ≡ wall_left m (map host_delivers us)
deliveries_left m [] = refl
deliveries_left m (u ∷ us) = deliveries_left (after_wall m u) us

deliveries_bytes : (m : Memory) (us : List WallDelivery) → map (λ (c : WallCall). c.bytes) (deliveries_in m us) ≡ map (λ (u : WallDelivery). u.bytes) us
deliveries_bytes m [] = refl
deliveries_bytes m (u ∷ us) = ap (λ (l : List (List ℕ)). u.bytes ∷ l) (deliveries_bytes (after_wall m u) us)

-- at whatever point of its life
pub host_level_with_desk :
    (image : List ℕ) → Bytes image → (start : Drawing) → I.parse image ≡ I.accepted start → (d w : Memory) → Mark d.mark → StartsWith image d.mark 0 d → StartsWith image d.mark 0 w
    → (front later : List DeskUse) (wall : List HostWallUse) → DeskUses d empty_window (front ++ later) → HostWallUses w wall → HostUsesFromDesk d (front ++ later) wall
    → (before buffer : List ℕ) (us : List WallDelivery) → HostDeliversDue d front (wall_left w wall) before buffer us → HostLevelWithDesk d front (wall_left w wall) us
host_level_with_desk image b start e d w fits sd sw front later wall du wu uf before buffer us due =
    let hd = held_at_start image b d.mark 0 start e d sd in
    let hw = held_at_start image b d.mark 0 start e w sw in
    let m = wall_left w wall in
    let here = made d empty_window front (uses_front d empty_window front later du) in
    let join = calls_join d front later in
    let (used, left) = uses_made d empty_window (front ++ later) hd.ready du w wall (hw.ready, hw.mark_is) wu uf in
    let count : (desk_left d front).count ≡ (memory_left d (calls_in d front)).count = ap (λ (t : Memory). t.count) (sym here.memory_is) in
    let level : LevelWithDesk d (calls_in d front) (uses_left w (uses_in w wall)) (deliveries_in m us) =
    level_with_desk image b start e d w fits sd sw (calls_in d front) (calls_in (desk_left d front) later) (uses_in w wall)
    (subst (DeskCalls d empty_window) join (made d empty_window (front ++ later) du).calls) used
    (subst (λ (l : List DeskCall). UsesFromDesk d l (uses_in w wall)) join (uses_from d empty_window (front ++ later) hd.ready du w wall uf)) before buffer (deliveries_in m us)
    (subst (λ (t : Memory). DeliversDue d (calls_in d front) t before buffer (deliveries_in m us)) (sym (uses_left_in w wall))
    (record {
      caught_up = subst₂ (λ (x : List ℕ) (n : ℕ). CatchesUp d.mark x n m.count before buffer 0) (sym here.window_is) count due.caught_up;
      called = deliveries_made m us left.0 due.called;
      due = deliveries_bytes m us ∙ due.due ∙ ap (λ (n : ℕ). messages_in (n - m.count) buffer) count;
    })) in
    ap state_in (sym (deliveries_left m us)) ∙ ap (λ (t : Memory). state_in (calls_left t (deliveries_in m us))) (sym (uses_left_in w wall)) ∙ level ∙ ap state_in here.memory_is
