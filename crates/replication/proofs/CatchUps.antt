-- The desk's window holds its last messages (`desk_window_lem`), and a wall that is delivered just what a catch-up wrote has the desk's drawing and count (`level_with_desk`).
use mathlib.Core.Path.{◌≡◌, refl, sym, ap, ap₂, ◌∙◌, subst, subst₂}
use mathlib.Core.Bool.{Bool, true, false, ◌&&◌}
use mathlib.Core.List.{List, [], ◌∷◌, ◌++◌, map, map-append, append-nil, append_assoc}
use Prim.Native.Nat.{ℕ, zero, suc, ◌+◌, ◌-◌, ◌*◌, ◌≤◌, ◌<◌}
use native.Mathlib.Omega.{arith}
use lib.ListN.{length, take, drop, get_or, length-append, length-drop}
use lib.Seq.{take_at, drop_at, get_or-drop}
use lib.Dec.{leb, eqb}
use borrow.Author.Tests.{leb-true}
use Rattle.big_endian.specs.Fields.{field, over}
use Rattle.big_endian.specs.Laws.{Bytes}
use Rattle.sketch.specs.Lists.{ite, guard_number}
use Rattle.sketch.specs.Drawing.{Drawing, limits}
use Rattle.sketch.specs.Facts.{Valid}
use Rattle.sketch.proofs.Facts.{fault_valid}
use Rattle.image.specs.Image as I
use Rattle.image.proofs.RoundTrips as T
use Rattle.message.specs.Message as G
use Rattle.message.specs.Message.{message_size, edit_number_at, edit_number_size, message_fault, message_of, result_of}
use Rattle.message.specs.Stored.{Mark}
use Rattle.message.proofs.MessageRoundTrips.{length_message}
use Rattle.window.specs.Window.{window_messages, empty_window, slid, all_held, due_bytes, CatchesUp}
use Rattle.window.specs.KeptMessages.{concat, Numbered, KeepsLast, CatchUpOf}
use Rattle.window.proofs.KeptMessages.{numbered_none, numbered_more, numbered_sized, keeps_none, keeps_slid, catch_up_of}
use Rattle.relations.specs.Met.{all_met}
use Rattle.edit_plan.specs.declared.Removed.{Removed}
use Rattle.edit_plan.specs.Outcome as O
use Rattle.edit_plan.proofs.Tables.{Holds}
use Rattle.agreement.specs.Machines as M
use Rattle.agreement.specs.Machines.{State, initial, message, DeskStep, desk_after, messages, DeskRun, WallStep, wall_after, WallRun, WallEvent, WallLife, FromDesk, Session, session_after, session_at, session_state}
use Rattle.agreement.proofs.Reference.{Step, called}
use Rattle.agreement.proofs.Runs.{wall_after_join}
use Rattle.agreement.proofs.Sessions.{session_valid}
use Rattle.agreement.proofs.CatchUp.{caught_up}
use Rattle.chains.proofs.Edits.{planned_keeps}
use Rattle.replication.specs.Protocol.{Edit, message_for, decoded_of, protocol, target}
use Rattle.replication.specs.Outcomes.{CallOutcome, refused, updated, message_after, window_after}
use Rattle.replication.specs.Transitions.{Memory, state_in, Ready, StartsWith, memory_after, desk_call_outcome, DeskCall, desk_reply, desk_reply_to, desk_step, DeskEdits, DeskCalls, memory_left, window_left, WallCall, wall_step, WallCalls, WallUse, starts, delivers, WallUses, uses_left, UsesFromDesk, wall_event}
use Rattle.replication.specs.CatchUps.{messages_in, calls_left, DeliversDue, LevelWithDesk}
use Rattle.replication.proofs.Decoding.{planned, read}
use Rattle.replication.proofs.StartCases.{held_at_start}
use Rattle.replication.proofs.Steps.{Holding, Leaves, DeskCase, desk_refused_lem, desk_updated, desk_case, message_front, desk_step_lem, wall_step_lem}
use Rattle.replication.proofs.Demand3.{desk_run, desk_left_lem, desk_after_lem, desk_calls_front, started_had, wall_life, from_desk}

-- ---- what is read as a message with a number bears it

decoded_number : (mark : ℕ) (s : List ℕ) (n : ℕ) (e : Edit) → (protocol mark).decode s ≡ message n e → (message_fault mark s ≡ 0) × (field s edit_number_at edit_number_size ≡ n)
unfolding decoded_of result_of
decoded_number mark s n e = go (message_fault mark s)
  where
    go : (k : ℕ) → decoded_of (result_of k (message_of s)) ≡ message n e → (k ≡ 0) × (field s edit_number_at edit_number_size ≡ n)
    go zero h = (refl, cc)
    go (suc k) h = let z : ◌≡◌ {A = ℕ} 0 1 = cc in absurd (omega arith)

-- ---- the window along the desk's calls

-- what a desk has that wrote some messages since its start
pub record Kept (m : Memory) (w : List ℕ) (ms : List (List ℕ)) : Type 0 where
  pub numbered : Numbered m.mark ms
  pub keeps : KeepsLast w ms
  pub many : m.count ≡ length ms

-- one call more
pub kept_next :
    (m : Memory) → Ready m → Mark m.mark → (w : List ℕ) (ms : List (List ℕ)) → Kept m w ms → (c : DeskCall) → DeskEdits m w c
    → Kept c.left c.window (ms ++ M.prepend_message (desk_step c).reply [])
kept_next m h fits w ms k c d = go (desk_case m h c.edit (length c.before))
  where
    by :
        (v : CallOutcome) → desk_call_outcome m c.edit (length c.before) ≡ v
        → Kept (memory_after v m) (window_after v w c.after) (ms ++ M.prepend_message (desk_reply (desk_reply_to v) (take message_size c.after)) [])
        → Kept c.left c.window (ms ++ M.prepend_message (desk_step c).reply [])
    by v g x =
        rw (d.left_is ∙ ap (λ (v : CallOutcome). memory_after v m) g, d.window_is ∙ ap (λ (v : CallOutcome). window_after v w c.after) g, d.reply_is ∙ ap desk_reply_to g) x

    go : DeskCase m h c.edit (length c.before) → Kept c.left c.window (ms ++ M.prepend_message (desk_step c).reply [])
    go (desk_refused_lem n g o) = by (refused n _) g (subst (Kept m w) (sym (append-nil ms)) k)
    go (desk_updated t q g o v) =
        let step : Step (protocol m.mark) (state_in m) c.edit t q = subst (Holds (Step (protocol m.mark) (state_in m) c.edit)) o (called (protocol m.mark) (state_in m) (record { edit = c.edit; room = length c.before })) in
        let n : t.count ≡ suc (length ms) = step.next ∙ omega (arith, k.many) in
        let sent : take message_size c.after ≡ G.encode m.mark (message_for t.count c.edit) =
        ap (take message_size) (d.message_is ∙ ap (λ (v : CallOutcome). message_after m.mark v c.edit c.before) g) ∙ message_front m.mark c.before (message_for t.count c.edit) in
        let is = read m.mark fits (state_in m).drawing c.edit t.drawing q h.valid step.gives t.count (omega arith) (omega (arith, step.next, step.fits)) in
        let (fault, number) = decoded_number m.mark _ t.count c.edit is in
        let long : length (take message_size c.after) ≡ message_size = ap length sent ∙ length_message m.mark (message_for t.count c.edit) in
        by (updated t q) g
        (record {
          numbered = numbered_more m.mark ms (take message_size c.after) k.numbered (ap (message_fault m.mark) sent ∙ fault) (ap (λ (s : List ℕ). field s edit_number_at edit_number_size) sent ∙ number ∙ n);
          keeps = subst (λ (j : ℕ). KeepsLast (slid w j c.after) (ms ++ (take message_size c.after ∷ []))) (sym n) (keeps_slid w ms c.after k.keeps long);
          many = n ∙ sym (length-append ms (take message_size c.after ∷ []) ∙ omega arith);
        })

kept_along :
    (m : Memory) → Ready m → Mark m.mark → (w : List ℕ) (ms : List (List ℕ)) → Kept m w ms → (cs : List DeskCall) → DeskCalls m w cs
    → Kept (memory_left m cs) (window_left w cs) (ms ++ messages (map desk_step cs))
kept_along m h fits w ms k [] d = subst (Kept m w) (sym (append-nil ms)) k
kept_along m h fits w ms k (c ∷ cs) d =
    let (valid, left) = desk_step_lem m h w c d.0 in
    let next = kept_along c.left left.0 (subst Mark (sym left.1) fits) c.window (ms ++ M.prepend_message (desk_step c).reply []) (kept_next m h fits w ms k c d.0) cs d.1 in
    subst (Kept (memory_left c.left cs) (window_left c.window cs)) (append_assoc ms (M.prepend_message (desk_step c).reply []) (messages (map desk_step cs)) ∙ ap (λ (l : List (List ℕ)). ms ++ l) (joined (desk_step c).reply (messages (map desk_step cs)))) next
  where
    joined : (r : M.DeskReply Removed) (l : List (List ℕ)) → M.prepend_message r [] ++ l ≡ M.prepend_message r l
    joined (M.desk_refused n place) l = refl
    joined (M.desk_accepted q x) l = refl

-- a desk that started with an empty window, after some calls
module _ (d : Memory) (h : Ready d) (fits : Mark d.mark) (z : d.count ≡ 0) (cs : List DeskCall) (dc : DeskCalls d empty_window cs) where
  desk_kept : Kept (memory_left d cs) (window_left empty_window cs) (messages (map desk_step cs))
  desk_kept = kept_along d h fits empty_window [] (record { numbered = numbered_none d.mark; keeps = keeps_none; many = z }) cs dc

  desk_numbered : Numbered d.mark (messages (map desk_step cs))
  desk_numbered = subst (λ (k : ℕ). Numbered k (messages (map desk_step cs))) (desk_left_lem d empty_window cs h dc).1 desk_kept.numbered

  -- its count is that of its messages
  pub desk_count : (memory_left d cs).count ≡ length (messages (map desk_step cs))
  desk_count = desk_kept.many

  -- and by its window it answers any wall's count as it should
  pub desk_window_lem : CatchUpOf d.mark (window_left empty_window cs) (messages (map desk_step cs))
  desk_window_lem = catch_up_of d.mark (window_left empty_window cs) (messages (map desk_step cs)) desk_numbered desk_kept.keeps

-- ---- messages one after the other in a buffer

messages_in_lem : (ms : List (List ℕ)) (rest : List ℕ) → ((j : ℕ) → j < length ms → length (get_or ms j []) ≡ message_size) → messages_in (length ms) (concat ms ++ rest) ≡ ms
messages_in_lem [] rest h = refl
messages_in_lem (m ∷ ms) rest h =
    let long = h 0 (omega arith) in
    let split : concat (m ∷ ms) ++ rest ≡ m ++ (concat ms ++ rest) = append_assoc m (concat ms) rest in
    ap₂ (λ (x : List ℕ) (xs : List (List ℕ)). x ∷ xs) (ap (take message_size) split ∙ take_at m (concat ms ++ rest) message_size long)
    (ap (messages_in (length ms)) (ap (drop message_size) split ∙ drop_at m (concat ms ++ rest) message_size long) ∙ messages_in_lem ms rest (λ j q. h (suc j) (omega arith)))

-- what an accepted catch-up says of counts and buffer
record Accepted (mark : ℕ) (w : List ℕ) (n k : ℕ) (before buffer : List ℕ) : Type 0 where
  below : k ≤ n
  few : n - k ≤ window_messages
  written : buffer ≡ over before 0 (due_bytes w k (n - k))

accepted_catch_up : (mark : ℕ) (w : List ℕ) (n k : ℕ) (before buffer : List ℕ) → CatchesUp mark w n k before buffer 0 → Accepted mark w n k before buffer
unfolding guard_number
accepted_catch_up mark w n k before buffer c = go (leb k n) refl (leb (n - k) window_messages) refl (all_held mark w k (n - k)) (leb (message_size * (n - k)) (length before)) c.number c.buffer
  where
    go :
        (a : Bool) → leb k n ≡ a → (b : Bool) → leb (n - k) window_messages ≡ b → (f e : Bool) → 0 ≡ guard_number a 27 (guard_number (b && f) 26 (guard_number e 25 0))
        → buffer ≡ ite (eqb (guard_number a 27 (guard_number (b && f) 26 (guard_number e 25 0))) 0) (over before 0 (due_bytes w k (n - k))) before → Accepted mark w n k before buffer
    go true p true q true true z u = record { below = leb-true k n p; few = leb-true (n - k) window_messages q; written = u }
    go true p true q true false z u = absurd (omega arith)
    go true p true q false e z u = absurd (omega arith)
    go true p false q f e z u = absurd (omega arith)
    go false p b q f e z u = absurd (omega arith)

-- ---- the wall

wall_run : (m : Memory) (cs : List WallCall) → Ready m → WallCalls m cs → WallRun (protocol m.mark) (state_in m) (map wall_step cs)
wall_run m [] v h = tt
wall_run m (c ∷ cs) v h =
    let (valid, left) = wall_step_lem m v c h.0 in
    (valid, subst (λ (k : ℕ). WallRun (protocol k) (state_in c.left) (map wall_step cs)) left.1 (wall_run c.left cs left.0 h.1))

wall_after_lem : (m : Memory) (cs : List WallCall) → wall_after (state_in m) (map wall_step cs) ≡ state_in (calls_left m cs)
wall_after_lem m [] = refl
wall_after_lem m (c ∷ cs) = wall_after_lem c.left cs

bytes_of : (cs : List WallCall) → map (λ (x : WallStep Drawing Removed). x.bytes) (map wall_step cs) ≡ map (λ (c : WallCall). c.bytes) cs
bytes_of [] = refl
bytes_of (c ∷ cs) = ap (λ (l : List (List ℕ)). c.bytes ∷ l) (bytes_of cs)

-- the memory that a wall's uses leave has the session's state
session_left : (g : Session Drawing Removed) (m : Memory) (us : List WallUse) → session_state g ≡ state_in m → session_state (session_after g (map wall_event us)) ≡ state_in (uses_left m us)
session_left g m [] e = e
session_left g m (starts t ∷ us) e = session_left (record { start = state_in t; deliveries = [] }) t us refl
session_left g m (delivers c ∷ us) e = session_left (record { start = g.start; deliveries = g.deliveries ++ (wall_step c ∷ []) }) c.left us (wall_after_join g.start g.deliveries (wall_step c ∷ []))

module _ (d : Memory) (kept : List ℕ) (desk : List DeskCall) (v : Ready d) (dc : DeskCalls d kept desk) where
  uses_left_lem : (m : Memory) (us : List WallUse) → Leaves d m → WallUses m us → UsesFromDesk d desk us → Leaves d (uses_left m us)
  uses_left_lem m [] l h f = l
  uses_left_lem m (starts t ∷ us) l h f = uses_left_lem t us (started_had d kept desk v dc t f.0).0 h f.1
  uses_left_lem m (delivers c ∷ us) l h f =
      let (valid, left) = wall_step_lem m l.0 c h.0 in
      uses_left_lem c.left us (left.0, left.1 ∙ l.1) h.1 f.1

-- ---- a wall, at whatever point of its life, that is delivered what is due to it

module _
    (image : List ℕ) (b : Bytes image) (start : Drawing) (e : I.parse image ≡ I.accepted start) (d w : Memory) (fits : Mark d.mark) (sd : StartsWith image d.mark 0 d) (sw : StartsWith image d.mark 0 w)
    (front later : List DeskCall) (us : List WallUse) (dc : DeskCalls d empty_window (front ++ later)) (wu : WallUses w us) (uf : UsesFromDesk d (front ++ later) us)
  where
    abbrev m : Memory
    m = uses_left w us

    abbrev steps : List (DeskStep Drawing Edit Removed)
    steps = map desk_step front ++ map desk_step later

    abbrev events : List (WallEvent Drawing Removed)
    events = map wall_event us

    at_desk : Holding d.mark d (initial start)
    at_desk = held_at_start image b d.mark 0 start e d sd

    at_wall : Holding d.mark w (initial start)
    at_wall = held_at_start image b d.mark 0 start e w sw

    leaves : Leaves d m
    leaves = uses_left_lem d empty_window (front ++ later) at_desk.ready dc w us (at_wall.ready, at_wall.mark_is) wu uf

    run : DeskRun (protocol d.mark) (initial start) steps
    run = subst₂ (DeskRun (protocol d.mark)) at_desk.state (map-append desk_step front later) (desk_run d empty_window (front ++ later) at_desk.ready dc)

    life : WallLife (protocol d.mark) (initial start) events
    life = subst (λ (t : State Drawing). WallLife (protocol d.mark) t events) at_wall.state (wall_life d empty_window (front ++ later) at_desk.ready dc w us (at_wall.ready, at_wall.mark_is) wu uf)

    from : FromDesk (protocol d.mark) (initial start) steps events
    from =
        subst₂ (λ (t : State Drawing) (l : List (DeskStep Drawing Edit Removed)). FromDesk (protocol d.mark) t l events) at_desk.state (map-append desk_step front later)
        (from_desk d empty_window (front ++ later) at_desk.ready dc us uf)

    at : session_state (session_at start events) ≡ state_in m
    at = session_left (record { start = initial start; deliveries = [] }) w us (sym at_wall.state)

    ends : desk_after (initial start) (map desk_step front) ≡ state_in (memory_left d front)
    ends = ap (λ (t : State Drawing). desk_after t (map desk_step front)) (sym at_desk.state) ∙ desk_after_lem d front

    module _ (before buffer : List ℕ) (cs : List WallCall) (due : DeliversDue d front m before buffer cs) where
      fc : DeskCalls d empty_window front
      fc = desk_calls_front d empty_window front later dc

      abbrev ms : List (List ℕ)
      ms = messages (map desk_step front)

      answered : Accepted d.mark (window_left empty_window front) (memory_left d front).count m.count before buffer
      answered = accepted_catch_up d.mark (window_left empty_window front) (memory_left d front).count m.count before buffer due.caught_up

      -- what stands in the buffer is what is due
      given : map (λ (x : WallStep Drawing Removed). x.bytes) (map wall_step cs) ≡ drop m.count ms
      unfolding over
      given =
          let n = desk_count d at_desk.ready fits sd.count_is front fc in
          let k = m.count in
          let below : k ≤ length ms = subst (λ (j : ℕ). k ≤ j) n answered.below in
          let few : length ms - k ≤ window_messages = subst (λ (j : ℕ). j - k ≤ window_messages) n answered.few in
          let sized = numbered_sized d.mark ms (desk_numbered d at_desk.ready fits sd.count_is front fc) in
          let window = desk_window_lem d at_desk.ready fits sd.count_is front fc in
          let put : buffer ≡ over before 0 (concat (drop k ms)) = answered.written ∙ ap (over before 0) (ap (λ (j : ℕ). due_bytes (window_left empty_window front) k (j - k)) n ∙ window.due k below few) in
          bytes_of cs ∙ due.due
          ∙ ap₂ messages_in (ap (λ (j : ℕ). j - k) n ∙ sym (length-drop k ms)) put
          ∙ messages_in_lem (drop k ms) (drop (0 + length (concat (drop k ms))) before) (λ j q. ap length (get_or-drop k ms j []) ∙ sized (k + j) (omega (arith, q, length-drop k ms)))

      pub level_with_desk : LevelWithDesk d front m cs
      level_with_desk =
          let p = protocol d.mark in
          let g = session_at start events in
          let count = ap (λ (t : State Drawing). t.count) at in
          sym (wall_after_lem m cs) ∙ ap (λ (t : State Drawing). wall_after t (map wall_step cs)) (sym at)
          ∙ caught_up p (Valid limits) (planned_keeps target all_met limits p planned).valid (read d.mark fits) start (map desk_step front) (map desk_step later)
          (fault_valid limits start (T.valid image start b e)) run g (session_valid p start steps events life from events [] (sym (append-nil events)))
          (omega (arith, answered.below, count, ap (λ (t : State Drawing). t.count) ends)) (map wall_step cs)
          (subst₂ (λ (k : ℕ) (t : State Drawing). WallRun (protocol k) t (map wall_step cs)) leaves.1 (sym at) (wall_run m cs leaves.0 due.called))
          (given ∙ ap (λ (k : ℕ). drop k ms) (sym count))
          ∙ ends
