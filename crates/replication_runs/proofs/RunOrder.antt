-- A run goes on by one number more of its order: the desk makes a call, the wall is started again, or bytes are delivered to it.
use mathlib.Core.Path.{◌≡◌, refl, sym, ap, ap₂, ◌∙◌, subst}
use mathlib.Core.Bool.{Bool}
use mathlib.Core.List.{List, [], ◌∷◌, ◌++◌, map, append-nil, append_assoc}
use Prim.Native.Nat.{ℕ, zero, suc, ◌+◌, ◌*◌, ◌-◌, ◌/◌, ◌≤◌, ◌<◌}
use native.Mathlib.Omega.{arith}
use native.Mathlib.Numerals.{add-one}
use native.Mathlib.Nat.{zero-add}
use lib.ListN.{length, take, drop, get_or, length-take, take-append-drop}
use lib.Seq.{take-append-le, take_all, take-suc}
use borrow.Author.Tests.{lt-ltb, le-ltb, le-leb}
use borrow.Rule.Slice.PartMut.{mid_of, put_mid}
use Rattle.big_endian.specs.Fields.{field, part, over}
use Rattle.sketch.specs.Lists.{guard_number}
use Rattle.sketch.specs.Drawing.{Drawing}
use Rattle.sketch.proofs.Bools.{at_most_or_above}
use Rattle.image.specs.Image as I
use Rattle.image.proofs.RoundTrips.{result_accepted}
use Rattle.message.specs.Message.{message_size}
use Rattle.window.specs.declared.Window.{Window}
use Rattle.window.specs.KeptMessages.{concat}
use Rattle.window.proofs.KeptMessages.{due_part}
use Rattle.cuts.specs.Lists.{rows}
use Rattle.cuts.proofs.Rows.{rows_length}
use Rattle.edit_plan.specs.declared.Removed.{Removed}
use Rattle.agreement.specs.Machines.{initial, Call, reference_after, accepted_log, DeskStep, calls, desk_after, messages}
use Rattle.agreement.proofs.Runs.{written, desk_messages, desk_state}
use Rattle.replication.specs.declared.Replica.{Replica}
use Rattle.replication.specs.DeskReply.{DeskReply}
use Rattle.replication.specs.Protocol.{Edit, protocol}
use Rattle.replication.specs.Transitions.{Memory, memory, image_in, state_in, first_nonzero, Started, Starts, desk_step, DeskEdits, WallCall, WallDelivers}
use Rattle.replication.proofs.Steps.{Holding}
use Rattle.replication.proofs.StartCases.{starts_with, held_valid}
use Rattle.replication_runs.specs.declared.Run.{Run}
use Rattle.replication_runs.specs.RunBoth.{edit_at, call_at, calls_in, room_at, call_size, made_by, made_after, other_at, if_unread, delivery_at, WallInput, receives, state_after_calls, messages_after_calls, inputs_by, inputs_after}
use Rattle.replication_runs.specs.Clauses.{DeskRan, WallRan, Ran, RunsOn, WallGiven, one_given}
use Rattle.replication_runs.proofs.WallInputs.{delivery_from, wall_ran_later, wall_ran_started, wall_ran_given}
use Rattle.replication_runs.proofs.DeskCalls.{part_long, desk_ran_more}

-- ---- one number more

made_more : (c i : ℕ) (os : List ℕ) (o : ℕ) → made_after c i (os ++ (o ∷ [])) ≡ made_by c (made_after c i os) o
made_more c i [] o = refl
made_more c i (u ∷ os) o = made_more c (made_by c i u) os o

inputs_more :
    (mark : ℕ) (start : Drawing) (cs : List (Call Edit)) (others : List ℕ) (i : ℕ) (os : List ℕ) (o : ℕ)
    → inputs_after mark start cs others i (os ++ (o ∷ [])) ≡ inputs_after mark start cs others i os ++ inputs_by mark start cs others (made_after (length cs) i os) o
inputs_more mark start cs others i [] o = append-nil (inputs_by mark start cs others i o)
inputs_more mark start cs others i (u ∷ os) o =
    let first = inputs_by mark start cs others i u in
    let next = made_by (length cs) i u in
    ap (λ (l : List WallInput). first ++ l) (inputs_more mark start cs others next os o)
    ∙ sym (append_assoc first (inputs_after mark start cs others next os) (inputs_by mark start cs others (made_after (length cs) next os) o))

take_rows : {A : Type 0} (n i : ℕ) (f : ℕ → A) → i ≤ n → take i (rows n f) ≡ rows i f
unfolding rows
take_rows zero i f h = let e : i ≡ 0 = omega arith in rw e
take_rows (suc n) i f h =
    at_most_or_above i n
    (λ q. take-append-le i (rows n f) (f n ∷ []) (omega (arith, rows_length n f)) ∙ take_rows n i f q)
    (λ q. let e : i ≡ suc n = omega arith in rw e (take_all (suc n) (rows (suc n) f) (omega (arith, rows_length (suc n) f))))

-- ---- the desk's state and messages are those after its calls

module _
    (mark : ℕ) (start : Drawing) (entries others before log : List ℕ) (i : ℕ) (h : i ≤ length entries / call_size) (steps : List (DeskStep Drawing Edit Removed)) (t : Memory) (kept : List ℕ)
    (r : DeskRan mark start steps (rows i (call_at entries)) before log t kept)
  where
    pub fed_is : calls steps ≡ take i (calls_in entries)
    fed_is = r.fed ∙ sym (take_rows (length entries / call_size) i (call_at entries) h)

    state_is : desk_after (initial start) steps ≡ state_after_calls mark start (calls_in entries) others i
    state_is = desk_state (protocol mark) (initial start) steps r.run ∙ ap (reference_after (protocol mark) (initial start)) fed_is

    messages_are : messages steps ≡ messages_after_calls mark start (calls_in entries) others i
    messages_are = desk_messages (protocol mark) (initial start) steps r.run ∙ ap (λ (l : List (Call Edit)). map (written (protocol mark)) (accepted_log (protocol mark) (initial start) l)) fed_is

    pub log_after : log ≡ over before 0 (concat (messages steps))
    unfolding over
    log_after =
        let n : length (concat (messages steps)) ≡ message_size * t.count = ap length r.logged ∙ length-take (message_size * t.count) log ∙ omega (arith, r.fits) in
        sym (take-append-drop (message_size * t.count) log)
        ∙ ap₂ (λ (a b : List ℕ). a ++ b) (sym r.logged) r.rest
        ∙ ap (λ (k : ℕ). concat (messages steps) ++ drop k before) (sym n ∙ sym (zero-add (length (concat (messages steps)))))

    -- a message stands in the log by its place
    message_at : (o : ℕ) → o < t.count → part log (message_size * o) message_size ≡ get_or (messages steps) o []
    message_at o q =
        ap (λ (l : List ℕ). part l (message_size * o) message_size) log_after
        ∙ due_part mark (messages steps) r.numbered before 0 o (omega (arith, r.many))
        ∙ ap (λ (k : ℕ). get_or (messages steps) k []) (zero-add o)

-- ---- a run goes on

module _ (mark : ℕ) (start : Drawing) (entries others before order : List ℕ) (s : Run) (log desk wall : List ℕ) (r : Ran mark start entries others before order s log desk wall) where
  abbrev cs : List (Call Edit)
  cs = calls_in entries

  abbrev inputs : List WallInput
  inputs = inputs_after mark start cs others 0 order

  many_calls : length cs ≡ length entries / call_size
  many_calls = rows_length (length entries / call_size) (call_at entries)

  made_by_lem : (o : ℕ) → made_after (length cs) 0 (order ++ (o ∷ [])) ≡ made_by (length cs) s.made o
  made_by_lem o = made_more (length cs) 0 order o ∙ ap (λ (i : ℕ). made_by (length cs) i o) (sym r.made_is)

  wall_by :
      (o : ℕ) (steps : List (DeskStep Drawing Edit Removed)) (t : Memory) → WallRan mark start steps (inputs ++ inputs_by mark start cs others s.made o) t
      → WallRan mark start steps (inputs_after mark start cs others 0 (order ++ (o ∷ []))) t
  wall_by o steps t =
      subst (λ (l : List WallInput). WallRan mark start steps l t)
      (sym (inputs_more mark start cs others 0 order o ∙ ap (λ (i : ℕ). inputs ++ inputs_by mark start cs others i o) (sym r.made_is)))

  -- where no call is left, all stays as it was
  pub ran_idle : length entries / call_size ≤ s.made → Ran mark start entries others before (order ++ (0 ∷ [])) s log desk wall
  ran_idle h =
      record {
        mark_fits = r.mark_fits;
        log_fits = r.log_fits;
        made_is = sym (made_by_lem 0 ∙ rw (le-ltb s.made (length cs) (omega (arith, many_calls))));
        steps = r.steps;
        of_desk = r.of_desk;
        of_wall = wall_by 0 r.steps (memory s.wall wall) (subst (λ (l : List WallInput). WallRan mark start r.steps l (memory s.wall wall)) (sym (append-nil inputs)) r.of_wall);
      }

  -- where one is left, the desk makes it
  module _ (h : s.made < length entries / call_size) (y : Replica) (kept : Window) (t : DeskReply) (desk' p : List ℕ) where
    abbrev StepsBy : ℕ → ℕ → Type 0
    StepsBy from k =
        DeskEdits (memory s.desk desk) s.window.bytes
        (record { edit = edit_at entries (s.made * call_size); before = mid_of from k log; after = p; left = memory y desk'; window = kept.bytes; reply = t })

    abbrev AfterCall : ℕ → ℕ → Type 0
    AfterCall from k = Ran mark start entries others before (order ++ (0 ∷ [])) (record { desk = y; window = kept; wall = s.wall; made = s.made + 1 }) (put_mid from k log p) desk' wall

    next : (k : ℕ) → k ≡ field entries (s.made * call_size + room_at) 1 → k < 256 → StepsBy (message_size * s.desk.count) k → AfterCall (message_size * s.desk.count) k
    unfolding rows
    next k g small step =
        let few = r.log_fits.few in
        let room = r.log_fits.room in
        let e = edit_at entries (s.made * call_size) in
        let from = message_size * s.desk.count in
        let fits : from + k ≤ length log = omega arith in
        let (ran, long) = desk_ran_more mark r.mark_fits start r.steps (rows s.made (call_at entries)) before log (memory s.desk desk) s.window.bytes r.of_desk e k fits (memory y desk') t p kept.bytes step in
        let x = desk_step (record { edit = e; before = mid_of from k log; after = p; left = memory y desk'; window = kept.bytes; reply = t }) in
        let next_made : suc s.made ≡ s.made + 1 = omega arith in
        let ran2 : DeskRan mark start (r.steps ++ (x ∷ [])) (rows (s.made + 1) (call_at entries)) before (put_mid from k log p) (memory y desk') kept.bytes =
        subst (λ (n : ℕ). DeskRan mark start (r.steps ++ (x ∷ [])) (rows n (call_at entries)) before (put_mid from k log p) (memory y desk') kept.bytes) next_made
        (subst (λ (n : ℕ). DeskRan mark start (r.steps ++ (x ∷ [])) (rows s.made (call_at entries) ++ (record { edit = e; room = n } ∷ [])) before (put_mid from k log p) (memory y desk') kept.bytes) (part_long log from k fits ∙ g) ran) in
        record {
          mark_fits = r.mark_fits;
          log_fits = record { few = omega (arith, ran2.few, rows_length (s.made + 1) (call_at entries)); within = omega arith; room = omega arith };
          made_is = sym (made_by_lem 0 ∙ rw (lt-ltb s.made (length cs) (omega (arith, many_calls))) next_made);
          steps = r.steps ++ (x ∷ []);
          of_desk = ran2;
          of_wall = wall_by 0 (r.steps ++ (x ∷ [])) (memory s.wall wall)
              (subst (λ (l : List WallInput). WallRan mark start (r.steps ++ (x ∷ [])) l (memory s.wall wall)) (sym (append-nil inputs))
              (wall_ran_later mark start r.steps inputs (memory s.wall wall) r.of_wall (x ∷ [])));
        }

    pub ran_call : (from k : ℕ) → from ≡ message_size * s.desk.count → k ≡ field entries (s.made * call_size + room_at) 1 → k < 256 → StepsBy from k → AfterCall from k
    ran_call from k f g small = subst (λ (n : ℕ). StepsBy n k → AfterCall n k) (sym f) (next k g small)

  -- any other number changes the wall's half alone
  goes_on :
      (o : ℕ) (y : Replica) (wall' : List ℕ) → WallRan mark start r.steps (inputs ++ inputs_by mark start cs others s.made (suc o)) (memory y wall')
      → Ran mark start entries others before (order ++ (suc o ∷ [])) (record { desk = s.desk; window = s.window; wall = y; made = s.made }) log desk wall'
  goes_on o y wall' w =
      record {
        mark_fits = r.mark_fits;
        log_fits = record { few = r.log_fits.few; within = r.log_fits.within; room = r.log_fits.room };
        made_is = sym (made_by_lem (suc o));
        steps = r.steps;
        of_desk = r.of_desk;
        of_wall = wall_by (suc o) r.steps (memory y wall') w;
      }

  -- a start from the desk's image and count is not refused, and gives the desk's state
  module _ (a : Started) (wall' image : List ℕ) (same : image ≡ image_in (memory s.desk desk)) (st : Starts image s.desk.mark s.desk.count wall wall' a) where
    image_good : I.parse image ≡ I.accepted (state_in (memory s.desk desk)).drawing
    image_good = ap I.parse same ∙ r.of_desk.ready.image_is

    pub not_refused : a.refusal ≡ 0
    unfolding guard_number
    not_refused =
        st.number
        ∙ ap₂ (λ (n : ℕ) (b : Bool). first_nonzero n (guard_number b 25 0)) (result_accepted (I.image_fault image) (I.drawing_of image) _ image_good).0
        (le-leb I.max_image_size (length wall) r.of_wall.ready.room)

    held : Holding s.desk.mark (memory a.replica wall') (state_in (memory s.desk desk))
    held =
        held_valid image s.desk.mark s.desk.count (state_in (memory s.desk desk)).drawing r.of_desk.ready.valid image_good (memory a.replica wall')
        (starts_with image s.desk.mark s.desk.count wall wall' a st not_refused)

    pub ran_start : Ran mark start entries others before (order ++ (1 ∷ [])) (record { desk = s.desk; window = s.window; wall = a.replica; made = s.made }) log desk wall'
    ran_start =
        let is = state_is mark start entries others before log s.made r.log_fits.within r.steps (memory s.desk desk) s.window.bytes r.of_desk in
        goes_on 0 a.replica wall'
        (wall_ran_started mark start r.steps inputs (memory s.wall wall) r.of_wall (state_after_calls mark start cs others s.made) (sym is) (memory a.replica wall')
        (record { ready = held.ready; mark_is = held.mark_is ∙ r.of_desk.mark_is; state = held.state ∙ sym r.of_desk.ends ∙ is }))

  -- a number names a delivery of what `delivery_at` says
  module _ (o : ℕ) (y : Replica) (wall' : List ℕ) where
    ran_given :
        (ds : List (List ℕ)) → ds ≡ delivery_at mark (messages r.steps) others o → WallGiven (memory s.wall wall) ds (memory y wall')
        → Ran mark start entries others before (order ++ (suc (suc o) ∷ [])) (record { desk = s.desk; window = s.window; wall = y; made = s.made }) log desk wall'
    ran_given ds e g =
        let are = messages_are mark start entries others before log s.made r.log_fits.within r.steps (memory s.desk desk) s.window.bytes r.of_desk in
        let given : WallGiven (memory s.wall wall) (delivery_at mark (messages r.steps) others o) (memory y wall') = subst (λ (l : List (List ℕ)). WallGiven (memory s.wall wall) l (memory y wall')) e g in
        goes_on (suc o) y wall'
        (subst (λ (ms : List (List ℕ)). WallRan mark start r.steps (inputs ++ map receives (delivery_at mark ms others o)) (memory y wall')) are
        (wall_ran_given mark start r.steps inputs (memory s.wall wall) r.of_wall (delivery_at mark (messages r.steps) others o) (memory y wall') (delivery_from mark (messages r.steps) others o) given))

    pub ran_other :
        s.desk.count ≤ o → {other : List ℕ} → other ≡ other_at others (o - s.desk.count) → WallGiven (memory s.wall wall) (if_unread s.wall.mark other) (memory y wall')
        → Ran mark start entries others before (order ++ (suc (suc o) ∷ [])) (record { desk = s.desk; window = s.window; wall = y; made = s.made }) log desk wall'
    ran_other h {other} e g =
        let many = r.of_desk.many in
        let n : o - s.desk.count ≡ o - length (messages r.steps) = omega arith in
        ran_given (if_unread s.wall.mark other)
        (ap₂ if_unread r.of_wall.mark_is (e ∙ ap (other_at others) n) ∙ sym (rw (le-ltb o (length (messages r.steps)) (omega arith)))) g

    pub ran_own :
        o < s.desk.count → (from : ℕ) (c : WallCall) → from ≡ o * message_size → c.bytes ≡ take (from + message_size - from) (drop from log) → c.left ≡ memory y wall' → WallDelivers (memory s.wall wall) c
        → Ran mark start entries others before (order ++ (suc (suc o) ∷ [])) (record { desk = s.desk; window = s.window; wall = y; made = s.made }) log desk wall'
    ran_own h from c f b l w =
        let many = r.of_desk.many in
        let n : from + message_size - from ≡ message_size = omega arith in
        let g : from ≡ message_size * o = omega arith in
        let m : c.bytes ≡ get_or (messages r.steps) o [] =
        b ∙ ap₂ (λ (k l : ℕ). take k (drop l log)) n g
        ∙ message_at mark start entries others before log s.made r.log_fits.within r.steps (memory s.desk desk) s.window.bytes r.of_desk o h in
        ran_given (c.bytes ∷ []) (ap (λ (m : List ℕ). m ∷ []) m ∙ sym (rw (lt-ltb o (length (messages r.steps)) (omega arith))))
        (subst (WallGiven (memory s.wall wall) (c.bytes ∷ [])) l (one_given c w))

-- ---- along the order

module _ (mark : ℕ) (start : Drawing) (entries others before order : List ℕ) (s : Run) (log desk wall : List ℕ) (j : ℕ) where
  pub ran_next : j < length order → Ran mark start entries others before (take j order ++ (get_or order j 0 ∷ [])) s log desk wall → Ran mark start entries others before (take (j + 1) order) s log desk wall
  ran_next h = subst (λ (l : List ℕ). Ran mark start entries others before l s log desk wall) (sym (take-suc order j 0 h) ∙ ap (λ (n : ℕ). take n order) (sym (add-one j)))

  pub ran_all : length order ≤ j → Ran mark start entries others before (take j order) s log desk wall → Ran mark start entries others before order s log desk wall
  ran_all h = subst (λ (l : List ℕ). Ran mark start entries others before l s log desk wall) (take_all j order h)

-- a run goes on by a number that equals the one that was matched
pub runs_by :
    {o n : ℕ} (entries others : List ℕ) (s : Run) (log desk wall : List ℕ) (r : Run) (log' desk' wall' : List ℕ) → o ≡ n → RunsOn o entries others s log desk wall r log' desk' wall'
    → RunsOn n entries others s log desk wall r log' desk' wall'
runs_by entries others s log desk wall r log' desk' wall' = subst (λ (o : ℕ). RunsOn o entries others s log desk wall r log' desk' wall')
