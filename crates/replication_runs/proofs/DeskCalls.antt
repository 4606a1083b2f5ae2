-- The desk makes its calls one after the other: its messages stand one after the other in the log, and the last of them in its window.
use mathlib.Core.Path.{◌≡◌, refl, sym, ap, ap₂, ◌∙◌, subst, subst₂}
use mathlib.Core.List.{List, [], ◌∷◌, ◌++◌, map-append, append-nil, append_assoc}
use Prim.Native.Nat.{ℕ, ◌+◌, ◌*◌, ◌-◌, ◌≤◌}
use native.Mathlib.Omega.{arith}
use native.Mathlib.Nat.{zero-add}
use lib.ListN.{length, take, drop, length-append, length-take, take-append-drop}
use lib.Seq.{drop-append-add, drop-append-le, drop-append_seam, drop-drop, take-append-le, take-append-add}
use lib.Dec.{leb}
use borrow.Author.Tests.{leb-true}
use borrow.Rule.Slice.PartMut.{mid_of, put_mid, put_same, same_len_mid, mid_len}
use Rattle.big_endian.specs.Fields.{over}
use Rattle.big_endian.specs.Laws.{length_over}
use Rattle.sketch.specs.Drawing.{Drawing}
use Rattle.message.specs.Message.{message_size, encode}
use Rattle.message.specs.Stored.{Mark}
use Rattle.message.proofs.MessageRoundTrips.{length_message}
use Rattle.window.specs.Window.{empty_window}
use Rattle.window.specs.KeptMessages.{concat, Numbered, KeepsLast}
use Rattle.window.proofs.KeptMessages.{numbered_none, keeps_none}
use Rattle.cuts.specs.Lists.{rows}
use Rattle.edit_plan.specs.declared.Removed.{Removed}
use Rattle.edit_plan.specs.Outcome.{accepted}
use Rattle.edit_plan.proofs.Tables.{Holds}
use Rattle.modify.proofs.Planned.{guard_accepted}
use Rattle.agreement.specs.Machines.{State, initial, message, Call, call_outcome, DeskStep, DeskStepValid, DeskRun, desk_after, prepend_message, messages}
use Rattle.agreement.proofs.Reference.{Step, called}
use Rattle.agreement.proofs.Runs.{messages_join}
use Rattle.replication.specs.DeskReply.{DeskReply}
use Rattle.replication.specs.Protocol.{Edit, message_for, protocol}
use Rattle.replication.specs.Outcomes.{CallOutcome, updated, message_after}
use Rattle.replication.specs.Transitions.{Memory, state_in, memory_after, DeskCall, desk_reply, desk_step, desk_reply_to, DeskEdits}
use Rattle.replication.proofs.CatchUps.{kept_next}
use Rattle.replication.proofs.Steps.{Holding, DeskCase, desk_refused_lem, desk_updated, desk_case, desk_step_lem, message_front}
use Rattle.replication_runs.specs.RunBoth.{call_at}
use Rattle.replication_runs.specs.Clauses.{DeskRan}

-- ---- lists that grow at their end

concat_append : (xs ys : List (List ℕ)) → concat (xs ++ ys) ≡ concat xs ++ concat ys
concat_append [] ys = refl
concat_append (m ∷ xs) ys = ap (λ (l : List ℕ). m ++ l) (concat_append xs ys) ∙ sym (append_assoc m (concat xs) (concat ys))

desk_more : (mark : ℕ) (s : State Drawing) (xs : List (DeskStep Drawing Edit Removed)) (x : DeskStep Drawing Edit Removed) → DeskRun (protocol mark) s xs → DeskStepValid (protocol mark) (desk_after s xs) x → DeskRun (protocol mark) s (xs ++ (x ∷ []))
desk_more mark s [] x h y = (y, tt)
desk_more mark s (u ∷ xs) x h y = (h.0, desk_more mark u.state xs x h.1 y)

desk_after_more : (s : State Drawing) (xs : List (DeskStep Drawing Edit Removed)) (x : DeskStep Drawing Edit Removed) → desk_after s (xs ++ (x ∷ [])) ≡ x.state
desk_after_more s [] x = refl
desk_after_more s (u ∷ xs) x = desk_after_more u.state xs x

-- ---- the message of an accepted call

-- an accepted call was lent the room for its message, and its number is the next one
room_of : (mark : ℕ) (s : State Drawing) (c : Call Edit) (t : State Drawing) (q : Removed) → call_outcome (protocol mark) s c ≡ accepted t q → (message_size ≤ c.room) × Step (protocol mark) s c.edit t q
room_of mark s c t q e =
    let k : Holds (Step (protocol mark) s c.edit) (accepted t q) = subst (Holds (Step (protocol mark) s c.edit)) e (called (protocol mark) s c) in
    (leb-true message_size c.room (guard_accepted (leb message_size c.room) 25 _ t q e).0, k)

-- a message written over the front of a part leaves what lies behind it
rest_after :
    (log msg : List ℕ) (from room : ℕ) (p : List ℕ) → from ≤ length log → length msg ≤ length (mid_of from room log) → p ≡ over (mid_of from room log) 0 msg
    → drop (from + length msg) (put_mid from room log p) ≡ drop (from + length msg) log
unfolding over
rest_after log msg from room p h k e =
    let part = take room (drop from log) in
    let behind = drop room (drop from log) in
    let n : length (take from log) ≡ from = length-take from log ∙ omega arith in
    let front : drop (from + length msg) (take from log ++ (p ++ behind)) ≡ drop (length msg) (p ++ behind) =
    ap (λ (m : ℕ). drop (m + length msg) (take from log ++ (p ++ behind))) (sym n) ∙ drop-append-add (take from log) (p ++ behind) (length msg) in
    let same : drop (length msg) (p ++ behind) ≡ drop (length msg) part ++ behind =
    ap (λ (l : List ℕ). drop (length msg) (l ++ behind)) (e ∙ ap (λ (k : ℕ). msg ++ drop k part) (zero-add (length msg)))
    ∙ ap (drop (length msg)) (append_assoc msg (drop (length msg) part) behind)
    ∙ drop-append_seam msg (drop (length msg) part ++ behind) in
    front ∙ same ∙ sym (drop-append-le (length msg) part behind k) ∙ ap (drop (length msg)) (take-append-drop room (drop from log)) ∙ drop-drop (length msg) from log

-- what is put into a part stands behind what lies before the part
front_after : (log p : List ℕ) (from room k : ℕ) → from ≤ length log → k ≤ length p → take (from + k) (put_mid from room log p) ≡ take from log ++ take k p
front_after log p from room k h l =
    let behind = drop room (drop from log) in
    let n : length (take from log) ≡ from = length-take from log ∙ omega arith in
    ap (λ (m : ℕ). take (m + k) (take from log ++ (p ++ behind))) (sym n) ∙ take-append-add (take from log) (p ++ behind) k ∙ ap (λ (l : List ℕ). take from log ++ l) (take-append-le k p behind l)

-- a part that lies in a list is as long as it says
pub part_long : (log : List ℕ) (from room : ℕ) → from + room ≤ length log → length (mid_of from room log) ≡ room
part_long log from room h = let n : from + room - from ≡ room = omega arith in subst (λ (k : ℕ). length (mid_of from k log) ≡ k) n (mid_len from (from + room) log h)

-- ---- the desk before its first call

pub desk_ran_none : (mark : ℕ) (start : Drawing) (entries log : List ℕ) (s : Memory) → Holding mark s (initial start) → DeskRan mark start [] (rows 0 (call_at entries)) log log s empty_window
unfolding rows
desk_ran_none mark start entries log s h =
    let z : s.count ≡ 0 = ap (λ (t : State Drawing). t.count) h.state in
    let n : message_size * s.count ≡ 0 = omega arith in
    record {
      run = tt;
      fed = refl;
      ends = sym h.state;
      mark_is = h.mark_is;
      ready = h.ready;
      logged = sym (ap (λ (k : ℕ). take k log) n);
      rest = refl;
      fits = omega arith;
      many = sym z;
      few = omega arith;
      numbered = numbered_none mark;
      keeps = keeps_none;
    }

-- ---- one call more

module _
    (mark : ℕ) (k : Mark mark) (start : Drawing) (steps : List (DeskStep Drawing Edit Removed)) (cs : List (Call Edit)) (before log : List ℕ) (w : Memory) (kept : List ℕ)
    (r : DeskRan mark start steps cs before log w kept)
  where
    -- the call is known by its step, and by what it sent, which is nothing or its message
    by_step :
        (c : DeskCall) → DeskEdits w kept c → (sent : List (List ℕ)) → prepend_message (desk_step c).reply [] ≡ sent
        → (l : List ℕ) → concat (messages steps) ++ concat sent ≡ take (message_size * c.left.count) l
        → drop (message_size * c.left.count) l ≡ drop (message_size * c.left.count) before → message_size * c.left.count ≤ length l
        → length (messages steps) + length sent ≡ c.left.count → c.left.count ≤ length cs + 1
        → DeskRan mark start (steps ++ (desk_step c ∷ [])) (cs ++ ((desk_step c).call ∷ [])) before l c.left c.window
    by_step c step sent e l lg rs ft mn fw =
        let mm : messages (steps ++ (desk_step c ∷ [])) ≡ messages steps ++ sent = messages_join steps (desk_step c ∷ []) ∙ ap (λ (l : List (List ℕ)). messages steps ++ l) e in
        let (valid, left) = desk_step_lem w r.ready kept c step in
        let known = kept_next w r.ready (subst Mark (sym r.mark_is) k) kept (messages steps) (record { numbered = subst (λ (n : ℕ). Numbered n (messages steps)) (sym r.mark_is) r.numbered; keeps = r.keeps; many = sym r.many }) c step in
        let mk = messages_join steps (desk_step c ∷ []) in
        record {
          run = desk_more mark (initial start) steps (desk_step c) r.run (subst₂ (λ (k : ℕ) (u : State Drawing). DeskStepValid (protocol k) u (desk_step c)) r.mark_is (sym r.ends) valid);
          fed = map-append (λ (x : DeskStep Drawing Edit Removed). x.call) steps (desk_step c ∷ []) ∙ ap (λ (l : List (Call Edit)). l ++ ((desk_step c).call ∷ [])) r.fed;
          ends = desk_after_more (initial start) steps (desk_step c);
          mark_is = left.1 ∙ r.mark_is;
          ready = left.0;
          logged = ap concat mm ∙ concat_append (messages steps) sent ∙ lg;
          rest = rs;
          fits = ft;
          many = ap length mm ∙ length-append (messages steps) sent ∙ mn;
          few = omega (arith, length-append cs ((desk_step c).call ∷ []));
          numbered = subst₂ Numbered (left.1 ∙ r.mark_is) (sym mk) known.numbered;
          keeps = subst (KeepsLast c.window) (sym mk) known.keeps;
        }

    -- the room that is lent for its message is a part of the log, behind the messages so far
    module _ (e : Edit) (room : ℕ) (fits : message_size * w.count + room ≤ length log) where
      abbrev from : ℕ
      from = message_size * w.count

      abbrev lent : List ℕ
      lent = mid_of from room log

      abbrev call_of : Memory → DeskReply → List ℕ → List ℕ → DeskCall
      call_of y t p w' = record { edit = e; before = lent; after = p; left = y; window = w'; reply = t }

      pub desk_ran_more :
          (y : Memory) (t : DeskReply) (p w' : List ℕ) (step : DeskEdits w kept (call_of y t p w'))
          → DeskRan mark start (steps ++ (desk_step (call_of y t p w') ∷ [])) (cs ++ (record { edit = e; room = length lent } ∷ [])) before (put_mid from room log p) y w'
          × (length (put_mid from room log p) ≡ length log)
      desk_ran_more y t p w' step = go (desk_case w r.ready e (length lent))
        where
          go :
              DeskCase w r.ready e (length lent)
              → DeskRan mark start (steps ++ (desk_step (call_of y t p w') ∷ [])) (cs ++ (record { edit = e; room = length lent } ∷ [])) before (put_mid from room log p) y w'
              × (length (put_mid from room log p) ≡ length log)
          go (desk_refused_lem n g o) =
              let left : y ≡ w = step.left_is ∙ ap (λ (v : CallOutcome). memory_after v w) g in
              let reply = step.reply_is ∙ ap desk_reply_to g in
              let c : y.count ≡ w.count = ap (λ (m : Memory). m.count) left in
              let l : put_mid from room log p ≡ log = ap (put_mid from room log) (step.message_is ∙ ap (λ (v : CallOutcome). message_after w.mark v e lent) g) ∙ put_same from room log in (
                by_step (call_of y t p w') step [] (ap (λ (r : DeskReply). prepend_message (desk_reply r (take message_size p)) []) reply) (put_mid from room log p)
                    (append-nil (concat (messages steps)) ∙ r.logged ∙ ap₂ (λ (n : ℕ) (l : List ℕ). take (message_size * n) l) (sym c) (sym l))
                    (ap₂ (λ (n : ℕ) (l : List ℕ). drop (message_size * n) l) c l ∙ r.rest ∙ sym (ap (λ (n : ℕ). drop (message_size * n) before) c))
                    (omega (arith, ap length l, r.fits)) (omega (arith, r.many)) (omega (arith, r.few)),
                ap length l,
              )
          go (desk_updated u q g o v) =
              let (le, s) = room_of w.mark (state_in w) (record { edit = e; room = length lent }) u q o in
              let msg = encode w.mark (message_for u.count e) in
              let left : y ≡ memory_after (updated u q) w = step.left_is ∙ ap (λ (v : CallOutcome). memory_after v w) g in
              let reply = step.reply_is ∙ ap desk_reply_to g in
              let c : y.count ≡ w.count + 1 = ap (λ (m : Memory). m.count) left ∙ s.next in
              let wr : p ≡ over lent 0 msg = step.message_is ∙ ap (λ (v : CallOutcome). message_after w.mark v e lent) g in
              let is : take message_size p ≡ msg = ap (take message_size) wr ∙ message_front w.mark lent (message_for u.count e) in
              let lm : length msg ≡ message_size = length_message w.mark (message_for u.count e) in
              let lp : length p ≡ length lent = ap length wr ∙ length_over lent 0 msg (omega arith) in
              let ll : length (put_mid from room log p) ≡ length log = same_len_mid from room log p lp in
              let n2 : from + message_size ≡ message_size * y.count = omega arith in
              let n3 : from + length msg ≡ message_size * y.count = omega arith in (
                by_step (call_of y t p w') step (take message_size p ∷ []) (ap (λ (r : DeskReply). prepend_message (desk_reply r (take message_size p)) []) reply) (put_mid from room log p)
                    (ap₂ (λ (a b : List ℕ). a ++ b) r.logged (append-nil (take message_size p)) ∙ sym (front_after log p from room message_size r.fits (omega arith))
                    ∙ ap (λ (n : ℕ). take n (put_mid from room log p)) n2)
                    (ap (λ (n : ℕ). drop n (put_mid from room log p)) (sym n3) ∙ rest_after log msg from room p r.fits (omega arith) wr
                    ∙ sym (drop-drop (length msg) from log) ∙ ap (drop (length msg)) r.rest ∙ drop-drop (length msg) from before ∙ ap (λ (n : ℕ). drop n before) n3)
                    (omega (arith, part_long log from room fits)) (omega (arith, r.many)) (omega (arith, r.few)),
                ll,
              )
