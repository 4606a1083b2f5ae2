-- Two desks with different marks, walls that hear both: each wall agrees with its own desk (`two_desks`). Assumes nothing.
use mathlib.Core.Path.{◌≡◌, refl, sym, ap, ◌∙◌, subst, subst₂}
use mathlib.Core.List.Memᴰ
use mathlib.Core.List.{List, [], ◌∷◌, map, Memᴰ}
use mathlib.Core.Logic.{◌⊎◌, inl, inr, ⊎_elim}
use Prim.Native.Nat.{ℕ}
use Rattle.sketch.specs.Drawing.{Drawing}
use Rattle.message.specs.Message.{mark_of, message_fault, encode}
use Rattle.message.specs.Stored.{Mark}
use Rattle.message.proofs.MessageRoundTrips.{fault_refused, foreign_fault, mark_written}
use Rattle.edit_plan.specs.declared.Removed.{Removed}
use Rattle.window.specs.Window.{empty_window}
use Rattle.agreement.specs.Machines.{State, initial, Entry, accepted_log, calls, messages, DeskRun, Unread}
use Rattle.agreement.proofs.Runs.{written, desk_messages}
use Rattle.replication.specs.Protocol.{Edit, message_for, decoded_of, protocol}
use Rattle.replication.specs.Transitions.{Memory, WallUse, starts, delivers, StartsFromDesk, UsesFromDesk}
use Rattle.replication.specs.TwoDesks.{DeskAndWall, desk_steps, StartedAlike, Hears, HearsBoth, AgreesWithOwn}
use Rattle.replication.proofs.StartCases.{held_at_start}
use Rattle.replication.proofs.Demand3.{desk_run, calls_demand_3}

-- ---- what is faulty at a mark is not read, and so what bears another, whatever else it is

pub fault_unread : (mark : ℕ) (s : List ℕ) → (message_fault mark s ≡ 0 → ⊥) → Unread (protocol mark) s
unfolding decoded_of
fault_unread mark s h = (message_fault mark s, ap decoded_of (fault_refused mark s h))

pub foreign_unread : (mark : ℕ) (s : List ℕ) → (mark_of s ≡ mark → ⊥) → Unread (protocol mark) s
foreign_unread mark s ne = fault_unread mark s (foreign_fault mark s ne)

-- an entry's message at another mark
entry_unread : (mark other : ℕ) → Mark other → (other ≡ mark → ⊥) → (x : Entry Drawing Edit Removed) → Unread (protocol mark) (written (protocol other) x)
entry_unread mark other k ne x =
    let m = message_for x.after.count x.edit in
    foreign_unread mark (encode other m) (λ e. ne (sym (mark_written other k m) ∙ e))

log_unread :
    (mark other : ℕ) → Mark other → (other ≡ mark → ⊥) → (l : List (Entry Drawing Edit Removed)) (m : List ℕ) → Memᴰ m (map (written (protocol other)) l)
    → Unread (protocol mark) m
log_unread mark other k ne [] m q = absurd (Memᴰ.not-nil q)
log_unread mark other k ne (x ∷ l) m q =
    ⊎_elim (λ e. subst (Unread (protocol mark)) (sym e) (entry_unread mark other k ne x)) (log_unread mark other k ne l m) (Memᴰ.cases_cons q)

-- ---- a wall that hears a second desk

heard :
    (p : DeskAndWall) (others : List (List ℕ)) → ((m : List ℕ) → Memᴰ m others → Unread (protocol p.desk.mark) m)
    → (us : List WallUse) → ((t : Memory) → Memᴰ (starts t) us → StartsFromDesk p.desk p.desk_calls t) → Hears (messages (desk_steps p)) others us
    → UsesFromDesk p.desk p.desk_calls us
heard p others f [] g h = tt
heard p others f (starts t ∷ us) g h = (g t (Memᴰ.head refl), heard p others f us (λ s q. g s (Memᴰ.tail q)) h)
heard p others f (delivers c ∷ us) g h = (⊎_elim inl (λ q. inr (f c.bytes q)) h.0, heard p others f us (λ s q. g s (Memᴰ.tail q)) h.1)

pub hears_a_neighbour : (p q : DeskAndWall) → StartedAlike p → StartedAlike q → (q.mark ≡ p.mark → ⊥) → HearsBoth p q → AgreesWithOwn p
hears_a_neighbour p q sp sq ne h =
    let at = held_at_start q.image sq.image_bytes q.mark 0 q.start sq.image_is q.desk sq.desk_starts in
    let run = subst₂ (λ (k : ℕ) (t : State Drawing). DeskRun (protocol k) t (desk_steps q)) at.mark_is at.state (desk_run q.desk empty_window q.desk_calls at.ready sq.desk_called) in
    let written_as = desk_messages (protocol q.mark) (initial q.start) (desk_steps q) run in
    let apart : q.mark ≡ p.desk.mark → ⊥ = λ e. ne (e ∙ sp.desk_starts.mark_is) in
    let foreign : (m : List ℕ) → Memᴰ m (messages (desk_steps q)) → Unread (protocol p.desk.mark) m = λ m e.
    log_unread p.desk.mark q.mark sq.mark_fits apart (accepted_log (protocol q.mark) (initial q.start) (calls (desk_steps q))) m (subst (Memᴰ m) written_as e) in
    calls_demand_3 p.image sp.image_bytes p.mark sp.mark_fits p.start sp.image_is p.desk p.wall sp.desk_starts sp.wall_starts
    empty_window p.desk_calls p.wall_uses sp.desk_called sp.wall_used
    (heard p (messages (desk_steps q)) foreign p.wall_uses sp.started_from h)

pub two_desks : (p q : DeskAndWall) → StartedAlike p → StartedAlike q → (p.mark ≡ q.mark → ⊥) → HearsBoth p q → HearsBoth q p → AgreesWithOwn p × AgreesWithOwn q
two_desks p q sp sq ne hp hq = (hears_a_neighbour p q sp sq (λ e. ne (sym e)) hp, hears_a_neighbour q p sq sp ne hq)
