-- The claim from bytes: one accepted image and one mark, any list of the desk's calls, any life of the wall: starts, each from an image and count that the desk had, and deliveries, of
-- which each is one of its messages or is not read, as whatever bears another mark (`foreign_unread`).
use mathlib.Core.Path.{◌≡◌, refl, sym, ap, ◌∙◌, subst, subst₂}
use mathlib.Core.List.{List, [], ◌∷◌, ◌++◌, map, map-append}
use Prim.Native.Nat.{ℕ}
use native.Mathlib.Omega.{arith}
use lib.ListN.{length, take}
use lib.Seq.{take_all}
use Rattle.big_endian.specs.Laws.{Bytes}
use Rattle.sketch.specs.Drawing.{Drawing, limits}
use Rattle.sketch.specs.Facts.{Valid}
use Rattle.sketch.proofs.Facts.{fault_valid}
use Rattle.image.specs.Image as I
use Rattle.message.specs.Stored.{Mark}
use Rattle.image.proofs.RoundTrips as T
use Rattle.relations.specs.Met.{all_met}
use Rattle.edit_plan.specs.declared.Removed.{Removed}
use Rattle.edit_plan.specs.Outcome.{accepted}
use Rattle.agreement.specs.Machines.{State, initial, DeskStep, calls, desk_after, DeskRun, DeskHad, WallStepValid, WallEvent, WallLife, FromDesk, session_at, session_state}
use Rattle.agreement.specs.Agreement.{state_at, desk_log}
use Rattle.agreement.specs.Families.{reports}
use Rattle.agreement.proofs.Reference.{linked, last_entry}
use Rattle.chains.proofs.Edits.{planned_demand_3}
use Rattle.replication.specs.Protocol.{Edit, protocol, target}
use Rattle.replication.specs.Transitions.{Memory, image_in, state_in, Ready, StartsWith, DeskCall, desk_step, DeskCalls, memory_left, wall_step, WallUse, starts, delivers, WallUses, StartsFromDesk, UsesFromDesk, wall_event}
use Rattle.replication.specs.Replication.{ReplicationCorrect}
use Rattle.replication.proofs.Decoding.{planned, read}
use Rattle.replication.proofs.Folded.{folded}
use Rattle.replication.proofs.StartCases.{held_valid, held_at_start}
use Rattle.replication.proofs.Steps.{Holding, Leaves, desk_step_lem, wall_step_lem}

-- from a valid drawing
pub replication_correct :
    (mark : ℕ) → Mark mark → (start : Drawing) (desk : List (DeskStep Drawing Edit Removed)) (life : List (WallEvent Drawing Removed)) → Valid limits start
    → DeskRun (protocol mark) (initial start) desk → WallLife (protocol mark) (initial start) life → FromDesk (protocol mark) (initial start) desk life
    → ReplicationCorrect mark start desk life
replication_correct mark k start desk life v dr wl fd =
    let g = planned_demand_3 target all_met limits (protocol mark) planned (read mark k) start desk v dr life wl fd in
    record {
      demand = g;
      desk_drawing = λ before later q.
          let l = desk_log (protocol mark) start before in
          let ends : state_at (initial start) l (length l) ≡ desk_after (initial start) before = last_entry (protocol mark) (initial start) (calls before) ∙ sym (g.agreement.desk_state before later q) in
          let whole : take (length l) l ≡ l = take_all (length l) l (omega arith) in
          rw whole at (folded mark (initial start) l (length l) (linked (protocol mark) (initial start) (calls before)))
          ∙ ap (λ (t : State Drawing). accepted t.drawing (reports l)) ends;
      wall_drawing = λ before later q.
          let l = desk_log (protocol mark) start desk in
          let n = (session_state (session_at start before)).count in
          folded mark (initial start) l n (linked (protocol mark) (initial start) (calls desk))
          ∙ ap (λ (t : State Drawing). accepted t.drawing (reports (take n l))) (sym (g.agreement.always before later q).state);
    }

-- from an accepted image's bytes
pub demand_3 :
    (image : List ℕ) → Bytes image → (mark : ℕ) → Mark mark → (start : Drawing) → I.parse image ≡ I.accepted start
    → (desk : List (DeskStep Drawing Edit Removed)) (life : List (WallEvent Drawing Removed))
    → DeskRun (protocol mark) (initial start) desk → WallLife (protocol mark) (initial start) life → FromDesk (protocol mark) (initial start) desk life
    → ReplicationCorrect mark start desk life
demand_3 image b mark k start e desk life = replication_correct mark k start desk life (fault_valid limits start (T.valid image start b e))

-- ---- the same over what the functions ensure: the desk

pub desk_run : (m : Memory) (kept : List ℕ) (cs : List DeskCall) → Ready m → DeskCalls m kept cs → DeskRun (protocol m.mark) (state_in m) (map desk_step cs)
desk_run m kept [] v h = tt
desk_run m kept (c ∷ cs) v h =
    let (valid, left) = desk_step_lem m v kept c h.0 in
    (valid, subst (λ (k : ℕ). DeskRun (protocol k) (state_in c.left) (map desk_step cs)) left.1 (desk_run c.left c.window cs left.0 h.1))

-- what it leaves
pub desk_left_lem : (m : Memory) (kept : List ℕ) (cs : List DeskCall) → Ready m → DeskCalls m kept cs → Leaves m (memory_left m cs)
desk_left_lem m kept [] v h = (v, refl)
desk_left_lem m kept (c ∷ cs) v h =
    let (valid, left) = desk_step_lem m v kept c h.0 in
    let (ready, same) = desk_left_lem c.left c.window cs left.0 h.1 in
    (ready, same ∙ left.1)

pub desk_after_lem : (m : Memory) (cs : List DeskCall) → desk_after (state_in m) (map desk_step cs) ≡ state_in (memory_left m cs)
desk_after_lem m [] = refl
desk_after_lem m (c ∷ cs) = desk_after_lem c.left cs

pub desk_calls_front : (m : Memory) (kept : List ℕ) (cs ds : List DeskCall) → DeskCalls m kept (cs ++ ds) → DeskCalls m kept cs
desk_calls_front m kept [] ds h = tt
desk_calls_front m kept (c ∷ cs) ds h = (h.0, desk_calls_front c.left c.window cs ds h.1)

-- ---- the wall

module _ (d : Memory) (kept : List ℕ) (desk : List DeskCall) (v : Ready d) (dc : DeskCalls d kept desk) where
  -- a start from what the desk had
  pub started_holds :
      (t : Memory) (front later : List DeskCall) → desk ≡ front ++ later → StartsWith (image_in (memory_left d front)) d.mark (memory_left d front).count t
      → Holding d.mark t (state_in (memory_left d front))
  started_holds t front later q h =
      let (r, same) = desk_left_lem d kept front v (desk_calls_front d kept front later (subst (DeskCalls d kept) q dc)) in
      held_valid (image_in (memory_left d front)) d.mark (memory_left d front).count (state_in (memory_left d front)).drawing r.valid r.image_is t h

  pub started_had : (t : Memory) → StartsFromDesk d desk t → Leaves d t × DeskHad (state_in d) (map desk_step desk) (state_in t)
  started_had t (front, later, q, h) =
      let s = started_holds t front later q h in
      ((s.ready, s.mark_is), (map desk_step front, map desk_step later, ap (map desk_step) q ∙ map-append desk_step front later, s.state ∙ sym (desk_after_lem d front)))

  pub wall_life : (m : Memory) (us : List WallUse) → Leaves d m → WallUses m us → UsesFromDesk d desk us → WallLife (protocol d.mark) (state_in m) (map wall_event us)
  wall_life m [] l h f = tt
  wall_life m (starts t ∷ us) l h f = wall_life t us (started_had t f.0).0 h f.1
  wall_life m (delivers c ∷ us) l h f =
      let (valid, left) = wall_step_lem m l.0 c h.0 in
      (subst (λ (k : ℕ). WallStepValid (protocol k) (state_in m) (wall_step c)) l.1 valid, wall_life c.left us (left.0, left.1 ∙ l.1) h.1 f.1)

  pub from_desk : (us : List WallUse) → UsesFromDesk d desk us → FromDesk (protocol d.mark) (state_in d) (map desk_step desk) (map wall_event us)
  from_desk [] f = tt
  from_desk (starts t ∷ us) f = ((started_had t f.0).1, from_desk us f.1)
  from_desk (delivers c ∷ us) f = (f.0, from_desk us f.1)

-- from a start
pub calls_demand_3 :
    (image : List ℕ) → Bytes image → (mark : ℕ) → Mark mark → (start : Drawing) → I.parse image ≡ I.accepted start
    → (d w : Memory) → StartsWith image mark 0 d → StartsWith image mark 0 w
    → (kept : List ℕ) (desk : List DeskCall) (wall : List WallUse) → DeskCalls d kept desk → WallUses w wall → UsesFromDesk d desk wall
    → ReplicationCorrect mark start (map desk_step desk) (map wall_event wall)
calls_demand_3 image b mark k start e d w sd sw kept desk wall dc wu uf =
    let h = held_at_start image b mark 0 start e d sd in
    let g = held_at_start image b mark 0 start e w sw in
    demand_3 image b mark k start e (map desk_step desk) (map wall_event wall)
    (subst₂ (λ (k : ℕ) (t : State Drawing). DeskRun (protocol k) t (map desk_step desk)) h.mark_is h.state (desk_run d kept desk h.ready dc))
    (subst₂ (λ (k : ℕ) (t : State Drawing). WallLife (protocol k) t (map wall_event wall)) h.mark_is g.state
    (wall_life d kept desk h.ready dc w wall (g.ready, g.mark_is ∙ sym h.mark_is) wu uf))
    (subst₂ (λ (k : ℕ) (t : State Drawing). FromDesk (protocol k) t (map desk_step desk) (map wall_event wall)) h.mark_is h.state (from_desk d kept desk h.ready dc wall uf))
