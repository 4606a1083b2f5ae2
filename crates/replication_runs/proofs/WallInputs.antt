-- What the wall is given, and its life with it.
use mathlib.Core.Path.{◌≡◌, refl, sym, ap, ap₂, ◌∙◌, subst}
use mathlib.Core.Bool.{Bool, true, false}
use mathlib.Core.List.{List, [], ◌∷◌, ◌++◌, map, map-append, append-nil, Memᴰ}
use mathlib.Core.Logic.{◌⊎◌, inl, inr}
use Prim.Native.Nat.{ℕ, zero, suc, ◌+◌, ◌-◌, ◌<◌}
use native.Mathlib.Omega.{arith}
use lib.ListN.{length, take, drop, get_or}
use lib.Dec.{ltb, eqb}
use borrow.Author.Tests.{ltb-true, eq-eqb, ne_eqb, eqb-false}
use Rattle.refusal.specs.Refusals.{Accepted, Refused}
use Rattle.big_endian.specs.Fields.{field, part}
use Rattle.sketch.specs.Lists.{ite}
use Rattle.sketch.specs.Drawing.{Drawing}
use Rattle.message.specs.declared.Message.{Message}
use Rattle.message.specs.Message.{message_fault, message_of, parse}
use Rattle.message.proofs.MessageRoundTrips.{result_accepted, result_refused}
use Rattle.edit_plan.specs.declared.Removed.{Removed}
use Rattle.agreement.specs.Machines.{State, initial, DeskStep, desk_after, messages, WallStepValid, WallEvent, started, delivered, WallLife, Unread, FromDesk, Session, session_at, session_after, session_state}
use Rattle.agreement.proofs.Runs.{wall_after_join}
use Rattle.replication.specs.Protocol.{Edit, protocol}
use Rattle.replication.specs.Transitions.{Memory, state_in, Ready, WallCall, wall_step, WallDelivers}
use Rattle.replication.proofs.TwoDesks.{fault_unread}
use Rattle.replication.proofs.Steps.{Holding, wall_step_lem}
use Rattle.replication_runs.specs.RunBoth.{other_at, if_unread, delivery_at, WallInput, starts_with, receives, input_of}
use Rattle.replication_runs.specs.Clauses.{WallRan, WallGiven, nothing_given, one_given}
use Rattle.replication_runs.proofs.WallLives.{session_join, life_join, from_desk_join, from_desk_later}

-- ---- other bytes, by their parts

pub other_is :
    (others : List ℕ) (at : ℕ) {from body r : List ℕ} {k : ℕ} → from ≡ drop at others → body ≡ drop 2 from → k ≡ field from 0 2 → r ≡ take k body → r ≡ other_at others at
other_is others at e f g h = h ∙ ap₂ (λ (k : ℕ) (l : List ℕ). take k l) g f ∙ ap (λ (l : List ℕ). part l 2 (field l 0 2)) e

-- they are passed over where they are read, else delivered
pub given_read : (s : Memory) (m : List ℕ) (x : Message) → parse s.mark m ≡ Accepted x → WallGiven s (if_unread s.mark m) s
given_read s m x e =
    let z = (result_accepted (message_fault s.mark m) (message_of m) x e).0 in
    subst (λ (l : List (List ℕ)). WallGiven s l s) (sym (rw (eq-eqb (message_fault s.mark m) 0 z))) nothing_given

pub given_unread : (s : Memory) (m : List ℕ) (k : ℕ) → parse s.mark m ≡ Refused k → (c : WallCall) → c.bytes ≡ m → WallDelivers s c → WallGiven s (if_unread s.mark m) c.left
given_unread s m k e c b w =
    let (is, above) = result_refused (message_fault s.mark m) (message_of m) k e in
    subst (λ (l : List (List ℕ)). WallGiven s l c.left) (ap (λ (m : List ℕ). m ∷ []) b ∙ sym (rw (ne_eqb (message_fault s.mark m) 0 (λ z. above (is ∙ z))))) (one_given c w)

-- ---- each delivery that a number names is one of the messages or is not read

member : (ms : List (List ℕ)) (o : ℕ) → o < length ms → Memᴰ (get_or ms o []) ms
member [] o h = absurd (omega arith)
member (m ∷ ms) zero h = Memᴰ.head refl
member (m ∷ ms) (suc o) h = Memᴰ.tail (member ms o (omega arith))

abbrev AllFrom : ℕ → List (List ℕ) → List (List ℕ) → Type 0
AllFrom mark ms [] = Unit {0}
AllFrom mark ms (m ∷ l) = (Memᴰ m ms ⊎ Unread (protocol mark) m) × AllFrom mark ms l

module _ (mark : ℕ) (ms : List (List ℕ)) (others : List ℕ) where
  other_from : (m : List ℕ) (b : Bool) → eqb (message_fault mark m) 0 ≡ b → AllFrom mark ms (ite b [] (m ∷ []))
  other_from m true e = tt
  other_from m false e = (inr (fault_unread mark m (eqb-false (message_fault mark m) 0 e)), tt)

  pub delivery_from : (o : ℕ) → AllFrom mark ms (delivery_at mark ms others o)
  delivery_from o = go (ltb o (length ms)) refl
    where
      go : (b : Bool) → ltb o (length ms) ≡ b → AllFrom mark ms (ite b (get_or ms o [] ∷ []) (if_unread mark (other_at others (o - length ms))))
      go true e = (inl (member ms o (ltb-true o (length ms) e)), tt)
      go false e = other_from (other_at others (o - length ms)) (eqb (message_fault mark (other_at others (o - length ms))) 0) refl

-- ---- the wall's life with one event more

module _ (mark : ℕ) (start : Drawing) where
  abbrev first_session : Session Drawing Removed
  first_session = record { start = initial start; deliveries = [] }

  pub wall_ran_none : (steps : List (DeskStep Drawing Edit Removed)) (t : Memory) → Holding mark t (initial start) → WallRan mark start steps [] t
  wall_ran_none steps t h = record { life = []; lived = tt; from = tt; fed = refl; ends = sym h.state; mark_is = h.mark_is; ready = h.ready }

  module _ (steps : List (DeskStep Drawing Edit Removed)) (inputs : List WallInput) (s : Memory) (r : WallRan mark start steps inputs s) where
    -- the wall's half stays as it is where the desk goes on
    pub wall_ran_later : (later : List (DeskStep Drawing Edit Removed)) → WallRan mark start (steps ++ later) inputs s
    wall_ran_later later =
        record { life = r.life; lived = r.lived; from = from_desk_later (protocol mark) (initial start) steps later r.life r.from; fed = r.fed; ends = r.ends; mark_is = r.mark_is; ready = r.ready }

    more :
        (e : WallEvent Drawing Removed) (t : Memory) → WallLife (protocol mark) (session_state (session_at start r.life)) (e ∷ []) → FromDesk (protocol mark) (initial start) steps (e ∷ [])
        → session_state (session_after (session_at start r.life) (e ∷ [])) ≡ state_in t → t.mark ≡ mark → Ready t → WallRan mark start steps (inputs ++ (input_of e ∷ [])) t
    more e t l f n m v =
        record {
          life = r.life ++ (e ∷ []);
          lived = life_join (protocol mark) first_session r.life (e ∷ []) r.lived l;
          from = from_desk_join (protocol mark) (initial start) steps r.life (e ∷ []) r.from f;
          fed = map-append input_of r.life (e ∷ []) ∙ ap (λ (l : List WallInput). l ++ (input_of e ∷ [])) r.fed;
          ends = ap session_state (session_join first_session r.life (e ∷ [])) ∙ n;
          mark_is = m;
          ready = v;
        }

    -- the wall is started with the state that the desk has
    pub wall_ran_started : (u : State Drawing) → u ≡ desk_after (initial start) steps → (t : Memory) → Holding mark t u → WallRan mark start steps (inputs ++ (starts_with u ∷ [])) t
    wall_ran_started u e t h = more (started u) t tt ((steps, [], sym (append-nil steps), e), tt) (sym h.state) h.mark_is h.ready

    -- the wall is given one delivery, or none
    pub wall_ran_given : (ds : List (List ℕ)) (t : Memory) → AllFrom mark (messages steps) ds → WallGiven s ds t → WallRan mark start steps (inputs ++ map receives ds) t
    wall_ran_given ds t f nothing_given = subst (λ (l : List WallInput). WallRan mark start steps l s) (sym (append-nil inputs)) r
    wall_ran_given ds t f (one_given c w) =
        let (valid, left) = wall_step_lem s r.ready c w in
        let step : WallStepValid (protocol mark) (session_state (session_at start r.life)) (wall_step c) =
        subst (λ (u : State Drawing). WallStepValid (protocol mark) u (wall_step c)) (sym r.ends) (subst (λ (k : ℕ). WallStepValid (protocol k) (state_in s) (wall_step c)) r.mark_is valid) in
        let g = session_at start r.life in
        more (delivered (wall_step c)) c.left (step, tt) (f.0, tt) (wall_after_join g.start g.deliveries (wall_step c ∷ [])) (left.1 ∙ r.mark_is) left.0
