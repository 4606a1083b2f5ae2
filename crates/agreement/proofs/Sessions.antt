-- A wall's life, session by session: in each the wall was started with a state that the desk had, and then had its deliveries one after the other (`session_valid`).
use mathlib.Core.Path.{◌≡◌, refl, sym, ap, ◌∙◌, subst}
use mathlib.Core.List.{List, [], ◌∷◌, ◌++◌, map, append-nil, append_assoc}
use Prim.Native.Nat.{ℕ, ◌-◌}
use native.Mathlib.Omega.{arith}
use lib.ListN.{take}
use Rattle.agreement.specs.Machines.{State, initial, Protocol, DeskStep, messages, WallStep, WallRun, Delivered, DeskHad, WallEvent, started, delivered, WallLife, FromDesk, Session, session_after, session_at, session_state}
use Rattle.agreement.specs.Agreement.{desk_log, entries_between}
use Rattle.agreement.proofs.Runs.{wall_join, wall_after_join, delivered_join}

module _ {D E R : Type 0} (p : Protocol D E R) (s : State D) (desk : List (DeskStep D E R)) where
  pub record SessionValid (g : Session D R) : Type 0 where
    pub had : DeskHad s desk g.start
    pub run : WallRun p g.start g.deliveries
    pub given : Delivered p (messages desk) g.deliveries

  -- what comes in a session after some events: the session is valid, and the rest of the life goes on from it
  pub record Goes (g : Session D R) (later : List (WallEvent D R)) : Type 0 where
    pub valid : SessionValid g
    pub life : WallLife p (session_state g) later
    pub from : FromDesk p s desk later

  next : (g : Session D R) (e : WallEvent D R) (later : List (WallEvent D R)) → Goes g (e ∷ later) → Goes (session_after g (e ∷ [])) later
  next g (started t) later h = record { valid = record { had = h.from.0; run = tt; given = tt }; life = h.life; from = h.from.1 }
  next g (delivered x) later h =
      record {
        valid =
            record {
              had = h.valid.had;
              run = wall_join p g.start g.deliveries (x ∷ []) h.valid.run (h.life.0, tt);
              given = delivered_join p (messages desk) g.deliveries (x ∷ []) h.valid.given (h.from.0, tt);
            };
        life = subst (λ (t : State D). WallLife p t later) (sym (wall_after_join g.start g.deliveries (x ∷ []))) h.life.1;
        from = h.from.1;
      }

  goes_on : (g : Session D R) (before later : List (WallEvent D R)) → Goes g (before ++ later) → Goes (session_after g before) later
  goes_on g [] later h = h
  goes_on g (started t ∷ es) later h = goes_on (record { start = t; deliveries = [] }) es later (next g (started t) (es ++ later) h)
  goes_on g (delivered x ∷ es) later h = goes_on (record { start = g.start; deliveries = g.deliveries ++ (x ∷ []) }) es later (next g (delivered x) (es ++ later) h)

module _ {D E R : Type 0} (p : Protocol D E R) (start : D) (desk : List (DeskStep D E R)) (life : List (WallEvent D R))
    (h : WallLife p (initial start) life) (f : FromDesk p (initial start) desk life)
  where
    -- after the first events of a life
    pub session_goes : (before later : List (WallEvent D R)) → life ≡ before ++ later → Goes p (initial start) desk (session_at start before) later
    session_goes before later e =
        goes_on p (initial start) desk (record { start = initial start; deliveries = [] }) before later
        (subst (Goes p (initial start) desk (record { start = initial start; deliveries = [] })) e
        (record { valid = record { had = ([], desk, refl, refl); run = tt; given = tt }; life = h; from = f }))

    pub session_valid : (before later : List (WallEvent D R)) → life ≡ before ++ later → SessionValid p (initial start) desk (session_at start before)
    session_valid before later e = (session_goes before later e).valid

-- ---- a life without a start after the first is one session: what is claimed of it is what was claimed of a wall with one start

session_delivered : {D R : Type 0} (g : Session D R) (xs : List (WallStep D R)) → session_after g (map delivered xs) ≡ record { start = g.start; deliveries = g.deliveries ++ xs }
session_delivered g [] = ap (λ (l : List (WallStep _ _)). record { start = g.start; deliveries = l }) (sym (append-nil g.deliveries))
session_delivered g (x ∷ xs) =
    session_delivered (record { start = g.start; deliveries = g.deliveries ++ (x ∷ []) }) xs
    ∙ ap (λ (l : List (WallStep _ _)). record { start = g.start; deliveries = l }) (append_assoc g.deliveries (x ∷ []) xs)

pub one_session : {D R : Type 0} (start : D) (xs : List (WallStep D R)) → session_at start (map delivered xs) ≡ record { start = initial start; deliveries = xs }
one_session start xs = session_delivered (record { start = initial start; deliveries = [] }) xs

-- and its entries are the first k
pub first_entries : {D E R : Type 0} (p : Protocol D E R) (start : D) (desk : List (DeskStep D E R)) (k : ℕ) → entries_between p start desk 0 k ≡ take k (desk_log p start desk)
first_entries p start desk k = let e : k - 0 ≡ k = omega arith in ap (λ (n : ℕ). take n (desk_log p start desk)) e
