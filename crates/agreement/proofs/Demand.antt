-- The claim, whole, over any edit that keeps drawings valid and whose accepted edits have an `EditEffect`: `demand_3`. And the drawings of desk and wall are always valid.
use mathlib.Core.Path.{◌≡◌, sym, ap, ◌∙◌, subst}
use mathlib.Core.List.{List, [], ◌++◌}
use Prim.Native.Nat.{ℕ, ◌+◌, ◌-◌}
use native.Mathlib.Omega.{arith}
use lib.ListN.{drop}
use Rattle.edit_plan.specs.declared.Removed.{Removed}
use Rattle.agreement.specs.Machines.{State, initial, Protocol, Call, reference_after, accepted_log, DeskStep, calls, desk_after, DeskRun, WallEvent, WallLife, FromDesk, Session, session_at, session_state}
use Rattle.agreement.specs.Agreement.{state_at, desk_log, entries_between, WallAt, Agreement}
use Rattle.agreement.specs.Families.{CurveView}
use Rattle.agreement.specs.Demand.{Demand3}
use Rattle.agreement.proofs.Reference.{last, last_take, last_all, Linked, linked, linked_take, linked_drop, state_drop, last_entry}
use Rattle.agreement.proofs.Wall.{Read}
use Rattle.agreement.proofs.Sessions.{SessionValid, session_valid}
use Rattle.agreement.proofs.Agree.{had_at, wall_at, agreement}
use Rattle.agreement.proofs.FamiliesJoined.{Keeps, last_valid, families_joined}

module _ {D E : Type 0} (p : Protocol D E Removed) (v : CurveView D) (target : E → ℕ) (Valid : D → Type 0) (k : Keeps p v target Valid) where
  -- the reference machine's, after any calls
  pub reference_valid : (start : D) (cs : List (Call E)) → Valid start → Valid (reference_after p (initial start) cs).drawing
  reference_valid start cs y =
      let l = accepted_log p (initial start) cs in
      subst (λ (t : State D). Valid t.drawing) (last_all (initial start) l ∙ last_entry p (initial start) cs)
      (last_valid p v target Valid k (initial start) l (linked p (initial start) cs) y)

  module _ (read : Read p Valid) (start : D) (desk : List (DeskStep D E Removed)) (y : Valid start) (dr : DeskRun p (initial start) desk) where
    -- ---- a session

    module _ (g : Session D Removed) (h : SessionValid p (initial start) desk g) where
      w : WallAt p start desk g
      w = wall_at p Valid k.valid read start desk y dr g h

      -- a wall's drawing is valid
      pub session_drawing_valid : Valid (session_state g).drawing
      session_drawing_valid =
          let (front, rest, a, b) = w.reference in
          subst (λ (t : State D). Valid t.drawing) b (reference_valid start front y)

      -- the entries since its start lead from its state then to its state
      pub session_linked : Linked p g.start (entries_between p start desk g.start.count (session_state g).count)
      session_linked =
          let n = g.start.count in
          let l = desk_log p start desk in
          let a = (had_at p Valid k.valid read start desk y dr g.start h.had).0 in
          linked_take p g.start (drop n l) ((session_state g).count - n) (subst (λ (t : State D). Linked p t (drop n l)) (sym a) (linked_drop p (initial start) l n (linked p (initial start) (calls desk))))

      pub session_last : last g.start (entries_between p start desk g.start.count (session_state g).count) ≡ session_state g
      session_last =
          let n = g.start.count in
          let m = (session_state g).count in
          let l = desk_log p start desk in
          let a = (had_at p Valid k.valid read start desk y dr g.start h.had).0 in
          let e : n + (m - n) ≡ m = omega (arith, w.from) in
          last_take g.start (drop n l) (m - n) ∙ ap (λ (t : State D). state_at t (drop n l) (m - n)) a ∙ state_drop p (initial start) l n (m - n) ∙ ap (state_at (initial start) l) e ∙ sym w.state

    -- its drawing at its start is
    start_valid : (g : Session D Removed) → SessionValid p (initial start) desk g → Valid g.start.drawing
    start_valid g h = session_drawing_valid (record { start = g.start; deliveries = [] }) (record { had = h.had; run = tt; given = tt })

    -- ---- a life

    module _ (life : List (WallEvent D Removed)) (wl : WallLife p (initial start) life) (fd : FromDesk p (initial start) desk life) where
      g : Agreement p start desk life
      g = agreement p Valid k.valid read start desk y dr life wl fd

      valid : (before later : List (WallEvent D Removed)) → life ≡ before ++ later → SessionValid p (initial start) desk (session_at start before)
      valid = session_valid p start desk life wl fd

      pub demand_3 : Demand3 p v target start desk life
      demand_3 =
          record {
            agreement = g;
            desk_families = λ before later q.
                let l = desk_log p start before in
                families_joined p v target Valid k (initial start) l (linked p (initial start) (calls before)) y (desk_after (initial start) before)
                (last_all (initial start) l ∙ last_entry p (initial start) (calls before) ∙ sym (g.desk_state before later q));
            wall_families = λ before later q.
                let s = session_at start before in
                let h = valid before later q in
                families_joined p v target Valid k s.start (entries_between p start desk s.start.count (session_state s).count) (session_linked s h) (start_valid s h) (session_state s) (session_last s h);
          }

      -- so neither desk nor wall is ever given a drawing that is not valid
      pub desk_valid : (before later : List (DeskStep D E Removed)) → desk ≡ before ++ later → Valid (desk_after (initial start) before).drawing
      desk_valid before later q = subst (λ (t : State D). Valid t.drawing) (sym (g.desk_state before later q)) (reference_valid start (calls before) y)

      pub wall_valid : (before later : List (WallEvent D Removed)) → life ≡ before ++ later → Valid (session_state (session_at start before)).drawing
      wall_valid before later q = session_drawing_valid (session_at start before) (valid before later q)
