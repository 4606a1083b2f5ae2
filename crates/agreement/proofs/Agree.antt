-- Desk and wall agree with the reference machine, over any edit and over a wall's whole life: `agreement`. Assumes `Keeping` and `Read` alone: edits keep drawings valid, and the
-- message of one that is accepted is read as what it was made of.
use mathlib.Core.Path.{◌≡◌, refl, sym, ap, ◌∙◌, subst}
use mathlib.Core.List.{List, ◌∷◌, ◌++◌, map, map-append, Memᴰ}
use mathlib.Core.Logic.{◌⊎◌}
use Prim.Native.Nat.{ℕ, ◌-◌}
use native.Mathlib.Omega.{arith}
use lib.ListN.{take, drop, length-map}
use Rattle.agreement.specs.Machines.{State, initial, Protocol, Call, Entry, call_outcome, reference_after, accepted_log, DeskStep, calls, messages, reply_to, DeskRun, WallStep, wall_transition, Unread, Delivered, DeskHad, WallEvent, delivered, WallLife, FromDesk, Session, session_at, session_state}
use Rattle.agreement.specs.Agreement.{applied_replies, Subsequence, desk_log, WallAt, CountStep, Agreement}
use Rattle.agreement.proofs.Orders.{after_first, map_take, map_drop}
use Rattle.agreement.proofs.Reference.{Linked, linked, reference_at, at_count}
use Rattle.agreement.proofs.Runs.{written, desk_messages, desk_state, desk_front, desk_rest}
use Rattle.agreement.proofs.Wall.{applied_reply, Keeping, Read, Inv, walked, reached, rose, never_falls}
use Rattle.agreement.proofs.Sessions.{SessionValid, Goes, session_goes}

module _
    {D E R : Type 0} (p : Protocol D E R) (Valid : D → Type 0) (keeps : Keeping p Valid) (read : Read p Valid)
    (start : D) (desk : List (DeskStep D E R)) (y : Valid start) (dr : DeskRun p (initial start) desk)
  where
    abbrev S : State D
    S = initial start

    abbrev l : List (Entry D E R)
    l = desk_log p start desk

    abbrev k : Linked p S l
    k = linked p S (calls desk)

    mm : messages desk ≡ map (written p) l
    mm = desk_messages p S desk dr

    -- a state of the reference machine, at its count
    abbrev pub At : State D → Type 0
    At w = Inv p Valid keeps read S l k y refl w

    -- the desk had no other
    pub had_at : (t : State D) → DeskHad S desk t → At t
    had_at t (front, later, q, e) =
        let u = e ∙ desk_state p S front (desk_front p S front later (subst (DeskRun p S) q dr)) in
        let a = at_count p start (calls front) (calls later) in
        let cs : calls desk ≡ calls front ++ calls later = ap calls q ∙ map-append (λ (x : DeskStep D E R). x.call) front later in
        subst At (sym u)
        (subst (λ (c : List (Call E)). Inv p Valid keeps read S (accepted_log p S c) (linked p S c) y refl (reference_after p S (calls front))) (sym cs) (a.state, a.within))

    -- ---- a session

    own : (xs : List (WallStep D R)) → Delivered p (messages desk) xs → Delivered p (map (written p) l) xs
    own xs = subst (λ (m : List (List ℕ)). Delivered p m xs) mm

    module _ (g : Session D R) (v : SessionValid p S desk g) where
      there : At (session_state g) × (take g.start.count (map applied_reply l) ++ applied_replies g.start g.deliveries ≡ take (session_state g).count (map applied_reply l))
      there = walked p Valid keeps read S l k y refl g.start g.deliveries (had_at g.start v.had) v.run (own g.deliveries v.given)

      pub session_at_lem : At (session_state g)
      session_at_lem = there.0

      pub wall_at : WallAt p start desk g
      wall_at =
          let n = g.start.count in
          let m = (session_state g).count in
          let up = never_falls p g.start g.deliveries v.run in
          record {
            state = there.0.0;
            reference = let (f, r, a, b) = reference_at p S (calls desk) m there.0.1 in (f, r, a, b ∙ sym there.0.0);
            from = up;
            within = there.0.1;
            reports =
                after_first (map applied_reply l) (applied_replies g.start g.deliveries) n m up (omega (arith, length-map l applied_reply, there.0.1)) there.1
                ∙ ap (take (m - n)) (sym (map_drop applied_reply l n)) ∙ sym (map_take applied_reply (drop n l) (m - n));
            all = λ o.
                reached p Valid keeps read S l k y refl g.start g.deliveries (had_at g.start v.had) v.run (own g.deliveries v.given)
                (subst (λ (ms : List (List ℕ)). Subsequence (drop n ms) (map (λ (x : WallStep D R). x.bytes) g.deliveries)) mm o);
          }

    -- ---- a life

    module _ (life : List (WallEvent D R)) (wl : WallLife p S life) (fd : FromDesk p S desk life) where
      goes : (before later : List (WallEvent D R)) → life ≡ before ++ later → Goes p S desk (session_at start before) later
      goes = session_goes p start desk life wl fd

      pub agreement : Agreement p start desk life
      agreement =
          record {
            desk_state = λ before later e. desk_state p S before (desk_front p S before later (subst (DeskRun p S) e dr));
            desk_reply_lem = λ before later x e.
                let run = subst (DeskRun p S) e dr in
                (desk_rest p S before (x ∷ later) run).0.reply
                ∙ ap (λ (s : State D). reply_to p s.drawing x.call.edit (call_outcome p s x.call)) (desk_state p S before (desk_front p S before (x ∷ later) run));
            desk_messages = mm;
            always = λ before later e. wall_at (session_at start before) (goes before later e).valid;
            wall_reply_lem = λ before later x e.
                let w = goes before (delivered x ∷ later) e in
                w.life.0.reply ∙ ap (λ (s : State D). (wall_transition p s (p.decode x.bytes)).1) (session_at_lem (session_at start before) w.valid).0;
            rises = λ before later x e.
                let w = goes before (delivered x ∷ later) e in
                subst (λ (m : List (List ℕ)). CountStep m (session_state (session_at start before)).count x) (sym mm)
                (rose p Valid keeps read S l k y refl (session_state (session_at start before)) x (session_at_lem (session_at start before) w.valid) w.life.0
                (subst (λ (m : List (List ℕ)). Memᴰ x.bytes m ⊎ Unread p x.bytes) mm w.from.0));
          }
