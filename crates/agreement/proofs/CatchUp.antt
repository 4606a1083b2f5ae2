-- A wall that is delivered just what is due to it has the desk's state (`caught_up`). Assumes what `Agree` does.
use mathlib.Core.Path.{◌≡◌, refl, sym, ap, ◌∙◌, subst}
use mathlib.Core.List.{List, [], ◌∷◌, ◌++◌, map, map-append, Memᴰ}
use mathlib.Core.Logic.{inl}
use Prim.Native.Nat.{ℕ, ◌≤◌}
use native.Mathlib.Omega.{arith}
use lib.ListN.{length, drop}
use Rattle.agreement.specs.Machines.{State, initial, Protocol, accepted_log, reference_after, DeskStep, calls, desk_after, messages, DeskRun, WallStep, wall_after, WallRun, Delivered, Session, session_state}
use Rattle.agreement.specs.Agreement.{state_at, Subsequence}
use Rattle.agreement.proofs.Orders.{subsequence_same, member_dropped}
use Rattle.agreement.proofs.Reference.{linked, last_entry, log_join, state_front, at_count}
use Rattle.agreement.proofs.Runs.{written, desk_messages, desk_state, desk_front}
use Rattle.agreement.proofs.Wall.{Keeping, Read, walked, reached}
use Rattle.agreement.proofs.Sessions.{SessionValid}
use Rattle.agreement.proofs.Agree.{session_at_lem}

-- bytes that are all among some messages
delivered_own : {D E R : Type 0} (p : Protocol D E R) (ms : List (List ℕ)) (xs : List (WallStep D R)) → ((m : List ℕ) → Memᴰ m (map (λ (x : WallStep D R). x.bytes) xs) → Memᴰ m ms) → Delivered p ms xs
delivered_own p ms [] f = tt
delivered_own p ms (x ∷ xs) f = (inl (f x.bytes (Memᴰ.head refl)), delivered_own p ms xs (λ m h. f m (Memᴰ.tail h)))

module _
    {D E R : Type 0} (p : Protocol D E R) (Valid : D → Type 0) (keeps : Keeping p Valid) (read : Read p Valid)
    (start : D) (front later : List (DeskStep D E R)) (y : Valid start) (dr : DeskRun p (initial start) (front ++ later))
  where
    abbrev S : State D
    S = initial start

    -- a wall in a session, its count being k, whose further deliveries are just the desk's messages after the first k
    pub caught_up :
        (g : Session D R) → SessionValid p S (front ++ later) g → (session_state g).count ≤ (desk_after S front).count
        → (xs : List (WallStep D R)) → WallRun p (session_state g) xs → map (λ (x : WallStep D R). x.bytes) xs ≡ drop (session_state g).count (messages front)
        → wall_after (session_state g) xs ≡ desk_after S front
    caught_up g v h xs wr e =
        let w = session_state g in
        let l = accepted_log p S (calls front) in
        let run : DeskRun p S front = desk_front p S front later dr in
        let ds : desk_after S front ≡ reference_after p S (calls front) = desk_state p S front run in
        let a = at_count p start (calls front) (calls later) in
        let few : w.count ≤ length l = omega (arith, h, ap (λ (t : State D). t.count) ds, a.count) in
        let whole = ap (accepted_log p S) (map-append (λ (x : DeskStep D E R). x.call) front later) ∙ log_join p S (calls front) (calls later) in
        let at : w ≡ state_at S l w.count =
        (session_at_lem p Valid keeps read start (front ++ later) y dr g v).0 ∙ ap (λ t. state_at S t w.count) whole ∙ state_front p S l (accepted_log p (reference_after p S (calls front)) (calls later)) w.count few in
        let mm : messages front ≡ map (written p) l = desk_messages p S front run in
        let due = e ∙ ap (drop w.count) mm in
        let given : Delivered p (map (written p) l) xs = delivered_own p (map (written p) l) xs (λ m q. member_dropped (map (written p) l) w.count m (subst (Memᴰ m) due q)) in
        let k = linked p S (calls front) in
        let all = reached p Valid keeps read S l k y refl w xs (at, few) wr given (subst (Subsequence (drop w.count (map (written p) l))) (sym due) (subsequence_same _)) in
        (walked p Valid keeps read S l k y refl w xs (at, few) wr given).0.0 ∙ ap (state_at S l) all ∙ last_entry p S (calls front) ∙ sym ds
