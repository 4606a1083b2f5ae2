-- Runs and their parts, and the desk's run beside the reference machine. Assumes nothing.
use mathlib.Core.Path.{◌≡◌, refl, ap, ◌∙◌}
use mathlib.Core.List.{List, [], ◌∷◌, ◌++◌, map}
use Prim.Native.Nat.{ℕ}
use Rattle.edit_plan.specs.Outcome.{Outcome, refused, accepted}
use Rattle.agreement.specs.Machines.{State, Protocol, state_after, Entry, call_outcome, reference_after, append_accepted, accepted_log, DeskReply, desk_refused, desk_accepted, DeskStep, calls, desk_after, prepend_message, messages, reply_to, DeskRun, WallStep, wall_after, Delivered, WallRun}

module _ {D E R : Type 0} (p : Protocol D E R) where
  -- the message of an entry
  abbrev pub written : Entry D E R → List ℕ
  written x = p.encode x.after.count x.edit

  messages_step :
      (d : D) (x : DeskStep D E R) (o : Outcome (State D) R) (ms : List (List ℕ)) (l : List (Entry D E R)) → x.reply ≡ reply_to p d x.call.edit o → ms ≡ map written l
      → prepend_message x.reply ms ≡ map written (append_accepted x.call.edit o l)
  messages_step d x (refused k) ms l e h = rw e h
  messages_step d x (accepted t r) ms l e h = rw (e, h)

  pub desk_messages : (s : State D) (xs : List (DeskStep D E R)) → DeskRun p s xs → messages xs ≡ map written (accepted_log p s (calls xs))
  desk_messages s [] h = refl
  desk_messages s (x ∷ xs) h =
      messages_step s.drawing x (call_outcome p s x.call) (messages xs) (accepted_log p (state_after s (call_outcome p s x.call)) (calls xs)) h.0.reply
      (rw (← h.0.state) (desk_messages x.state xs h.1))

  pub desk_state : (s : State D) (xs : List (DeskStep D E R)) → DeskRun p s xs → desk_after s xs ≡ reference_after p s (calls xs)
  desk_state s [] h = refl
  desk_state s (x ∷ xs) h = desk_state x.state xs h.1 ∙ ap (λ (t : State D). reference_after p t (calls xs)) h.0.state

  pub desk_front : (s : State D) (xs ys : List (DeskStep D E R)) → DeskRun p s (xs ++ ys) → DeskRun p s xs
  desk_front s [] ys h = tt
  desk_front s (x ∷ xs) ys h = (h.0, desk_front x.state xs ys h.1)

  pub desk_rest : (s : State D) (xs ys : List (DeskStep D E R)) → DeskRun p s (xs ++ ys) → DeskRun p (desk_after s xs) ys
  desk_rest s [] ys h = h
  desk_rest s (x ∷ xs) ys h = desk_rest x.state xs ys h.1

  pub wall_parts : (s : State D) (xs ys : List (WallStep D R)) → WallRun p s (xs ++ ys) → WallRun p s xs × WallRun p (wall_after s xs) ys
  wall_parts s [] ys h = (tt, h)
  wall_parts s (x ∷ xs) ys h = let i = wall_parts x.state xs ys h.1 in ((h.0, i.0), i.1)

  -- and a run is made of two
  pub wall_join : (s : State D) (xs ys : List (WallStep D R)) → WallRun p s xs → WallRun p (wall_after s xs) ys → WallRun p s (xs ++ ys)
  wall_join s [] ys h k = k
  wall_join s (x ∷ xs) ys h k = (h.0, wall_join x.state xs ys h.1 k)

  pub delivered_parts : (ms : List (List ℕ)) (xs ys : List (WallStep D R)) → Delivered p ms (xs ++ ys) → Delivered p ms xs × Delivered p ms ys
  delivered_parts ms [] ys h = (tt, h)
  delivered_parts ms (x ∷ xs) ys h = let i = delivered_parts ms xs ys h.1 in ((h.0, i.0), i.1)

  pub delivered_join : (ms : List (List ℕ)) (xs ys : List (WallStep D R)) → Delivered p ms xs → Delivered p ms ys → Delivered p ms (xs ++ ys)
  delivered_join ms [] ys h k = k
  delivered_join ms (x ∷ xs) ys h k = (h.0, delivered_join ms xs ys h.1 k)

pub wall_after_join : {D R : Type 0} (s : State D) (xs ys : List (WallStep D R)) → wall_after s (xs ++ ys) ≡ wall_after (wall_after s xs) ys
wall_after_join s [] ys = refl
wall_after_join s (x ∷ xs) ys = wall_after_join x.state xs ys

pub messages_join : {D E R : Type 0} (xs ys : List (DeskStep D E R)) → messages (xs ++ ys) ≡ messages xs ++ messages ys
messages_join [] ys = refl
messages_join {R = R} (x ∷ xs) ys = go x.reply (messages xs) (messages_join xs ys)
  where
    go : (r : DeskReply R) {ms : List (List ℕ)} (ns : List (List ℕ)) → ms ≡ ns ++ messages ys → prepend_message r ms ≡ prepend_message r ns ++ messages ys
    go (desk_refused k place) ns e = e
    go (desk_accepted r m) ns e = ap (λ (l : List (List ℕ)). m ∷ l) e
