-- State machine replication over any edit function: the desk is the primary, the wall the replica that applies the desk's messages, and the
-- reference machine (the glossary's book) applies the desk's accepted calls alone. "Desk" and "wall" are terms of the glossary (docs/FORMATS.md). Definitions only.
use Rattle.std.specs.Prelude.{◌≡◌, ◌⊎◌, ℕ, ◌+◌, leb, ltb, eqb}
use mathlib.Core.List.{List, [], ◌∷◌, ◌++◌, map, Memᴰ}
use Rattle.sketch.specs.Lists.{ite}
use Rattle.edit_plan.specs.Outcome.{Outcome, refused, accepted, guard}

-- the state of a machine: a drawing, and how many edits were applied to it (the glossary's count)
pub record State (D : Type 0) : Type 0 where
  pub drawing : D
  pub count : ℕ

-- every machine starts with a drawing at count 0
abbrev pub initial : {D : Type 0} → D → State D
initial d = record { drawing = d; count = 0 }

-- a decoded message: invalid by a refusal's number, or an edit and the edit's number
pub data Decoded (E : Type 0) : Type 0 where
  invalid : ℕ → Decoded E
  message : ℕ → E → Decoded E

-- what the machines are built over: the edit function with the places of its refusals, and the message format's size, encoder and decoder
pub record Protocol (D E R : Type 0) : Type 0 where
  pub edit : D → E → Outcome D R
  -- the place of a relation that comes with an edit's refusal by a number
  pub place : D → E → ℕ → ℕ
  pub message_size : ℕ
  pub encode : ℕ → E → List ℕ
  pub decode : List ℕ → Decoded E

-- the largest edit number
abbrev pub max_edit_number : ℕ
max_edit_number = 4_294_967_295

-- ---- the desk

-- a call: an edit, and how many bytes are lent for its message
pub record Call (E : Type 0) : Type 0 where
  pub edit : E
  pub room : ℕ

-- the desk's reply: refused by a number, with a relation's place or 0, or accepted with a report and a message
pub data DeskReply (R : Type 0) : Type 0 where
  desk_refused : ℕ → ℕ → DeskReply R
  desk_accepted : R → List ℕ → DeskReply R

-- one step of the desk: the call, the state after it, the reply
pub record DeskStep (D E R : Type 0) : Type 0 where
  pub call : Call E
  pub state : State D
  pub reply : DeskReply R

-- an accepted edit gives the drawing and the number
abbrev pub with_count : {D R : Type 0} → ℕ → Outcome D R → Outcome (State D) R
with_count n (refused k) = refused k
with_count n (accepted d r) = accepted (record { drawing = d; count = n }) r

-- the state after a call: a refused one leaves it as it was
abbrev pub state_after : {D R : Type 0} → State D → Outcome (State D) R → State D
state_after s (refused k) = s
state_after s (accepted t r) = t

module _ {D E R : Type 0} (p : Protocol D E R) where
  -- the outcome of a call in a state: 25 for a buffer too short, 23 where no number is left, then the edit's outcome
  abbrev pub call_outcome : State D → Call E → Outcome (State D) R
  call_outcome s c =
      guard (leb p.message_size c.room) 25 (guard (ltb s.count max_edit_number) 23 (with_count (s.count + 1) (p.edit s.drawing c.edit)))

  -- a refused call replies with the place in the drawing that it found; an accepted one with its report, and the message of its edit and number
  abbrev pub reply_to : D → E → Outcome (State D) R → DeskReply R
  reply_to d e (refused k) = desk_refused k (p.place d e k)
  reply_to d e (accepted t r) = desk_accepted r (p.encode t.count e)

  -- a step is valid: its state and its reply are those of the call's outcome
  pub record DeskStepValid (s : State D) (x : DeskStep D E R) : Type 0 where
    pub state : x.state ≡ state_after s (call_outcome s x.call)
    pub reply : x.reply ≡ reply_to s.drawing x.call.edit (call_outcome s x.call)

  -- calls one after the other, each on what the last one left
  abbrev pub DeskRun : State D → List (DeskStep D E R) → Type 0
  DeskRun s [] = Unit {0}
  DeskRun s (x ∷ xs) = DeskStepValid s x × DeskRun x.state xs

abbrev pub desk_after : {D E R : Type 0} → State D → List (DeskStep D E R) → State D
desk_after s [] = s
desk_after s (x ∷ xs) = desk_after x.state xs

abbrev pub prepend_message : {R : Type 0} → DeskReply R → List (List ℕ) → List (List ℕ)
prepend_message (desk_refused k place) ms = ms
prepend_message (desk_accepted r m) ms = m ∷ ms

-- the messages that some calls wrote, in order
abbrev pub messages : {D E R : Type 0} → List (DeskStep D E R) → List (List ℕ)
messages [] = []
messages (x ∷ xs) = prepend_message x.reply (messages xs)

-- ---- the wall

-- the wall's reply: refused by a number, with a relation's place or 0, old, or applied with a report
pub data WallReply (R : Type 0) : Type 0 where
  wall_refused : ℕ → ℕ → WallReply R
  wall_old : WallReply R
  wall_applied : R → WallReply R

-- one step of the wall: the bytes delivered, the state after it, the reply
pub record WallStep (D R : Type 0) : Type 0 where
  pub bytes : List ℕ
  pub state : State D
  pub reply : WallReply R

module _ {D E R : Type 0} (p : Protocol D E R) where
  -- an edit's refusal comes with the place that the desk would give
  abbrev pub wall_apply : State D → ℕ → E → Outcome D R → State D × WallReply R
  wall_apply s n e (refused k) = (s, wall_refused k (p.place s.drawing e k))
  wall_apply s n e (accepted d r) = (record { drawing = d; count = n }, wall_applied r)

  -- old (the glossary's term) at or below the count, the edit at the next number, 7 (ahead, the glossary's term) beyond it
  abbrev pub wall_transition : State D → Decoded E → State D × WallReply R
  wall_transition s (invalid k) = (s, wall_refused k 0)
  wall_transition s (message n e) =
      ite (leb n s.count) (s, wall_old)
      (ite (eqb n (s.count + 1)) (wall_apply s n e (p.edit s.drawing e)) (s, wall_refused 7 0))

  -- a step is valid: its state and its reply are those of the wall's transition
  pub record WallStepValid (s : State D) (x : WallStep D R) : Type 0 where
    pub state : x.state ≡ (wall_transition s (p.decode x.bytes)).0
    pub reply : x.reply ≡ (wall_transition s (p.decode x.bytes)).1

  -- deliveries one after the other, each on what the last one left
  abbrev pub WallRun : State D → List (WallStep D R) → Type 0
  WallRun s [] = Unit {0}
  WallRun s (x ∷ xs) = WallStepValid s x × WallRun x.state xs

abbrev pub wall_after : {D R : Type 0} → State D → List (WallStep D R) → State D
wall_after s [] = s
wall_after s (x ∷ xs) = wall_after x.state xs

module _ {D E R : Type 0} (p : Protocol D E R) where
  -- bytes that the wall does not read
  abbrev pub Unread : List ℕ → Type 0
  Unread m = (k : ℕ) × (p.decode m ≡ invalid k)

  -- each delivery is one of the messages, as written, or is not read
  abbrev pub Delivered : List (List ℕ) → List (WallStep D R) → Type 0
  Delivered ms [] = Unit {0}
  Delivered ms (x ∷ xs) = (Memᴰ x.bytes ms ⊎ Unread x.bytes) × Delivered ms xs

-- ---- a wall's life: it may be started again, from the desk's state of that time

-- a state that the desk had: at its start, or after some of its calls
abbrev pub DeskHad : {D E R : Type 0} → State D → List (DeskStep D E R) → State D → Type 0
DeskHad {D} {E} {R} s desk t = (front : List (DeskStep D E R)) × (later : List (DeskStep D E R)) × (desk ≡ front ++ later) × (t ≡ desk_after s front)

-- what happens to a wall: it is started with a state, whatever it had, or bytes are delivered
pub data WallEvent (D R : Type 0) : Type 0 where
  started : State D → WallEvent D R
  delivered : WallStep D R → WallEvent D R

module _ {D E R : Type 0} (p : Protocol D E R) where
  -- events one after the other, each on what the last one left
  abbrev pub WallLife : State D → List (WallEvent D R) → Type 0
  WallLife s [] = Unit {0}
  WallLife s (started t ∷ es) = WallLife t es
  WallLife s (delivered x ∷ es) = WallStepValid p s x × WallLife x.state es

  -- each start is from a state that the desk had, at its count; each delivery is one of the desk's messages, as written, or is not read
  abbrev pub FromDesk : State D → List (DeskStep D E R) → List (WallEvent D R) → Type 0
  FromDesk s desk [] = Unit {0}
  FromDesk s desk (started t ∷ es) = DeskHad s desk t × FromDesk s desk es
  FromDesk s desk (delivered x ∷ es) = (Memᴰ x.bytes (messages desk) ⊎ Unread p x.bytes) × FromDesk s desk es

-- a session of a wall: the state that it was last started with, and the deliveries since
pub record Session (D R : Type 0) : Type 0 where
  pub start : State D
  pub deliveries : List (WallStep D R)

-- the session in which some events leave a wall
abbrev pub session_after : {D R : Type 0} → Session D R → List (WallEvent D R) → Session D R
session_after g [] = g
session_after g (started t ∷ es) = session_after (record { start = t; deliveries = [] }) es
session_after g (delivered x ∷ es) = session_after (record { start = g.start; deliveries = g.deliveries ++ (x ∷ []) }) es

-- the session in which the first events of its life leave a wall that starts with a drawing, as the desk does
abbrev pub session_at : {D R : Type 0} → D → List (WallEvent D R) → Session D R
session_at d es = session_after (record { start = initial d; deliveries = [] }) es

-- the wall's state in a session
abbrev pub session_state : {D R : Type 0} → Session D R → State D
session_state g = wall_after g.start g.deliveries

-- ---- the reference machine, the glossary's book: it sees the desk's calls alone

abbrev pub calls : {D E R : Type 0} → List (DeskStep D E R) → List (Call E)
calls xs = map (λ x. x.call) xs

-- a log entry for an accepted call: the reference machine's state after it, its edit, its report
pub record Entry (D E R : Type 0) : Type 0 where
  pub after : State D
  pub edit : E
  pub report : R

abbrev pub append_accepted : {D E R : Type 0} → E → Outcome (State D) R → List (Entry D E R) → List (Entry D E R)
append_accepted e (refused k) l = l
append_accepted e (accepted t r) l = record { after = t; edit = e; report = r } ∷ l

module _ {D E R : Type 0} (p : Protocol D E R) where
  abbrev pub reference_after : State D → List (Call E) → State D
  reference_after s [] = s
  reference_after s (c ∷ cs) = reference_after (state_after s (call_outcome p s c)) cs

  -- the log of the accepted ones of some calls, in order
  abbrev pub accepted_log : State D → List (Call E) → List (Entry D E R)
  accepted_log s [] = []
  accepted_log s (c ∷ cs) = append_accepted c.edit (call_outcome p s c) (accepted_log (state_after s (call_outcome p s c)) cs)
