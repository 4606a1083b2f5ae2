-- How desk and wall agree with the reference machine: after each of the desk's calls, and over the wall's whole life, at each start and after every delivery.
-- Definitions only.
use Rattle.std.specs.Prelude.{◌≡◌, List, [], ◌∷◌, ◌++◌, map, ◌⊎◌, ℕ, zero, suc, ◌+◌, ◌-◌, ◌≤◌, length, take, drop, ltb}
use Rattle.std.proofs.Math.Option.{some}
use Rattle.std.proofs.Math.ListN.{get_elem?}
use Rattle.sketch.specs.Lists.{ite}
use Rattle.agreement.specs.Machines.{State, initial, Protocol, Call, Entry, call_outcome, reference_after, accepted_log, DeskStep, calls, desk_after, messages, reply_to, WallReply, wall_applied, WallStep, wall_transition, WallEvent, delivered, Session, session_at, session_state}

-- the reference machine's state at count k, by its log
abbrev pub state_at : {D E R : Type 0} → State D → List (Entry D E R) → ℕ → State D
state_at s l zero = s
state_at s [] (suc k) = s
state_at s (x ∷ xs) (suc k) = state_at x.after xs k

-- the replies of the deliveries that raised the count
abbrev pub applied_replies : {D R : Type 0} → State D → List (WallStep D R) → List (WallReply R)
applied_replies s [] = []
applied_replies s (x ∷ xs) = ite (ltb s.count x.state.count) (x.reply ∷ applied_replies x.state xs) (applied_replies x.state xs)

-- xs is a subsequence of ys: all of xs come in ys, in their order, with others between or not
pub data Subsequence {A : Type 0} : List A → List A → Type 0 where
  subsequence_nil : {ys : List A} → Subsequence [] ys
  subsequence_skip : {xs ys : List A} {y : A} → Subsequence xs ys → Subsequence xs (y ∷ ys)
  subsequence_match : {xs ys : List A} {x y : A} → x ≡ y → Subsequence xs ys → Subsequence (x ∷ xs) (y ∷ ys)

-- a delivery at count k: it is message k + 1, and the count is k + 1 after it; or it is not, and the count stays
abbrev pub CountStep : {D R : Type 0} → List (List ℕ) → ℕ → WallStep D R → Type 0
CountStep ms k x =
    ((get_elem? ms k ≡ some x.bytes) × (x.state.count ≡ k + 1))
    ⊎ ((get_elem? ms k ≡ some x.bytes → ⊥) × (x.state.count ≡ k))

module _ {D E R : Type 0} (p : Protocol D E R) where
  -- the log of the reference machine that starts with a drawing and sees the desk's calls
  abbrev pub desk_log : D → List (DeskStep D E R) → List (Entry D E R)
  desk_log start desk = accepted_log p (initial start) (calls desk)

  -- its entries after count n, up to count k
  abbrev pub entries_between : D → List (DeskStep D E R) → ℕ → ℕ → List (Entry D E R)
  entries_between start desk n k = take (k - n) (drop n (desk_log start desk))

  -- the wall in a session that began at count n, its count being k
  pub record WallAt (start : D) (desk : List (DeskStep D E R)) (g : Session D R) : Type 0 where
    -- it has the reference machine's state at count k
    pub state : session_state g ≡ state_at (initial start) (desk_log start desk) (session_state g).count
    -- which the reference machine had after some of the desk's calls
    pub reference : (front : List (Call E)) × (later : List (Call E)) × (calls desk ≡ front ++ later) × (reference_after p (initial start) front ≡ session_state g)
    -- k is at least n
    pub from : g.start.count ≤ (session_state g).count
    -- k is at most the number of accepted calls
    pub within : (session_state g).count ≤ length (desk_log start desk)
    -- the deliveries that raised the count gave the reference machine's reports after count n, up to k
    pub reports : applied_replies g.start g.deliveries ≡ map (λ (x : Entry D E R). wall_applied x.report) (entries_between start desk g.start.count (session_state g).count)
    -- k is all of them once each message after the first n has come, in rising order
    pub all : Subsequence (drop g.start.count (messages desk)) (map (λ x. x.bytes) g.deliveries) → (session_state g).count ≡ length (desk_log start desk)

  pub record Agreement (start : D) (desk : List (DeskStep D E R)) (life : List (WallEvent D R)) : Type 0 where
    -- the desk has the reference machine's state, at the start and after each call
    pub desk_state :
        (before later : List (DeskStep D E R)) → desk ≡ before ++ later
        → desk_after (initial start) before ≡ reference_after p (initial start) (calls before)
    -- a call's reply is the reference machine's refusal with its place, or its report and the message of that edit and number
    pub desk_reply_lem :
        (before later : List (DeskStep D E R)) (x : DeskStep D E R) → desk ≡ before ++ (x ∷ later)
        → x.reply ≡ reply_to p (reference_after p (initial start) (calls before)).drawing x.call.edit (call_outcome p (reference_after p (initial start) (calls before)) x.call)
    -- so its messages are those of the reference machine's log, in order
    pub desk_messages : messages desk ≡ map (λ (x : Entry D E R). p.encode x.after.count x.edit) (desk_log start desk)
    -- the wall, at its first start and after every delivery and every start
    pub always : (before later : List (WallEvent D R)) → life ≡ before ++ later → WallAt start desk (session_at start before)
    -- a delivery's reply is that to the reference machine's state at the wall's count: a refusal's place too is the reference machine's
    pub wall_reply_lem :
        (before later : List (WallEvent D R)) (x : WallStep D R) → life ≡ before ++ (delivered x ∷ later)
        → x.reply ≡ (wall_transition p (state_at (initial start) (desk_log start desk) (session_state (session_at start before)).count) (p.decode x.bytes)).1
    -- its count rises exactly when the next message is delivered
    pub rises :
        (before later : List (WallEvent D R)) (x : WallStep D R) → life ≡ before ++ (delivered x ∷ later)
        → CountStep (messages desk) (session_state (session_at start before)).count x
