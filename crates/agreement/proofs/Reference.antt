-- The reference machine's entries: each is the edit of the one before it, and each of their states the reference machine had after some of the calls. Assumes nothing.
use mathlib.Core.Path.{◌≡◌, refl, sym, ap, ap₂, ◌∙◌}
use mathlib.Core.List.{List, [], ◌∷◌, ◌++◌}
use Prim.Native.Nat.{ℕ, zero, suc, ◌+◌, ◌≤◌, ◌<◌}
use native.Mathlib.Omega.{arith}
use lib.ListN.{length, take, drop, length-append}
use lib.Dec.{leb, ltb}
use borrow.Author.Tests.{ltb-true}
use Rattle.edit_plan.specs.Outcome.{Outcome, refused, accepted}
use Rattle.edit_plan.proofs.Tables.{Holds, holds_guard}
use Rattle.agreement.specs.Machines.{State, initial, Protocol, max_edit_number, Call, with_count, state_after, Entry, call_outcome, reference_after, append_accepted, accepted_log}
use Rattle.agreement.specs.Agreement.{state_at}

-- where some entries end
abbrev pub last : {D E R : Type 0} → State D → List (Entry D E R) → State D
last s [] = s
last s (x ∷ xs) = last x.after xs

pub last_take : {D E R : Type 0} (s : State D) (l : List (Entry D E R)) (n : ℕ) → last s (take n l) ≡ state_at s l n
last_take s l zero = refl
last_take s [] (suc n) = refl
last_take s (x ∷ xs) (suc n) = last_take x.after xs n

pub last_all : {D E R : Type 0} (s : State D) (l : List (Entry D E R)) → last s l ≡ state_at s l (length l)
last_all s [] = refl
last_all s (x ∷ xs) = last_all x.after xs

module _ {D E R : Type 0} (p : Protocol D E R) where
  -- an entry leads from the state s to the state t
  pub record Step (s : State D) (e : E) (t : State D) (r : R) : Type 0 where
    pub gives : p.edit s.drawing e ≡ accepted t.drawing r
    pub next : t.count ≡ s.count + 1
    pub fits : s.count < max_edit_number

  abbrev pub Linked : State D → List (Entry D E R) → Type 0
  Linked s [] = Unit {0}
  Linked s (x ∷ xs) = Step s x.edit x.after x.report × Linked x.after xs

  -- what an accepted call was
  pub called : (s : State D) (c : Call E) → Holds (Step s c.edit) (call_outcome p s c)
  called s c =
      holds_guard (Step s c.edit) (leb p.message_size c.room) 25 _ λ a.
      holds_guard (Step s c.edit) (ltb s.count max_edit_number) 23 _ λ b. given (p.edit s.drawing c.edit) refl (ltb-true _ _ b)
    where
      given : (o : Outcome D R) → p.edit s.drawing c.edit ≡ o → s.count < max_edit_number → Holds (Step s c.edit) (with_count (s.count + 1) o)
      given (refused k) e h = tt
      given (accepted d r) e h = record { gives = e; next = refl; fits = h }

  link : (s : State D) (c : Call E) (o : Outcome (State D) R) → Holds (Step s c.edit) o → (l : List (Entry D E R)) → Linked (state_after s o) l → Linked s (append_accepted c.edit o l)
  link s c (refused k) v l h = h
  link s c (accepted t r) v l h = (v, h)

  pub linked : (s : State D) (cs : List (Call E)) → Linked s (accepted_log p s cs)
  linked s [] = tt
  linked s (c ∷ cs) = link s c (call_outcome p s c) (called s c) (accepted_log p (state_after s (call_outcome p s c)) cs) (linked (state_after s (call_outcome p s c)) cs)

  pub linked_take : (s : State D) (l : List (Entry D E R)) (k : ℕ) → Linked s l → Linked s (take k l)
  linked_take s l zero h = tt
  linked_take s [] (suc k) h = tt
  linked_take s (x ∷ xs) (suc k) h = (h.0, linked_take x.after xs k h.1)

  pub state_count : (s : State D) (l : List (Entry D E R)) → Linked s l → (k : ℕ) → k ≤ length l → (state_at s l k).count ≡ s.count + k
  state_count s l h zero b = omega arith
  state_count s [] h (suc k) b = absurd (omega arith)
  state_count s (x ∷ xs) h (suc k) b = let i = state_count x.after xs h.1 k (omega arith) in omega (arith, h.0.next)

  -- the reference machine is where its entries end
  pub last_entry : (s : State D) (cs : List (Call E)) → state_at s (accepted_log p s cs) (length (accepted_log p s cs)) ≡ reference_after p s cs
  last_entry s [] = refl
  last_entry s (c ∷ cs) = go (call_outcome p s c) (last_entry (state_after s (call_outcome p s c)) cs)
    where
      go : (o : Outcome (State D) R) → state_at (state_after s o) (accepted_log p (state_after s o) cs) (length (accepted_log p (state_after s o) cs)) ≡ reference_after p (state_after s o) cs → state_at s (append_accepted c.edit o (accepted_log p (state_after s o) cs)) (length (append_accepted c.edit o (accepted_log p (state_after s o) cs))) ≡ reference_after p (state_after s o) cs
      go (refused k) h = h
      go (accepted t r) h = h

  -- ---- each state of the entries, after some of the calls

  abbrev pub Booked : State D → List (Call E) → State D → Type 0
  Booked s cs t = (front : List (Call E)) × (later : List (Call E)) × (cs ≡ front ++ later) × (reference_after p s front ≡ t)

  BookedAll : State D → List (Call E) → List (Entry D E R) → Type 0
  BookedAll s cs l = (k : ℕ) → k ≤ length l → Booked s cs (state_at s l k)

  reference_step :
      (s : State D) (c : Call E) (cs : List (Call E)) (l : List (Entry D E R)) (o : Outcome (State D) R) → call_outcome p s c ≡ o
      → BookedAll (state_after s o) cs l → BookedAll s (c ∷ cs) (append_accepted c.edit o l)
  unfolding BookedAll
  reference_step s c cs l (refused n) e ih k b =
      let (front, later, q, r) = ih k b in
      (c ∷ front, later, ap (λ (v : List (Call E)). c ∷ v) q, rw e r)
  reference_step s c cs l (accepted t r) e ih zero b = ([], c ∷ cs, refl, refl)
  reference_step s c cs l (accepted t r) e ih (suc k) b =
      let (front, later, q, r) = ih k (omega arith) in
      (c ∷ front, later, ap (λ (v : List (Call E)). c ∷ v) q, rw e r)

  pub reference_at : (s : State D) (cs : List (Call E)) → (k : ℕ) → k ≤ length (accepted_log p s cs) → Booked s cs (state_at s (accepted_log p s cs) k)
  unfolding BookedAll
  reference_at s [] zero b = ([], [], refl, refl)
  reference_at s [] (suc k) b = absurd (omega arith)
  reference_at s (c ∷ cs) k b = reference_step s c cs (accepted_log p (state_after s (call_outcome p s c)) cs) (call_outcome p s c) refl (reference_at (state_after s (call_outcome p s c)) cs) k b

  -- ---- the entries of calls one after the other

  pub log_join : (s : State D) (cs ds : List (Call E)) → accepted_log p s (cs ++ ds) ≡ accepted_log p s cs ++ accepted_log p (reference_after p s cs) ds
  log_join s [] ds = refl
  log_join s (c ∷ cs) ds = go (call_outcome p s c) (accepted_log p (state_after s (call_outcome p s c)) cs) _ (log_join (state_after s (call_outcome p s c)) cs ds)
    where
      go : (o : Outcome (State D) R) {l : List (Entry D E R)} (m n : List (Entry D E R)) → l ≡ m ++ n → append_accepted c.edit o l ≡ append_accepted c.edit o m ++ n
      go (refused k) m n e = e
      go (accepted t r) m n e = ap (λ (l : List (Entry D E R)). record { after = t; edit = c.edit; report = r } ∷ l) e

  pub state_front : (s : State D) (l m : List (Entry D E R)) (k : ℕ) → k ≤ length l → state_at s (l ++ m) k ≡ state_at s l k
  state_front s l m zero h = refl
  state_front s [] m (suc k) h = absurd (omega arith)
  state_front s (x ∷ xs) m (suc k) h = state_front x.after xs m k (omega arith)

  -- the reference machine after the first of some calls has its state at its own count
  pub record AtCount (start : D) (front later : List (Call E)) : Type 0 where
    pub state : reference_after p (initial start) front ≡ state_at (initial start) (accepted_log p (initial start) (front ++ later)) (reference_after p (initial start) front).count
    pub count : (reference_after p (initial start) front).count ≡ length (accepted_log p (initial start) front)
    pub within : (reference_after p (initial start) front).count ≤ length (accepted_log p (initial start) (front ++ later))

  pub at_count : (start : D) (front later : List (Call E)) → AtCount start front later
  at_count start front later =
      let s = initial start in
      let l = accepted_log p s front in
      let whole = log_join s front later in
      let e : state_at s l (length l) ≡ reference_after p s front = last_entry s front in
      let c : (reference_after p s front).count ≡ length l = sym (ap (λ (t : State D). t.count) e) ∙ state_count s l (linked s front) (length l) (omega arith) ∙ omega arith in
      record {
        state = sym e ∙ sym (state_front s l (accepted_log p (reference_after p s front) later) (length l) (omega arith)) ∙ ap₂ (state_at s) (sym whole) (sym c);
        count = c;
        within = let n = ap length whole ∙ length-append l (accepted_log p (reference_after p s front) later) in omega (arith, c, n);
      }

  -- ---- the entries after some count

  pub linked_drop : (s : State D) (l : List (Entry D E R)) (n : ℕ) → Linked s l → Linked (state_at s l n) (drop n l)
  linked_drop s l zero h = h
  linked_drop s [] (suc n) h = tt
  linked_drop s (x ∷ xs) (suc n) h = linked_drop x.after xs n h.1

  state_none : (s : State D) (m : ℕ) → state_at {E = E} {R = R} s [] m ≡ s
  state_none s zero = refl
  state_none s (suc m) = refl

  pub state_drop : (s : State D) (l : List (Entry D E R)) (n m : ℕ) → state_at (state_at s l n) (drop n l) m ≡ state_at s l (n + m)
  state_drop s l zero m = let e : m ≡ 0 + m = omega arith in ap (state_at s l) e
  state_drop s [] (suc n) m = state_none s m ∙ sym (state_none s (suc n + m))
  state_drop s (x ∷ xs) (suc n) m =
      let e : suc (n + m) ≡ suc n + m = omega arith in
      state_drop x.after xs n m ∙ ap (state_at s (x ∷ xs)) e
