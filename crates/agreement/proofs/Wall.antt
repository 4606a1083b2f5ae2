-- The wall's run beside the reference machine's entries: each delivery is the next message, and gives the next entry's state, or leaves the wall, as what is not read does. Assumes that edits keep
-- drawings valid (`Keeping`), whatever that means, and that the message of an edit accepted on a valid drawing is read as what it was made of (`Read`).
use mathlib.Core.Path.{◌≡◌, refl, sym, ap, ◌∙◌, subst}
use mathlib.Core.Bool.{Bool, true, false}
use mathlib.Core.List.Memᴰ
use mathlib.Core.List.{List, [], ◌∷◌, ◌++◌, map, append-nil, Memᴰ}
use mathlib.Core.Option.{some}
use mathlib.Core.Logic.{◌⊎◌, inl, inr, ⊎_elim}
use Prim.Native.Nat.{ℕ, zero, suc, ◌+◌, ◌≤◌, ◌<◌}
use native.Mathlib.Numerals.{add-one}
use native.Mathlib.Omega.{arith}
use native.Mathlib.Decide.{dec_le, ℕ_discrete}
use lib.ListN.{length, take, drop, get_elem?, length-map}
use lib.Dec.{leb, ltb, eqb}
use borrow.Author.Tests.{lt-ltb, le-ltb, le-leb, lt-leb, leb-false, eq-eqb, ne_eqb}
use Rattle.sketch.specs.Lists.{ite}
use Rattle.edit_plan.specs.Outcome.{Outcome, refused, accepted}
use Rattle.agreement.specs.Machines.{State, Decoded, invalid, message, Protocol, max_edit_number, Entry, WallReply, wall_refused, wall_old, wall_applied, WallStep, wall_after, Unread, Delivered, wall_apply, wall_transition, WallStepValid, WallRun}
use Rattle.agreement.specs.Agreement.{state_at, applied_replies, Subsequence, CountStep}
use Rattle.agreement.proofs.Orders.{some_inj, lookup_below, take_more, drop_end, order_nil, order_stay, order_next}
use Rattle.agreement.proofs.Reference.{Linked, state_count}
use Rattle.agreement.proofs.Runs.{written}

-- what an entry lets the wall tell
abbrev pub applied_reply : {D E R : Type 0} → Entry D E R → WallReply R
applied_reply x = wall_applied x.report

module _ {D E R : Type 0} (p : Protocol D E R) (Valid : D → Type 0) where
  -- an accepted edit leaves a valid drawing
  abbrev pub Keeping : Type 0
  Keeping = (d : D) (e : E) (d' : D) (r : R) → Valid d → p.edit d e ≡ accepted d' r → Valid d'

  -- its message, whatever the number, is read as that edit and number
  abbrev pub Read : Type 0
  Read = (d : D) (e : E) (d' : D) (r : R) → Valid d → p.edit d e ≡ accepted d' r → (n : ℕ) → 0 < n → n ≤ max_edit_number → p.decode (p.encode n e) ≡ message n e

module _ {D E R : Type 0} (p : Protocol D E R) (Valid : D → Type 0) (keeps : Keeping p Valid) where
  -- where among the entries a message stands, and the edit there
  record Found (s : State D) (l : List (Entry D E R)) (m : List ℕ) : Type 0 where
    i : ℕ
    e : E
    d : D
    r : R
    fits : s.count + i < max_edit_number
    is : m ≡ p.encode (s.count + i + 1) e
    valid : Valid (state_at s l i).drawing
    gives : p.edit (state_at s l i).drawing e ≡ accepted d r
    next : state_at s l (suc i) ≡ record { drawing = d; count = s.count + i + 1 }
    tells : get_elem? (map applied_reply l) i ≡ some (wall_applied r)
    place : get_elem? (map (written p) l) i ≡ some m

  found_here : (s : State D) (x : Entry D E R) (xs : List (Entry D E R)) → Linked p s (x ∷ xs) → Valid s.drawing → (m : List ℕ) → m ≡ written p x → Found s (x ∷ xs) m
  found_here s x xs h y m q =
      let c : x.after.count ≡ s.count + 0 + 1 = omega (arith, h.0.next) in
      record {
        i = 0;
        e = x.edit;
        d = x.after.drawing;
        r = x.report;
        fits = omega (arith, h.0.fits);
        is = q ∙ ap (λ (n : ℕ). p.encode n x.edit) c;
        valid = y;
        gives = h.0.gives;
        next = λ j. record { drawing = x.after.drawing; count = c j };
        tells = refl;
        place = ap some (sym q);
      }

  found_later : (s : State D) (x : Entry D E R) (xs : List (Entry D E R)) → Linked p s (x ∷ xs) → (m : List ℕ) → Found x.after xs m → Found s (x ∷ xs) m
  found_later s x xs h m f =
      let c : x.after.count + f.i + 1 ≡ s.count + suc f.i + 1 = omega (arith, h.0.next) in
      record {
        i = suc f.i;
        e = f.e;
        d = f.d;
        r = f.r;
        fits = omega (arith, f.fits, h.0.next);
        is = f.is ∙ ap (λ (n : ℕ). p.encode n f.e) c;
        valid = f.valid;
        gives = f.gives;
        next = f.next ∙ (λ j. record { drawing = f.d; count = c j });
        tells = f.tells;
        place = f.place;
      }

  after_valid : (s : State D) (x : Entry D E R) (xs : List (Entry D E R)) → Linked p s (x ∷ xs) → Valid s.drawing → Valid x.after.drawing
  after_valid s x xs h y = keeps s.drawing x.edit x.after.drawing x.report y h.0.gives

  found : (s : State D) (l : List (Entry D E R)) → Linked p s l → Valid s.drawing → (m : List ℕ) → Memᴰ m (map (written p) l) → Found s l m
  found s [] h y m q = absurd (Memᴰ.not-nil q)
  found s (x ∷ xs) h y m q = ⊎_elim (found_here s x xs h y m) (λ u. found_later s x xs h m (found x.after xs h.1 (after_valid s x xs h y) m u)) (Memᴰ.cases_cons q)

  -- the message at place k has the number k + 1, and an edit that was accepted
  record Numbered (s : State D) (k : ℕ) (m : List ℕ) : Type 0 where
    e : E
    is : m ≡ p.encode (s.count + k + 1) e
    before : D
    valid : Valid before
    d : D
    r : R
    gives : p.edit before e ≡ accepted d r
    fits : s.count + k < max_edit_number

  numbered : (s : State D) (l : List (Entry D E R)) → Linked p s l → Valid s.drawing → (k : ℕ) (m : List ℕ) → get_elem? (map (written p) l) k ≡ some m → Numbered s k m
  numbered s [] h y k m q = let z : ◌≡◌ {A = ℕ} 0 1 = cc in absurd (omega arith)
  numbered s (x ∷ xs) h y zero m q =
      let c : x.after.count ≡ s.count + 0 + 1 = omega (arith, h.0.next) in
      record {
        e = x.edit;
        is = sym (some_inj q) ∙ ap (λ (n : ℕ). p.encode n x.edit) c;
        before = s.drawing;
        valid = y;
        d = x.after.drawing;
        r = x.report;
        gives = h.0.gives;
        fits = omega (arith, h.0.fits);
      }
  numbered s (x ∷ xs) h y (suc k) m q =
      let n = numbered x.after xs h.1 (after_valid s x xs h y) k m q in
      let c : x.after.count + k + 1 ≡ s.count + suc k + 1 = omega (arith, h.0.next) in
      record {
        e = n.e;
        is = n.is ∙ ap (λ (j : ℕ). p.encode j n.e) c;
        before = n.before;
        valid = n.valid;
        d = n.d;
        r = n.r;
        gives = n.gives;
        fits = omega (arith, n.fits, h.0.next);
      }

  module _ (read : Read p Valid) (s₀ : State D) (l : List (Entry D E R)) (h : Linked p s₀ l) (g : Valid s₀.drawing) (z : s₀.count ≡ 0) where
    -- the wall's state is the reference machine's at the wall's count
    abbrev pub Inv : State D → Type 0
    Inv w = (w ≡ state_at s₀ l w.count) × (w.count ≤ length l)

    -- one delivery
    data Moved (w : State D) (x : WallStep D R) : Type 0 where
      stays : x.state ≡ w → (get_elem? (map (written p) l) w.count ≡ some x.bytes → ⊥) → Moved w x
      moves : (r : R) → x.state ≡ state_at s₀ l (suc w.count) → x.reply ≡ wall_applied r → get_elem? (map applied_reply l) w.count ≡ some (wall_applied r) → get_elem? (map (written p) l) w.count ≡ some x.bytes → Moved w x

    decoded : (m : List ℕ) (f : Found s₀ l m) → p.decode m ≡ message (f.i + 1) f.e
    decoded m f =
        let n : s₀.count + f.i + 1 ≡ f.i + 1 = omega arith in
        ap p.decode f.is ∙ read _ f.e _ _ f.valid f.gives (s₀.count + f.i + 1) (omega arith) (omega (arith, f.fits)) ∙ ap (λ (k : ℕ). message k f.e) n

    -- the message at place k is read as its number and an edit
    numbered_read : (k : ℕ) (m : List ℕ) → get_elem? (map (written p) l) k ≡ some m → (e : E) × (p.decode m ≡ message (s₀.count + k + 1) e)
    numbered_read k m q =
        let n = numbered s₀ l h g k m q in
        (n.e, ap p.decode n.is ∙ read _ n.e _ _ n.valid n.gives (s₀.count + k + 1) (omega arith) (omega (arith, n.fits)))

    not_next : (k : ℕ) (m : List ℕ) (f : Found s₀ l m) → (f.i ≡ k → ⊥) → get_elem? (map (written p) l) k ≡ some m → ⊥
    not_next k m f ne q =
        let (e, u) = numbered_read k m q in
        let v = decoded m f in
        let j : f.i + 1 ≡ s₀.count + k + 1 = cc in
        ne (omega arith)

    -- what is not read is no message, and leaves the wall
    unread_stays : (w : State D) (x : WallStep D R) → WallStepValid p w x → Unread p x.bytes → Moved w x
    unread_stays w x y (n, u) =
        stays (y.state ∙ ap (λ (d : Decoded E). (wall_transition p w d).0) u)
        (λ q.
        let (e, v) = numbered_read w.count x.bytes q in
        let z : ◌≡◌ {A = ℕ} 0 1 = cc in
        absurd (omega arith))

    own_moved : (w : State D) (x : WallStep D R) → Inv w → WallStepValid p w x → Memᴰ x.bytes (map (written p) l) → Moved w x
    own_moved w x v y q = old_case (dec_le (f.i + 1) w.count)
      where
        f : Found s₀ l x.bytes
        f = found s₀ l h g x.bytes q

        reading : wall_transition p w (p.decode x.bytes) ≡ wall_transition p w (message (f.i + 1) f.e)
        reading = ap (wall_transition p w) (decoded x.bytes f)

        stay : (t : WallReply R) → wall_transition p w (message (f.i + 1) f.e) ≡ (w, t) → (f.i ≡ w.count → ⊥) → Moved w x
        stay t e ne = stays (y.state ∙ ap (λ (u : State D × WallReply R). u.0) (reading ∙ e)) (not_next w.count x.bytes f ne)

        new_case : (f.i + 1 ≤ w.count → ⊥) → Dec (f.i + 1 ≡ w.count + 1) → Moved w x
        new_case nb (yes e) =
            let k : f.i ≡ w.count = omega arith in
            let at : state_at s₀ l f.i ≡ w = ap (state_at s₀ l) k ∙ sym v.0 in
            let g : p.edit w.drawing f.e ≡ accepted f.d f.r = ap (λ (t : State D). p.edit t.drawing f.e) (sym at) ∙ f.gives in
            let u : wall_transition p w (message (f.i + 1) f.e) ≡ (record { drawing = f.d; count = f.i + 1 }, wall_applied f.r) =
            rw (lt-leb (f.i + 1) w.count (omega arith), eq-eqb (f.i + 1) (w.count + 1) e, g)
            in
            let n : f.i + 1 ≡ s₀.count + f.i + 1 = omega arith in
            moves f.r
            (y.state ∙ ap (λ (u : State D × WallReply R). u.0) (reading ∙ u) ∙ (λ j. record { drawing = f.d; count = n j }) ∙ sym f.next ∙ ap (λ (j : ℕ). state_at s₀ l (suc j)) k)
            (y.reply ∙ ap (λ (u : State D × WallReply R). u.1) (reading ∙ u))
            (ap (get_elem? (map applied_reply l)) (sym k) ∙ f.tells)
            (ap (get_elem? (map (written p) l)) (sym k) ∙ f.place)
        new_case nb (no ne) = stay (wall_refused 7 0) (rw (lt-leb (f.i + 1) w.count (omega arith), ne_eqb (f.i + 1) (w.count + 1) ne)) (λ i. ne (omega arith))

        old_case : Dec (f.i + 1 ≤ w.count) → Moved w x
        old_case (yes b) = stay wall_old (rw (le-leb (f.i + 1) w.count b)) (λ i. omega arith)
        old_case (no nb) = new_case nb (ℕ_discrete (f.i + 1) (w.count + 1))

    moved : (w : State D) (x : WallStep D R) → Inv w → WallStepValid p w x → Memᴰ x.bytes (map (written p) l) ⊎ Unread p x.bytes → Moved w x
    moved w x v y = ⊎_elim (own_moved w x v y) (unread_stays w x y)

    -- the invariant goes on
    inv_stays : (w t : State D) → t ≡ w → Inv w → Inv t
    inv_stays w t e v = subst Inv (sym e) v

    inv_moves : (w t : State D) → t ≡ state_at s₀ l (suc w.count) → w.count < length l → (t.count ≡ suc w.count) × Inv t
    inv_moves w t e b =
        let c : t.count ≡ suc w.count = ap (λ (u : State D). u.count) e ∙ state_count p s₀ l h (suc w.count) (omega arith) ∙ omega arith in
        (c, (e ∙ ap (state_at s₀ l) (sym c), omega arith))

    below : (w : State D) (m : List ℕ) → get_elem? (map (written p) l) w.count ≡ some m → w.count < length l
    below w m e = omega (arith, lookup_below (map (written p) l) w.count m e, length-map l (written p))

    pub walked :
        (w : State D) (xs : List (WallStep D R)) → Inv w → WallRun p w xs → Delivered p (map (written p) l) xs
        → Inv (wall_after w xs) × (take w.count (map applied_reply l) ++ applied_replies w xs ≡ take (wall_after w xs).count (map applied_reply l))
    walked w [] v y q = (v, append-nil _)
    walked w (x ∷ xs) v y q = step (moved w x v y.0 q.0) (λ u. walked x.state xs u y.1 q.1)
      where
        step :
            Moved w x
            → (Inv x.state → Inv (wall_after x.state xs) × (take x.state.count (map applied_reply l) ++ applied_replies x.state xs ≡ take (wall_after x.state xs).count (map applied_reply l)))
            → Inv (wall_after x.state xs) × (take w.count (map applied_reply l) ++ ite (ltb w.count x.state.count) (x.reply ∷ applied_replies x.state xs) (applied_replies x.state xs) ≡ take (wall_after x.state xs).count (map applied_reply l))
        step (stays e ne) ih =
            let i = ih (inv_stays w x.state e v) in
            let c : x.state.count ≡ w.count = ap (λ (t : State D). t.count) e in
            (i.0, rw (le-ltb w.count x.state.count (omega arith)) (ap (λ (n : ℕ). take n (map applied_reply l) ++ applied_replies x.state xs) (sym c) ∙ i.1))
        step (moves r e u a b) ih =
            let c = inv_moves w x.state e (below w x.bytes b) in
            let i = ih c.1 in (
              i.0,
              rw (lt-ltb w.count x.state.count (omega (arith, c.0)))
                  (ap (λ (t : WallReply R). take w.count (map applied_reply l) ++ (t ∷ applied_replies x.state xs)) u
                  ∙ take_more (map applied_reply l) w.count (wall_applied r) a (applied_replies x.state xs)
                  ∙ ap (λ (n : ℕ). take n (map applied_reply l) ++ applied_replies x.state xs) (sym c.0)
                  ∙ i.1),
            )

    -- every message in its order brings the count to all
    pub reached :
        (w : State D) (xs : List (WallStep D R)) → Inv w → WallRun p w xs → Delivered p (map (written p) l) xs
        → Subsequence (drop w.count (map (written p) l)) (map (λ (x : WallStep D R). x.bytes) xs) → (wall_after w xs).count ≡ length l
    reached w [] v y q o = let e = drop_end (map (written p) l) w.count (order_nil _ _ o refl) in omega (arith, length-map l (written p))
    reached w (x ∷ xs) v y q o = step (moved w x v y.0 q.0) (λ u. reached x.state xs u y.1 q.1)
      where
        step :
            Moved w x
            → (Inv x.state → Subsequence (drop x.state.count (map (written p) l)) (map (λ (x : WallStep D R). x.bytes) xs) → (wall_after x.state xs).count ≡ length l)
            → (wall_after x.state xs).count ≡ length l
        step (stays e ne) ih =
            ih (inv_stays w x.state e v)
            (subst (λ (t : State D). Subsequence (drop t.count (map (written p) l)) (map (λ (x : WallStep D R). x.bytes) xs)) (sym e)
            (order_stay (map (written p) l) w.count x.bytes _ o ne))
        step (moves r e u a b) ih =
            let c = inv_moves w x.state e (below w x.bytes b) in
            ih c.1
            (subst (λ (n : ℕ). Subsequence (drop n (map (written p) l)) (map (λ (x : WallStep D R). x.bytes) xs)) (sym c.0)
            (order_next (map (written p) l) w.count x.bytes _ o b))

    pub rose : (w : State D) (x : WallStep D R) → Inv w → WallStepValid p w x → Memᴰ x.bytes (map (written p) l) ⊎ Unread p x.bytes → CountStep (map (written p) l) w.count x
    rose w x v y q = step (moved w x v y q)
      where
        step : Moved w x → CountStep (map (written p) l) w.count x
        step (stays e ne) = inr (ne, ap (λ (t : State D). t.count) e)
        step (moves r e u a b) = inl (b, (inv_moves w x.state e (below w x.bytes b)).0 ∙ sym (add-one _))

-- ---- a wall's count doesn't fall, whatever is delivered

module _ {D E R : Type 0} (p : Protocol D E R) where
  apply_rises : (s : State D) (n : ℕ) (e : E) (o : Outcome D R) → s.count ≤ n → s.count ≤ (wall_apply p s n e o).0.count
  apply_rises s n e (refused k) b = omega arith
  apply_rises s n e (accepted d r) b = b

  transition_rises : (s : State D) (u : Decoded E) → s.count ≤ (wall_transition p s u).0.count
  transition_rises s (invalid k) = omega arith
  transition_rises s (message n e) = go (leb n s.count) refl
    where
      next : (c : Bool) → s.count ≤ n → s.count ≤ (ite c (wall_apply p s n e (p.edit s.drawing e)) (s, wall_refused 7 0)).0.count
      next true b = apply_rises s n e (p.edit s.drawing e) b
      next false b = omega arith

      go : (c : Bool) → leb n s.count ≡ c → s.count ≤ (ite c (s, wall_old) (ite (eqb n (s.count + 1)) (wall_apply p s n e (p.edit s.drawing e)) (s, wall_refused 7 0))).0.count
      go true q = omega arith
      go false q = let b = leb-false n s.count q in next (eqb n (s.count + 1)) (omega arith)

  pub never_falls : (s : State D) (xs : List (WallStep D R)) → WallRun p s xs → s.count ≤ (wall_after s xs).count
  never_falls s [] h = omega arith
  never_falls s (x ∷ xs) h =
      let a = transition_rises s (p.decode x.bytes) in
      let b = never_falls x.state xs h.1 in
      let c : x.state.count ≡ (wall_transition p s (p.decode x.bytes)).0.count = ap (λ (t : State D). t.count) h.0.state in
      omega (arith, a, b, c)
