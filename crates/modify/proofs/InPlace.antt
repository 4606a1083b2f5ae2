-- An edit of the image at a buffer's front: what is taken over from the room that it was written to is what was to be written. Assumes nothing.
use mathlib.Core.Path.{◌≡◌, refl, sym, ap, ◌∙◌, subst}
use mathlib.Core.Bool.{Bool, true, false}
use mathlib.Core.List.{List}
use Prim.Native.Nat.{ℕ, zero, suc, ◌≤◌, ◌<◌}
use native.Mathlib.Omega.{arith}
use lib.ListN.{length, take}
use lib.Seq.{take_at}
use lib.Dec.{leb, eqb}
use borrow.Author.Tests.{le-leb, leb-true, leb-false, eqb-true}
use Rattle.big_endian.specs.Fields.{over, over_if_fits}
use Rattle.big_endian.specs.Laws.{Bytes, over_fits}
use Rattle.geom.specs.declared.Vec2.{Vec2}
use Rattle.sketch.specs.Drawing.{Drawing, limits}
use Rattle.image.specs.Image as I
use Rattle.image.specs.Encode.{encode}
use Rattle.image.proofs.Tables.{bytes_take}
use Rattle.message.specs.declared.Operation.{Operation}
use Rattle.edit_plan.specs.declared.Removed.{Removed}
use Rattle.edit_plan.specs.Outcome.{Outcome, refused, accepted, guard}
use Rattle.extend.specs.Answers.{ImageAnswer, refused_at, answer_of}
use Rattle.std.specs.Prelude.{Result, Ok, Err}
use Rattle.refusal.specs.declared.Refusal.{Refusal}
use Rattle.refusal.specs.declared.Refusal.TheVariants.{BadLength, BadVersion, BadCount, BadValue, BadId, BadOperation, Ahead, NoCurve, BadPick, WrongKind, FreeformNear, NoCut, RelationsUnmet, EndHeld, Overlap, OffLine, Tie, NothingMet, RelationsBroken, BadCoefficients, BudgetSpent, TableFull, IdsSpent, PointFarAway, ShortBuffer, LeftWindow, CountAbove, Foreign}
use Rattle.refusal.specs.Refusals.{number}
use Rattle.refusal.proofs.Numbers.{number_above_0}
use Rattle.extend.specs.ImageExtend.{if_fits, OutcomeWritten}
use Rattle.extend.proofs.Places.{placeless_above, place_none}
use Rattle.extend.proofs.ImageMoves.{image_valid}
use Rattle.modify.specs.Edits.{edit_of}
use Rattle.modify.specs.ImageEdits.{edit_image, EditWritten}
use Rattle.modify.specs.ImageContracts.{FrontReplaced, EditedThrough}
use Rattle.modify.proofs.Planned.{guard_accepted}
use Rattle.modify.proofs.WholeOutcomes.{fits_largest}
use Rattle.modify.proofs.Numbered.{image_edit_numbered}

-- ---- the ways out of taking over

-- no other refusal has the number of a buffer that is too short
pub other_number : (why : Refusal) → (why ≡ ShortBuffer → ⊥) → number why ≡ 25 → ⊥
other_number BadLength h e = omega arith
other_number BadVersion h e = omega arith
other_number BadCount h e = omega arith
other_number BadValue h e = omega arith
other_number BadId h e = omega arith
other_number BadOperation h e = omega arith
other_number Ahead h e = omega arith
other_number NoCurve h e = omega arith
other_number BadPick h e = omega arith
other_number WrongKind h e = omega arith
other_number FreeformNear h e = omega arith
other_number NoCut h e = omega arith
other_number (RelationsUnmet k) h e = omega arith
other_number EndHeld h e = omega arith
other_number Overlap h e = omega arith
other_number OffLine h e = omega arith
other_number Tie h e = omega arith
other_number NothingMet h e = omega arith
other_number (RelationsBroken k) h e = omega arith
other_number BadCoefficients h e = omega arith
other_number BudgetSpent h e = omega arith
other_number TableFull h e = omega arith
other_number IdsSpent h e = omega arith
other_number PointFarAway h e = omega arith
other_number ShortBuffer h e = h refl
other_number LeftWindow h e = omega arith
other_number CountAbove h e = omega arith
other_number Foreign h e = omega arith

module _ (e : ImageAnswer) (out b : List ℕ) where
  pub front_refused : (e.refusal ≡ 0 → ⊥) → FrontReplaced e out b b e
  front_refused z = record { when_refused = λ y. (refl, refl); when_short = λ y. absurd (z y); when_put = λ y. absurd (z y) }

  pub front_short : e.refusal ≡ 0 → length b < e.size → {r : ImageAnswer} → r ≡ refused_at 25 0 → FrontReplaced e out b b r
  front_short z h q = record { when_refused = λ y. absurd (y z); when_short = λ y l. (q, refl); when_put = λ y l. absurd (omega arith) }

  pub front_put : e.refusal ≡ 0 → e.size ≤ length b → {run b' : List ℕ} → run ≡ take e.size out → b' ≡ over_if_fits b 0 run → FrontReplaced e out b b' e
  front_put z h q p = record { when_refused = λ y. absurd (y z); when_short = λ y l. absurd (omega arith); when_put = λ y l. (refl, p ∙ ap (over_if_fits b 0) q) }

-- where nothing was made, the buffer is left
pub front_err : (why : Refusal) (out b : List ℕ) → FrontReplaced (answer_of (Err why)) out b b (answer_of (Err why))
front_err why out b = front_refused (answer_of (Err why)) out b (λ z. omega (arith, number_above_0 why))

pub edited_through :
    {op : Operation} {t : ℕ} {p : Vec2} (n : ℕ) {room : ℕ} (b : List ℕ) {b' image : List ℕ} {e r : ImageAnswer} → image ≡ take n b → (out out' : List ℕ) → EditWritten op image t p out out' e → length out ≡ room
    → FrontReplaced e out' b b' r → EditedThrough op (take n b) t p room b b' r
edited_through {op = op} {t = t} {p = p} n b {e = e} is out out' w l f =
    record { out = out; out' = out'; edited = e; room_is = l; written = subst (λ (s : List ℕ). EditWritten op s t p out out' e) is w; replaced = f }

-- ---- the edit

module _ (op : Operation) (s : List ℕ) (t : ℕ) (p : Vec2) where
  abbrev made : Outcome Drawing Removed
  made = edit_image op s t p

  -- a new image fits into a room
  abbrev Fits : ℕ → Type 0
  Fits room = (d : Drawing) (q : Removed) → made ≡ accepted d q → length (encode d) ≤ room

  module _ {room : ℕ} {b b' : List ℕ} {r : ImageAnswer} (x : EditedThrough op s t p room b b' r) where
    abbrev e : ImageAnswer
    e = x.edited

    -- any new image fits into the largest room
    pub fits_any : Bytes s → room ≡ I.max_image_size → Fits room
    fits_any are h d q g =
        let (f, made_is) = guard_accepted (eqb (I.image_fault s) 0) (I.image_fault s) (edit_of op limits (I.drawing_of s) t p) d q g in
        let z = eqb-true (I.image_fault s) 0 f in
        omega (arith, fits_largest op s t p x.written z (image_valid s z are) d q made_is)

    -- what was not refused by 25 had room
    pub fits_if : (r.refusal ≡ 25 → ⊥) → Fits room
    unfolding guard
    fits_if h d q g = go (leb (length (encode d)) (length x.out)) refl (subst (λ (o : Outcome Drawing Removed). OutcomeWritten (if_fits (length x.out) o) x.out x.out' e) g x.written.written)
      where
        go : (k : Bool) → leb (length (encode d)) (length x.out) ≡ k → OutcomeWritten (guard k 25 (accepted d q)) x.out x.out' e → length (encode d) ≤ room
        go true l w = omega (arith, leb-true (length (encode d)) (length x.out) l, x.room_is)
        go false l w =
            let is = w.refusal in
            let y = (x.replaced.when_refused (λ z. omega arith)).0 in
            absurd (h (ap (λ (r : ImageAnswer). r.refusal) y ∙ is))

    module _ (fits : Fits room) where
      by_refusal : (k : ℕ) → made ≡ refused k → OutcomeWritten (refused k) x.out x.out' e → EditWritten op s t p b b' r
      by_refusal k g w =
          let z : e.refusal ≡ 0 → ⊥ = λ h. image_edit_numbered op s t p (g ∙ ap refused (sym w.refusal ∙ h)) in
          let (same, kept) = x.replaced.when_refused z in
          let u : OutcomeWritten (if_fits (length b) made) b b e = subst (λ (o : Outcome Drawing Removed). OutcomeWritten (if_fits (length b) o) b b e) (sym g) (record { refusal = w.refusal; removed = w.removed; size = w.size; bytes = refl }) in
          subst (λ (l : List ℕ). EditWritten op s t p b l r) (sym kept)
          (subst (EditWritten op s t p b b) (sym same)
          (record { written = u; sound = x.written.sound; place = x.written.place }))

      module _ (d : Drawing) (q : Removed) (g : made ≡ accepted d q) (w : OutcomeWritten (accepted d q) x.out x.out' e) where
        image_is : take e.size x.out' ≡ encode d
        unfolding over
        image_is = ap (take e.size) w.bytes ∙ take_at (encode d) _ e.size (sym w.size)

        by_room : (k : Bool) → leb (length (encode d)) (length b) ≡ k → EditWritten op s t p b b' r
        unfolding guard
        by_room true h =
            let l : length (encode d) ≤ length b = leb-true (length (encode d)) (length b) h in
            let (same, put) = x.replaced.when_put w.refusal (omega (arith, w.size)) in
            let is : b' ≡ over b 0 (encode d) = put ∙ ap (over_if_fits b 0) image_is ∙ over_fits b 0 (encode d) (omega arith) in
            let u : OutcomeWritten (if_fits (length b) made) b (over b 0 (encode d)) e = rw (g, h) (record { refusal = w.refusal; removed = w.removed; size = w.size; bytes = refl }) in
            subst (λ (l : List ℕ). EditWritten op s t p b l r) (sym is)
            (subst (EditWritten op s t p b (over b 0 (encode d))) (sym same)
            (record { written = u; sound = x.written.sound; place = x.written.place }))
        by_room false h =
            let (same, kept) = x.replaced.when_short w.refusal (omega (arith, w.size, leb-false (length (encode d)) (length b) h)) in
            let u : OutcomeWritten (if_fits (length b) made) b b (refused_at 25 0) = rw (g, h) (record { refusal = refl; removed = refl; size = refl; bytes = refl }) in
            subst (λ (l : List ℕ). EditWritten op s t p b l r) (sym kept)
            (subst (EditWritten op s t p b b) (sym same)
            (record { written = u; sound = x.written.sound; place = place_none _ _ (placeless_above (omega arith)) }))

      pub edited_in_place : EditWritten op s t p b b' r
      unfolding guard
      edited_in_place = go made refl x.written.written
        where
          go : (o : Outcome Drawing Removed) → made ≡ o → OutcomeWritten (if_fits (length x.out) o) x.out x.out' e → EditWritten op s t p b b' r
          go (refused k) g w = by_refusal k g w
          go (accepted d q) g w =
              let h : length (encode d) ≤ length x.out = omega (arith, fits d q g, x.room_is) in
              by_room d q g (subst (λ (k : Bool). OutcomeWritten (guard k 25 (accepted d q)) x.out x.out' e) (le-leb _ _ h) w) (leb (length (encode d)) (length b)) refl

-- a refusal leaves the buffer
pub through_kept :
    {op : Operation} {s : List ℕ} {t : ℕ} {p : Vec2} {room : ℕ} {b b' : List ℕ} {r : ImageAnswer} → EditedThrough op s t p room b b' r → (r.refusal ≡ 0 → ⊥) → b' ≡ b
through_kept {b = b} {b' = b'} {r = r} x z = go x.edited.refusal refl (leb x.edited.size (length b)) refl
  where
    go : (k : ℕ) → x.edited.refusal ≡ k → (f : Bool) → leb x.edited.size (length b) ≡ f → b' ≡ b
    go zero e true h = absurd (z (ap (λ (r : ImageAnswer). r.refusal) (x.replaced.when_put e (leb-true _ _ h)).0 ∙ e))
    go zero e false h = (x.replaced.when_short e (omega (arith, leb-false x.edited.size (length b) h))).1
    go (suc k) e f h = (x.replaced.when_refused (λ y. omega arith)).1

-- with room for any, at once or once more
pub edited_at_once :
    (op : Operation) (t : ℕ) (p : Vec2) (n : ℕ) (b : List ℕ) {b' : List ℕ} {r : ImageAnswer} → EditedThrough op (take n b) t p I.max_image_size b b' r → Bytes b → EditWritten op (take n b) t p b b' r
edited_at_once op t p n b w are = edited_in_place op (take n b) t p w (fits_any op (take n b) t p w (bytes_take n b are) refl)

pub edited_again :
    (op : Operation) (t : ℕ) (p : Vec2) (n : ℕ) (b : List ℕ) {room : ℕ} {b' b'' : List ℕ} {r r' : ImageAnswer} → EditedThrough op (take n b) t p room b b' r → r.refusal ≡ 25
    → Bytes b → EditedThrough op (take n b') t p I.max_image_size b' b'' r' → EditWritten op (take n b) t p b b'' r'
edited_again op t p n b {b'' = b''} {r' = r'} x z are y =
    let same = through_kept x (λ h. omega arith) in
    let w : EditedThrough op (take n b) t p I.max_image_size b b'' r' = subst (λ (l : List ℕ). EditedThrough op (take n l) t p I.max_image_size l b'' r') same y in
    edited_at_once op t p n b w are
