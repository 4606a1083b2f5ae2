-- The families of any edit that keeps drawings valid and whose accepted edits have an `EditEffect`: after any entries, from a state at any count, lines and
-- arcs have their chains and circles their rings (`families_joined`). And every drawing stays valid.
use mathlib.Core.Path.{◌≡◌, refl, sym, ap, ◌∙◌, subst}
use mathlib.Core.Bool.{true, false}
use mathlib.Core.List.{List, [], ◌∷◌, ◌++◌, append_assoc, append-nil}
use mathlib.Core.Option.{Option, some}
use Prim.Native.Nat.{ℕ, ◌<◌}
use native.Mathlib.Omega.{arith}
use native.Mathlib.Decide.{ℕ_discrete}
use lib.ListN.{length}
use Rattle.sketch.specs.declared.Curve.{Curve}
use Rattle.sketch.specs.Lookup.{among}
use Rattle.edit_plan.specs.declared.Removed.{Removed}
use Rattle.edit_plan.specs.Outcome.{accepted}
use Rattle.edit_plan.specs.Counts.{occurrences}
use Rattle.edit_plan.specs.Changes.{is_circle}
use Rattle.agreement.specs.Machines.{State, Protocol, Entry}
use Rattle.agreement.specs.Families.{CurveView, reports, added, family, Chain, centre_at, CircleOf, circle_uncut, circle_removed, circle_cut, FamiliesJoined}
use Rattle.agreement.specs.EditEffect.{EditEffect, CircleEffect, removed_whole, cut_to_arcs}
use Rattle.agreement.proofs.Counts.{one_is, at_most, among_as, away_count}
use Rattle.agreement.proofs.Families.{family_own, family_other, family_length}
use Rattle.agreement.proofs.Reference.{last, Linked}
use Rattle.agreement.proofs.Wall.{Keeping}
use Rattle.agreement.proofs.Chains.{Inv, step}
use Rattle.agreement.proofs.Rings.{inv_cut, circle_other, first_own}

-- what is asked of an edit, `Valid` telling which drawings it may be given
pub record Keeps {D E : Type 0} (p : Protocol D E Removed) (v : CurveView D) (target : E → ℕ) (Valid : D → Type 0) : Type 0 where
  pub valid : Keeping p Valid
  pub shape : (d : D) (e : E) (d' : D) (r : Removed) → Valid d → p.edit d e ≡ accepted d' r → EditEffect v d (target e) d' r
  pub bounded : (d : D) (c a b : ℕ) → Valid d → v.ends d c ≡ some (a, b) → c < v.next d
  pub curve_bounded : (d : D) (c : ℕ) (o : Curve) → Valid d → v.curve d c ≡ some o → c < v.next d

module _ {D E : Type 0} (p : Protocol D E Removed) (v : CurveView D) (target : E → ℕ) (Valid : D → Type 0) (k : Keeps p v target Valid) where
  -- ---- one entry

  module _ (s : State D) (x : Entry D E Removed) (xs : List (Entry D E Removed)) (h : Linked p s (x ∷ xs)) (y : Valid s.drawing) where
    effect : EditEffect v s.drawing (target x.edit) x.after.drawing x.report
    effect = k.shape s.drawing x.edit x.after.drawing x.report y h.0.gives

    next_valid : Valid x.after.drawing
    next_valid = k.valid s.drawing x.edit x.after.drawing x.report y h.0.gives

  -- so every drawing is valid
  pub last_valid : (s : State D) (l : List (Entry D E Removed)) → Linked p s l → Valid s.drawing → Valid (last s l).drawing
  last_valid s [] h y = y
  last_valid s (x ∷ xs) h y = last_valid x.after xs h.1 (next_valid s x xs h y)

  -- ---- chains

  run :
      (s : State D) (l : List (Entry D E Removed)) → Linked p s l → Valid s.drawing → (fam : List ℕ) (rs : List Removed) (a b : ℕ) (o : Option ℕ)
      → Inv v fam s.drawing rs a b o
      → Inv v (family v target s.drawing fam l) (last s l).drawing (rs ++ reports l) a b o
  run s [] h y fam rs a b o w = subst (λ (r : List Removed). Inv v fam s.drawing r a b o) (sym (append-nil rs)) w
  run s (x ∷ xs) h y fam rs a b o w =
      let r = x.report in
      subst (λ (r : List Removed). Inv v (family v target s.drawing fam (x ∷ xs)) (last x.after xs).drawing r a b o)
      (append_assoc rs (r ∷ []) (reports xs))
      (run x.after xs h.1 (next_valid s x xs h y) _ (rs ++ (r ∷ [])) a b o
      (step v fam s.drawing x.after.drawing (target x.edit) r rs a b o w (effect s x xs h y)))

  -- at the start the chain is the curve itself
  begin : (d : D) (c a b : ℕ) → Valid d → v.ends d c ≡ some (a, b) → Inv v (c ∷ []) d [] a b (centre_at (v.curve d c))
  begin d c a b y e =
      record {
        chain =
            record {
              members = record { id = c; from = a; to = b; stands = true } ∷ [];
              right = (e, tt);
              joined = (refl, refl);
              each = λ i. refl;
              once = λ i. at_most i c;
            };
        below = λ i q. subst (λ (j : ℕ). j < v.next d) (sym (one_is i c q)) (k.bounded d c a b y e);
        centred = λ i q u. ap (λ (j : ℕ). centre_at (v.curve d j)) (one_is i c q);
      }

  -- ---- circles

  -- a curve that stands no more is nobody's target, and is its family alone
  stays_away :
      (c : ℕ) (s : State D) (l : List (Entry D E Removed)) → Linked p s l → Valid s.drawing → c < v.next s.drawing → among c (v.ids s.drawing) ≡ false
      → (family v target s.drawing (c ∷ []) l ≡ c ∷ []) × (among c (v.ids (last s l).drawing) ≡ false)
  stays_away c s [] h y b z = (refl, z)
  stays_away c s (x ∷ xs) h y b z =
      let e = effect s x xs h y in
      let ne : target x.edit ≡ c → ⊥ = λ f. omega (arith, e.stood, away_count c (v.ids s.drawing) z, ap (λ (j : ℕ). occurrences j (v.ids s.drawing)) f) in
      let i = stays_away c x.after xs h.1 (next_valid s x xs h y) (omega (arith, e.grows)) (among_as c (v.ids x.after.drawing) (v.ids s.drawing) (e.others c b (λ f. ne (sym f))).1 ∙ z) in
      (family_other v target c s.drawing x xs ne ∙ i.0, i.1)

  circled :
      (c : ℕ) (o : Curve) (s : State D) (l : List (Entry D E Removed)) → Linked p s l → Valid s.drawing → v.curve s.drawing c ≡ some o → is_circle o.kind ≡ true
      → CircleOf v target s.drawing l (last s l).drawing c o
  circled c o s [] h y q round = circle_uncut refl refl q
  circled c o s (x ∷ xs) h y q round = go (ℕ_discrete (target x.edit) c) (λ e. circled c o x.after xs h.1 (next_valid s x xs h y) e round)
    where
      -- the circle itself was edited
      own : target x.edit ≡ c → EditEffect v s.drawing c x.after.drawing x.report → CircleEffect v s.drawing c x.after.drawing x.report → CircleOf v target s.drawing (x ∷ xs) (last x.after xs).drawing c o
      own f e (removed_whole r a n) =
          let i = stays_away c x.after xs h.1 (next_valid s x xs h y) (omega (arith, e.grows, k.curve_bounded s.drawing c o y q)) n in
          circle_removed (first_own target c x xs f ∙ ap some r) (family_own v target c s.drawing x xs f ∙ ap (λ (js : List ℕ). family v target x.after.drawing (c ∷ js) xs) a ∙ i.0) i.1
      own f e (cut_to_arcs n m i z w) =
          let g = family_own v target c s.drawing x xs f in
          let inv = run x.after xs h.1 (next_valid s x xs h y) (c ∷ added v s.drawing x.after.drawing x.report) (x.report ∷ []) i i (centre_at (v.curve s.drawing c)) (inv_cut v s.drawing x.after.drawing c x.report e (k.curve_bounded s.drawing c o y q) i w) in
          circle_cut x.report (first_own target c x xs f) n
          (record {
            several = subst (λ (js : List ℕ). 1 < length js) (sym g) (omega (arith, m, family_length v target x.after.drawing (c ∷ added v s.drawing x.after.drawing x.report) xs));
            from = i;
            above_zero = z;
            chain = subst (λ (js : List ℕ). Chain v js (last x.after xs).drawing (x.report ∷ reports xs) i i) (sym g) inv.chain;
            centred = λ j n u. inv.centred j (subst (λ (js : List ℕ). 0 < occurrences j js) g n) u ∙ ap centre_at q;
          })

      go : Dec (target x.edit ≡ c) → (v.curve x.after.drawing c ≡ some o → CircleOf v target x.after.drawing xs (last x.after xs).drawing c o) → CircleOf v target s.drawing (x ∷ xs) (last x.after xs).drawing c o
      go (yes f) ih =
          let e = subst (λ (t : ℕ). EditEffect v s.drawing t x.after.drawing x.report) f (effect s x xs h y) in
          own f e (e.circle o q round)
      go (no ne) ih = circle_other v target c o s.drawing x xs (last x.after xs).drawing ne (ih ((effect s x xs h y).others_curve c (k.curve_bounded s.drawing c o y q) (λ f. ne (sym f)) ∙ q))

  -- ---- both

  pub families_joined :
      (s : State D) (l : List (Entry D E Removed)) → Linked p s l → Valid s.drawing → (t : State D) → last s l ≡ t
      → FamiliesJoined v target s.drawing l t.drawing
  families_joined s l h y t q =
      subst (λ (u : State D). FamiliesJoined v target s.drawing l u.drawing) q
      (record {
        chains = λ c a b e. (run s l h y (c ∷ []) [] a b (centre_at (v.curve s.drawing c)) (begin s.drawing c a b y e)).chain;
        circles = λ c o e round. circled c o s l h y e round;
      })
