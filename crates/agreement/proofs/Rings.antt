-- A circle and one edit: what its first cut gives is a ring, and an edit of another curve leaves what it had become. Assumes the edit's `EditEffect`. And what a
-- ring rules out: a point at which a member ends and none starts, or starts and none ends, and a member that is lost.
use mathlib.Core.Path.{◌≡◌, refl, sym, ap, ◌∙◌, subst}
use mathlib.Core.List.{List, [], ◌∷◌, map}
use mathlib.Core.Option.{Option, some}
use Prim.Native.Nat.{ℕ, ◌+◌, ◌<◌}
use native.Mathlib.Omega.{arith}
use native.Mathlib.Decide.{ℕ_discrete}
use borrow.Author.Tests.{eq-eqb, ne_eqb}
use Rattle.sketch.specs.declared.Curve.{Curve}
use Rattle.edit_plan.specs.declared.Removed.{Removed}
use Rattle.edit_plan.specs.Counts.{occurrences}
use Rattle.edit_plan.proofs.Tables.{occ_append, occ_same, occ_other}
use Rattle.agreement.specs.Machines.{Entry}
use Rattle.agreement.specs.Families.{CurveView, added, reports, Member, member_ids, Joined, ValidMember, ValidMembers, Chain, first_report, centre_of, centre_at, Ring, CircleOf, circle_uncut, circle_removed, circle_cut}
use Rattle.agreement.specs.EditEffect.{Pieces, EditEffect}
use Rattle.agreement.proofs.Families.{family_other}
use Rattle.agreement.proofs.Chains.{Inv, rights_late}

-- ---- the report that decides

module _ {D E : Type 0} (target : E → ℕ) (c : ℕ) (x : Entry D E Removed) (xs : List (Entry D E Removed)) where
  pub first_own : target x.edit ≡ c → first_report target c (x ∷ xs) ≡ some x.report
  first_own e = rw (eq-eqb (target x.edit) c e)

  pub first_other : (target x.edit ≡ c → ⊥) → first_report target c (x ∷ xs) ≡ first_report target c xs
  first_other ne = rw (ne_eqb (target x.edit) c ne)

module _ {D : Type 0} (v : CurveView D) where
  -- the arcs that a circle was cut to are a chain from a point back to it, and can be followed as one
  pub inv_cut :
      (d d' : D) (c : ℕ) (r : Removed) → EditEffect v d c d' r → c < v.next d → (i : ℕ) → Pieces v d c d' r i i
      → Inv v (c ∷ added v d d' r) d' (r ∷ []) i i (centre_at (v.curve d c))
  inv_cut d d' c r e b i w =
      record {
        chain = record { members = w.list; right = w.right; joined = w.joined; each = w.are; once = w.once };
        below = λ j n. below_at j n (ℕ_discrete j c);
        centred = e.centred;
      }
    where
      below_at : (j : ℕ) → 0 < occurrences j (c ∷ added v d d' r) → Dec (j ≡ c) → j < v.next d'
      below_at j n (yes q) = omega (arith, e.grows)
      below_at j n (no ne) = (w.new j (omega (arith, occ_other j c (added v d d' r) ne))).1

  -- an entry of another curve before the others
  module _ {E : Type 0} (target : E → ℕ) (c : ℕ) (o : Curve) (d : D) (x : Entry D E Removed) (xs : List (Entry D E Removed)) (d'' : D) (ne : target x.edit ≡ c → ⊥) where
    later_chain : {fam : List ℕ} {a b : ℕ} → Chain v fam d'' (reports xs) a b → Chain v fam d'' (x.report ∷ reports xs) a b
    later_chain h = record { members = h.members; right = rights_late v d'' (x.report ∷ []) (reports xs) h.members h.right; joined = h.joined; each = h.each; once = h.once }

    pub circle_other : CircleOf v target x.after.drawing xs d'' c o → CircleOf v target d (x ∷ xs) d'' c o
    circle_other (circle_uncut f g h) = circle_uncut (first_other target c x xs ne ∙ f) (family_other v target c d x xs ne ∙ g) h
    circle_other (circle_removed f g h) = circle_removed (first_other target c x xs ne ∙ f) (family_other v target c d x xs ne ∙ g) h
    circle_other (circle_cut r f n h) =
        circle_cut r (first_other target c x xs ne ∙ f) n
        (subst (λ (js : List ℕ). Ring v js d'' (x.report ∷ reports xs) (centre_of o.kind)) (sym (family_other v target c d x xs ne))
        (record { several = h.several; from = h.from; above_zero = h.above_zero; chain = later_chain h.chain; centred = h.centred }))

-- ---- points of a ring

-- from a to b a point is left as often as it is reached, but for a and b themselves
balanced :
    (a b : ℕ) (ms : List Member) → Joined a ms b → (q : ℕ)
    → occurrences q (map (λ m. m.from) ms) + occurrences q (b ∷ []) ≡ occurrences q (map (λ m. m.to) ms) + occurrences q (a ∷ [])
balanced a b [] h q = ap (λ (j : ℕ). 0 + occurrences q (j ∷ [])) (sym h)
balanced a b (m ∷ ms) h q =
    let i = balanced m.to b ms h.1 q in
    omega (
      arith,
      occ_append q (m.from ∷ []) (map (λ n. n.from) ms),
      occ_append q (m.to ∷ []) (map (λ n. n.to) ms),
      ap (λ (j : ℕ). occurrences q (j ∷ [])) h.0,
    )

module _ {D : Type 0} (v : CurveView D) (d : D) (rs : List Removed) (q : ℕ) where
  never_at : (f : Member → ℕ) → ((m : Member) → ValidMember v d rs m → f m ≡ q → ⊥) → (ms : List Member) → ValidMembers v d rs ms → occurrences q (map f ms) ≡ 0
  never_at f n [] h = refl
  never_at f n (m ∷ ms) h = occ_other q (f m) (map f ms) (λ e. n m h.0 (sym e)) ∙ never_at f n ms h.1

  some_at :
      (g : Member → ℕ) (i : ℕ) → ((m : Member) → ValidMember v d rs m → m.id ≡ i → g m ≡ q)
      → (ms : List Member) → ValidMembers v d rs ms → 0 < occurrences i (member_ids ms) → 0 < occurrences q (map g ms)
  some_at g i n [] h z = absurd (omega arith)
  some_at g i n (m ∷ ms) h z = go (ℕ_discrete i m.id) (some_at g i n ms h.1)
    where
      go : Dec (i ≡ m.id) → (0 < occurrences i (member_ids ms) → 0 < occurrences q (map g ms)) → 0 < occurrences q (g m ∷ map g ms)
      go (yes e) ih = omega (arith, ap (λ (j : ℕ). occurrences q (j ∷ map g ms)) (n m h.0 (sym e)), occ_same q (map g ms))
      go (no ne) ih = omega (arith, ih (omega (arith, occ_other i m.id (member_ids ms) ne)), occ_append q (g m ∷ []) (map g ms))

  unequal :
      (f g : Member → ℕ) (i : ℕ) → ((m : Member) → ValidMember v d rs m → f m ≡ q → ⊥) → ((m : Member) → ValidMember v d rs m → m.id ≡ i → g m ≡ q)
      → (ms : List Member) → ValidMembers v d rs ms → 0 < occurrences i (member_ids ms) → occurrences q (map f ms) ≡ occurrences q (map g ms) → ⊥
  unequal f g i n e ms h z u = omega (arith, never_at f n ms h, some_at g i e ms h z)

  module _ (i : ℕ) {fam : List ℕ} {o : Option ℕ} (z : 0 < occurrences i fam) (h : Ring v fam d rs o) where
    at_q : occurrences q (map (λ m. m.from) h.chain.members) ≡ occurrences q (map (λ m. m.to) h.chain.members)
    at_q = let b = balanced h.from h.from h.chain.members h.chain.joined q in omega arith

    there_i : 0 < occurrences i (member_ids h.chain.members)
    there_i = omega (arith, h.chain.each i)

    -- no ring has a point at which the member i ends and none starts
    pub end_without_start : ((m : Member) → ValidMember v d rs m → m.from ≡ q → ⊥) → ((m : Member) → ValidMember v d rs m → m.id ≡ i → m.to ≡ q) → ⊥
    end_without_start n e = unequal (λ m. m.from) (λ m. m.to) i n e h.chain.members h.chain.right there_i at_q

    -- nor one at which it starts and none ends
    pub start_without_end : ((m : Member) → ValidMember v d rs m → m.to ≡ q → ⊥) → ((m : Member) → ValidMember v d rs m → m.id ≡ i → m.from ≡ q) → ⊥
    start_without_end n e = unequal (λ m. m.to) (λ m. m.from) i n e h.chain.members h.chain.right there_i (sym at_q)

  -- nor a member that neither stands nor was reported, here with the id q
  pub member_lost : {fam : List ℕ} {o : Option ℕ} → 0 < occurrences q fam → ((m : Member) → ValidMember v d rs m → m.id ≡ q → ⊥) → Ring v fam d rs o → ⊥
  member_lost z n h = omega (arith, never_at (λ m. m.id) n h.chain.members h.chain.right, h.chain.each q)
