-- What an edit added: no curve that the drawing had, and any other as often as it stands afterwards and is reported. And how a family grows by entries: by
-- those of its members alone, and it loses none. Assumes nothing.
use mathlib.Core.Path.{◌≡◌, ap, ◌∙◌}
use mathlib.Core.Bool.{Bool, true, false, not}
use mathlib.Core.List.{List, [], ◌∷◌, ◌++◌}
use Prim.Native.Nat.{ℕ, ◌+◌, ◌≤◌, ◌<◌}
use native.Mathlib.Omega.{arith}
use lib.ListN.{length, length-append}
use Rattle.sketch.specs.Lists.{ite}
use Rattle.sketch.specs.Lookup.{among}
use Rattle.edit_plan.specs.declared.Removed.{Removed}
use Rattle.edit_plan.specs.Counts.{occurrences}
use Rattle.edit_plan.proofs.Tables.{occ_append, occ_same, occ_other}
use Rattle.agreement.specs.Machines.{Entry}
use Rattle.agreement.specs.Families.{CurveView, removed_ids, added, family}
use Rattle.agreement.proofs.Counts.{there, away, kept, dropped}

module _ {D : Type 0} (v : CurveView D) (d d' : D) (r : Removed) (i : ℕ) where
  -- a curve that the edit removed again counts too
  pub added_new : occurrences i (v.ids d) ≡ 0 → occurrences i (added v d d' r) ≡ occurrences i (v.ids d') + occurrences i (removed_ids r)
  added_new h = kept (λ j. not (among j (v.ids d))) i (v.ids d' ++ removed_ids r) (ap not (away i (v.ids d) h)) ∙ occ_append i (v.ids d') (removed_ids r)

  pub added_old : 0 < occurrences i (v.ids d) → occurrences i (added v d d' r) ≡ 0
  added_old h = dropped (λ j. not (among j (v.ids d))) i (v.ids d' ++ removed_ids r) (ap not (there i (v.ids d) h))

module _ {D E : Type 0} (v : CurveView D) (target : E → ℕ) where
  -- ---- a family of one

  module _ (c : ℕ) (d : D) (x : Entry D E Removed) (xs : List (Entry D E Removed)) where
    abbrev grown : Bool → List ℕ
    grown u = family v target x.after.drawing (ite u (c ∷ added v d x.after.drawing x.report) (c ∷ [])) xs

    -- its own edit comes first
    pub family_own : target x.edit ≡ c → family v target d (c ∷ []) (x ∷ xs) ≡ family v target x.after.drawing (c ∷ added v d x.after.drawing x.report) xs
    family_own e = ap grown (ap (λ (t : ℕ). among t (c ∷ [])) e ∙ there c (c ∷ []) (omega (arith, occ_same c [])))

    -- another curve's does
    pub family_other : (target x.edit ≡ c → ⊥) → family v target d (c ∷ []) (x ∷ xs) ≡ family v target x.after.drawing (c ∷ []) xs
    family_other ne = ap grown (away (target x.edit) (c ∷ []) (occ_other (target x.edit) c [] ne))

  -- ---- no family loses a member

  pub family_length : (d : D) (fam : List ℕ) (l : List (Entry D E Removed)) → length fam ≤ length (family v target d fam l)
  family_length d fam [] = omega arith
  family_length d fam (x ∷ xs) = go (among (target x.edit) fam) (λ js. family_length x.after.drawing js xs)
    where
      go :
          (u : Bool) → ((js : List ℕ) → length js ≤ length (family v target x.after.drawing js xs))
          → length fam ≤ length (family v target x.after.drawing (ite u (fam ++ added v d x.after.drawing x.report) fam) xs)
      go true ih = let g = ih (fam ++ added v d x.after.drawing x.report) in omega (arith, length-append fam (added v d x.after.drawing x.report))
      go false ih = ih fam
