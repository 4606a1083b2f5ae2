-- The place that comes with a refusal, by its number. Assumes nothing.
use mathlib.Core.Path.{◌≡◌, refl, ap, ◌∙◌}
use Rattle.refusal.specs.declared.Refusal.{Refusal}
use Rattle.refusal.specs.declared.Refusal.TheVariants.{RelationsUnmet, RelationsBroken}
use Rattle.refusal.specs.Refusals.{number, place}
use Prim.Native.Nat.{ℕ, ◌≤◌}
use native.Mathlib.Omega.{arith}
use borrow.Author.Tests.{ne_eqb}
use Rattle.sketch.specs.Drawing.{Drawing}
use Rattle.relations.specs.Met.{first_unmet}
use Rattle.edit_plan.specs.declared.Removed.{Removed}
use Rattle.edit_plan.specs.Outcome.{Outcome, accepted}
use Rattle.extend.specs.ExtendAnswer.{first_unmet_in, reported_place}

-- a number that comes with no place
pub record Placeless (n : ℕ) : Type 0 where
  pub not_13 : n ≡ 13 → ⊥
  pub not_19 : n ≡ 19 → ⊥

pub placeless_below : {n : ℕ} → n ≤ 12 → Placeless n
placeless_below h = record { not_13 = λ z. omega arith; not_19 = λ z. omega arith }

pub placeless_above : {n : ℕ} → 20 ≤ n → Placeless n
placeless_above h = record { not_13 = λ z. omega arith; not_19 = λ z. omega arith }

-- nor does the refusal come with one
pub without_place : (r : Refusal) → Placeless (number r) → place r ≡ 0
without_place (RelationsUnmet k) h = absurd (h.not_13 refl)
without_place (RelationsBroken k) h = absurd (h.not_19 refl)
without_place r h = refl

module _ (d : Drawing) (untested : Outcome Drawing Removed) where
  pub place_none : {n : ℕ} → Placeless n → 0 ≡ reported_place d untested n
  unfolding reported_place
  place_none {n} h = rw (ne_eqb n 13 h.not_13, ne_eqb n 19 h.not_19)

  pub place_13 : reported_place d untested 13 ≡ first_unmet d
  unfolding reported_place
  place_13 = refl

  pub place_19 : reported_place d untested 19 ≡ first_unmet_in untested
  unfolding reported_place
  place_19 = refl

-- where the edit leaves a drawing, 19's place is that of the first relation that is not met there
pub place_after : (d : Drawing) (untested : Outcome Drawing Removed) (d' : Drawing) (removed : Removed) → untested ≡ accepted d' removed → reported_place d untested 19 ≡ first_unmet d'
unfolding first_unmet_in
place_after d untested d' removed e = place_19 d untested ∙ ap first_unmet_in e
