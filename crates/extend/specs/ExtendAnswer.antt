-- What is answered for an extend: its plan applied, and the place of a relation with 13 and 19. Definitions only.
use Rattle.std.specs.Prelude.{ℕ, Bool, eqb}
use Rattle.sketch.specs.Lists.{ite}
use Rattle.sketch.specs.Drawing.{Drawing, Limits}
use Rattle.relations.specs.Met.{first_unmet}
use Rattle.edit_plan.specs.declared.Removed.{Removed}
use Rattle.edit_plan.specs.Outcome.{Outcome, refused, accepted}
use Rattle.edit_plan.specs.ApplyPlan.{apply_plan}
use Rattle.refusal.specs.Refusals.{Refused, Accepted}
use Rattle.planning.specs.Planning.{PlanResult}

-- ---- plan, then apply

unfoldable pub apply_planned : (Drawing → Bool) → Limits → Drawing → ℕ → PlanResult → Outcome Drawing Removed
apply_planned met m d t (Refused n) = refused n
apply_planned met m d t (Accepted plan) = apply_plan met m d t plan

-- ---- the place that comes with a refusal

-- of the first unmet relation in the drawing that an edit leaves; 0 where it leaves none
unfoldable pub first_unmet_in : Outcome Drawing Removed → ℕ
first_unmet_in (refused n) = 0
first_unmet_in (accepted d removed) = first_unmet d

-- with 13 of the first unmet relation of the drawing d; with 19 of the first in the drawing that the edit would have left, which is its outcome without the
-- test of relations at its end; with any other number 0
unfoldable pub reported_place : Drawing → Outcome Drawing Removed → ℕ → ℕ
reported_place d untested n = ite (eqb n 13) (first_unmet d) (ite (eqb n 19) (first_unmet_in untested) 0)
