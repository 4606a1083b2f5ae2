-- What applying a plan to an image answers, by numbers. Definitions only.
use Rattle.std.specs.Prelude.{ℕ, Result, Ok, Err}
use Rattle.refusal.specs.declared.Refusal.{Refusal}
use Rattle.refusal.specs.Refusals.{number}
use Rattle.edit_plan.specs.declared.Removed.{Removed}
use Rattle.edit_plan.specs.Steps.{nothing}
use Rattle.apply.specs.declared.Applied.{Applied}

-- the number of a refusal, or 0 with the report and the size of the new image
pub record Answer : Type 0 where
  pub refusal : ℕ
  pub removed : Removed
  pub size : ℕ

abbrev pub answer_of : Result Applied Refusal → Answer
answer_of (Ok a) = record { refusal = 0; removed = a.removed; size = a.size }
answer_of (Err r) = record { refusal = number r; removed = nothing; size = 0 }
