-- What an edit of an image answers, as numbers. Definitions only.
use Rattle.std.specs.Prelude.{ℕ, Result, Ok, Err}
use Rattle.refusal.specs.declared.Refusal.{Refusal}
use Rattle.refusal.specs.Refusals as N
use Rattle.edit_plan.specs.declared.Removed.{Removed}
use Rattle.edit_plan.specs.Steps.{nothing}
use Rattle.apply.specs.declared.Applied.{Applied}

-- the number of a refusal, with the place of a relation where 13 or 19 come with one, else 0; or 0, with the report and the size of the new image
pub record ImageAnswer : Type 0 where
  pub refusal : ℕ
  pub place : ℕ
  pub removed : Removed
  pub size : ℕ

-- a refusal, with the place of a relation or 0
abbrev pub refused_at : ℕ → ℕ → ImageAnswer
refused_at n place = record { refusal = n; place = place; removed = nothing; size = 0 }

abbrev pub answer_of : Result Applied Refusal → ImageAnswer
answer_of (Ok a) = record { refusal = 0; place = 0; removed = a.removed; size = a.size }
answer_of (Err r) = refused_at (N.number r) (N.place r)
