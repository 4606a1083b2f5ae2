-- What a search answers, by numbers. Definitions only.
use Rattle.std.specs.Prelude.{ℕ, Result, Ok, Err}
use Rattle.refusal.specs.Refusals.{number}
use Rattle.bernstein.specs.declared.Found.{Found as HowMany}
use Rattle.bernstein.specs.declared.Stopped.{Stopped}

-- how many were found, or a refusal's number; and the budget that is left
pub data Answer : Type 0 where
  Found : ℕ → ℕ → Answer
  Refused : ℕ → ℕ → Answer

abbrev pub answer_in : Result HowMany Stopped → Answer
answer_in (Ok f) = Found f.count f.budget
answer_in (Err s) = Refused (number s.refusal) s.budget
