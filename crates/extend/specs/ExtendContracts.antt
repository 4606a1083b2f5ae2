-- The contracts of an extend's private functions, which nothing outside needs: what becomes of the end of a line.
use Rattle.std.specs.Prelude.{ℕ, ◌≡◌, Bool, Result, Ok, Err}
use Rattle.refusal.specs.declared.Refusal.{Refusal}
use Rattle.refusal.specs.Refusals.{number, Accepted, Refused}
use Rattle.edit_plan.specs.declared.Plan.TheVariants as P
use Rattle.planning.specs.Planning.{PlanResult}
use Rattle.extend.specs.declared.EndMove.{EndMove}

abbrev pub plan_of : Result EndMove Refusal → PlanResult
plan_of (Err r) = Refused (number r)
plan_of (Ok m) = Accepted (P.Move m.at_b m.to m.pin)

abbrev pub MovesAt : Bool → ℕ → Result EndMove Refusal → Type 0
MovesAt at_b k (Err r) = Unit {0}
MovesAt at_b k (Ok m) = (m.at_b ≡ at_b) × (m.place ≡ k)
