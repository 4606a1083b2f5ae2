-- A refusal's number is small, and only 13 and 19 come with a place.
use Rattle.std.proofs.Common.{◌≡◌, ℕ, ◌+◌, ◌*◌, ◌%◌, ◌<◌, ◌≤◌, ◌⊎◌, refl, inl, inr, arith, lit<}
use Rattle.std.specs.Prelude.{Result, Ok, Err}
use Rattle.refusal.specs.declared.Refusal.{Refusal}
use Rattle.refusal.specs.declared.Refusal.TheVariants.{BadLength, BadVersion, BadCount, BadValue, BadId, BadOperation, Ahead, NoCurve, BadPick, WrongKind, FreeformNear, NoCut, RelationsUnmet, EndHeld, Overlap, OffLine, Tie, NothingMet, RelationsBroken, BadCoefficients, BudgetSpent, TableFull, IdsSpent, PointFarAway, ShortBuffer, LeftWindow, CountAbove, Foreign}
use Rattle.refusal.specs.Refusals.{number, place, refusal_number}
use Rattle.extend.proofs.Places.{Placeless, placeless_below, placeless_above}
use Rattle.probe.specs.Refusals.{number_and_place}

pub number_low : (r : Refusal) → number r < 29
number_low BadLength = lit< tt
number_low BadVersion = lit< tt
number_low BadCount = lit< tt
number_low BadValue = lit< tt
number_low BadId = lit< tt
number_low BadOperation = lit< tt
number_low Ahead = lit< tt
number_low NoCurve = lit< tt
number_low BadPick = lit< tt
number_low WrongKind = lit< tt
number_low FreeformNear = lit< tt
number_low NoCut = lit< tt
number_low (RelationsUnmet k) = lit< tt
number_low EndHeld = lit< tt
number_low Overlap = lit< tt
number_low OffLine = lit< tt
number_low Tie = lit< tt
number_low NothingMet = lit< tt
number_low (RelationsBroken k) = lit< tt
number_low BadCoefficients = lit< tt
number_low BudgetSpent = lit< tt
number_low TableFull = lit< tt
number_low IdsSpent = lit< tt
number_low PointFarAway = lit< tt
number_low ShortBuffer = lit< tt
number_low LeftWindow = lit< tt
number_low CountAbove = lit< tt
number_low Foreign = lit< tt

placeless : (r : Refusal) → Placeless (number r) → place r ≡ 0
placeless BadLength h = refl
placeless BadVersion h = refl
placeless BadCount h = refl
placeless BadValue h = refl
placeless BadId h = refl
placeless BadOperation h = refl
placeless Ahead h = refl
placeless NoCurve h = refl
placeless BadPick h = refl
placeless WrongKind h = refl
placeless FreeformNear h = refl
placeless NoCut h = refl
placeless (RelationsUnmet k) h = absurd (h.not_13 refl)
placeless EndHeld h = refl
placeless Overlap h = refl
placeless OffLine h = refl
placeless Tie h = refl
placeless NothingMet h = refl
placeless (RelationsBroken k) h = absurd (h.not_19 refl)
placeless BadCoefficients h = refl
placeless BudgetSpent h = refl
placeless TableFull h = refl
placeless IdsSpent h = refl
placeless PointFarAway h = refl
placeless ShortBuffer h = refl
placeless LeftWindow h = refl
placeless CountAbove h = refl
placeless Foreign h = refl

-- where no place comes with it, a refusal is answered by its number alone
pub plain_number : (r : Refusal) → Placeless (number r) → number r + place r % 65536 * 65536 ≡ number r
plain_number r h = omega (arith, placeless r h)

pub plain_outcome : {A : Type 0} (x : Result A Refusal) → (refusal_number x ≡ 0) ⊎ (refusal_number x ≡ 25) → number_and_place x ≡ refusal_number x
plain_outcome (Ok a) h = refl
plain_outcome (Err r) (inl e) = plain_number r (placeless_below (omega arith))
plain_outcome (Err r) (inr e) = plain_number r (placeless_above (omega arith))
