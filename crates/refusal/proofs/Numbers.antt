-- No refusal has the number 0, so that 0 tells what is accepted.
use Rattle.std.proofs.Common.{◌≡◌, ◌<◌, refl, arith, lit<}
use Rattle.std.specs.Prelude.{Result, Ok, Err}
use Rattle.refusal.specs.declared.Refusal.{Refusal}
use Rattle.refusal.specs.declared.Refusal.TheVariants.{BadLength, BadVersion, BadCount, BadValue, BadId, BadOperation, Ahead, NoCurve, BadPick, WrongKind, FreeformNear, NoCut, RelationsUnmet, EndHeld, Overlap, OffLine, Tie, NothingMet, RelationsBroken, BadCoefficients, BudgetSpent, TableFull, IdsSpent, PointFarAway, ShortBuffer, LeftWindow, CountAbove, Foreign}
use Rattle.refusal.specs.Refusals.{number, refusal_number}

pub number_above_0 : (r : Refusal) → 0 < number r
number_above_0 BadLength = lit< tt
number_above_0 BadVersion = lit< tt
number_above_0 BadCount = lit< tt
number_above_0 BadValue = lit< tt
number_above_0 BadId = lit< tt
number_above_0 BadOperation = lit< tt
number_above_0 Ahead = lit< tt
number_above_0 NoCurve = lit< tt
number_above_0 BadPick = lit< tt
number_above_0 WrongKind = lit< tt
number_above_0 FreeformNear = lit< tt
number_above_0 NoCut = lit< tt
number_above_0 (RelationsUnmet k) = lit< tt
number_above_0 EndHeld = lit< tt
number_above_0 Overlap = lit< tt
number_above_0 OffLine = lit< tt
number_above_0 Tie = lit< tt
number_above_0 NothingMet = lit< tt
number_above_0 (RelationsBroken k) = lit< tt
number_above_0 BadCoefficients = lit< tt
number_above_0 BudgetSpent = lit< tt
number_above_0 TableFull = lit< tt
number_above_0 IdsSpent = lit< tt
number_above_0 PointFarAway = lit< tt
number_above_0 ShortBuffer = lit< tt
number_above_0 LeftWindow = lit< tt
number_above_0 CountAbove = lit< tt
number_above_0 Foreign = lit< tt

-- what has the number 0 is accepted
pub accepted_of_0 : {A : Type 0} (x : Result A Refusal) → refusal_number x ≡ 0 → (a : A) × (x ≡ Ok a)
accepted_of_0 (Ok a) e = (a, refl)
accepted_of_0 (Err r) e = absurd (omega (arith, number_above_0 r))
