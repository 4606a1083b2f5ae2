-- The numbers of refusals.
use Rattle.std.specs.Prelude.{ℕ, Result, Ok, Err}
use Rattle.refusal.specs.declared.Refusal.{Refusal}
use Rattle.refusal.specs.declared.Refusal.TheVariants.{BadLength, BadVersion, BadCount, BadValue, BadId, BadOperation, Ahead, NoCurve, BadPick, WrongKind, FreeformNear, NoCut, RelationsUnmet, EndHeld, Overlap, OffLine, Tie, NothingMet, RelationsBroken, BadCoefficients, BudgetSpent, TableFull, IdsSpent, PointFarAway, ShortBuffer, LeftWindow, CountAbove, Foreign}

-- the number that the documents give each refusal
abbrev pub number : Refusal → ℕ
number BadLength = 1
number BadVersion = 2
number BadCount = 3
number BadValue = 4
number BadId = 5
number BadOperation = 6
number Ahead = 7
number NoCurve = 8
number BadPick = 9
number WrongKind = 10
number FreeformNear = 11
number NoCut = 12
number (RelationsUnmet k) = 13
number EndHeld = 14
number Overlap = 15
number OffLine = 16
number Tie = 17
number NothingMet = 18
number (RelationsBroken k) = 19
number BadCoefficients = 20
number BudgetSpent = 21
number TableFull = 22
number IdsSpent = 23
number PointFarAway = 24
number ShortBuffer = 25
number LeftWindow = 26
number CountAbove = 27
number Foreign = 28

-- the place that comes with 13 and 19, 0 with the others
abbrev pub place : Refusal → ℕ
place (RelationsUnmet k) = k
place (RelationsBroken k) = k
place r = 0

-- the number of what refuses a call, 0 where it is accepted
abbrev pub refusal_number : {A : Type 0} → Result A Refusal → ℕ
refusal_number (Ok a) = 0
refusal_number (Err r) = number r

-- the place that comes with it, 0 where it is accepted
abbrev pub refusal_place : {A : Type 0} → Result A Refusal → ℕ
refusal_place (Ok a) = 0
refusal_place (Err r) = place r

-- an answer, or the number of a refusal
pub data Numbered (A : Type 0) : Type 0 where
  Accepted : A → Numbered A
  Refused : ℕ → Numbered A

-- what is accepted, or what refuses it by its number
abbrev pub numbered : {A : Type 0} → Result A Refusal → Numbered A
numbered (Ok a) = Accepted a
numbered (Err r) = Refused (number r)
