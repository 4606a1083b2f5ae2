-- The sorts of curves by their numbers, as the rules have them.
use Rattle.std.specs.Prelude.{ℕ, Option, Some, None}
use Rattle.sketch.specs.declared.Sort.{Sort}
use Rattle.sketch.specs.declared.Sort.TheVariants.{Line, Round, Freeform}

abbrev pub sort_number : Sort → ℕ
sort_number Line = 1
sort_number Round = 2
sort_number Freeform = 3

-- a sort's number, whatever stands for sorts; 0 stands for no curve
abbrev pub number_or_zero : {A : Type 0} → (A → ℕ) → Option A → ℕ
number_or_zero number None = 0
number_or_zero number (Some s) = number s

abbrev pub sort_number_of : Option Sort → ℕ
sort_number_of s = number_or_zero sort_number s
