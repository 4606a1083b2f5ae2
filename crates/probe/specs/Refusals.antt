-- What is answered of a result, as one number. Definitions only.
use Rattle.std.specs.Prelude.{ℕ, ◌+◌, ◌*◌, ◌%◌, Result, Ok, Err}
use Rattle.refusal.specs.declared.Refusal.{Refusal}
use Rattle.refusal.specs.Refusals.{number, refusal_number, refusal_place}

-- a sum, or the number of what refuses it
abbrev pub number_or_sum : Result ℕ Refusal → ℕ
number_or_sum (Ok k) = k
number_or_sum (Err r) = number r

-- 0, or the number of what refuses a call, and above its 16 bits the place that comes with it
abbrev pub number_and_place : {A : Type 0} → Result A Refusal → ℕ
number_and_place x = refusal_number x + refusal_place x % 65536 * 65536
