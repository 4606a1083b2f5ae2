-- A refusal of the search finds nothing. Assumes nothing.
use mathlib.Core.Path.{◌≡◌}
use Prim.Native.Nat.{ℕ}
use native.Mathlib.Omega.{arith}
use Rattle.bernstein.specs.Answers.{Found, Refused}

pub refused_not_found : {A : Type 0} {n b w k : ℕ} → Refused w k ≡ Found n b → A
refused_not_found e = let z : ◌≡◌ {A = ℕ} 0 1 = cc in absurd (omega arith)
