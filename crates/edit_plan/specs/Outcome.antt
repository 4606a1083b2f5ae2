-- The outcome of a call, and steps of which the first refusal counts. Definitions only.
use Rattle.std.specs.Prelude.{ℕ, Bool, true, false}

-- refused by a number; or accepted, with the new value and a report
pub data Outcome (D A : Type 0) : Type 0 where
  refused : ℕ → Outcome D A
  accepted : D → A → Outcome D A

infixl 20 ◌then◌
-- the next step, on what was accepted
abbrev pub ◌then◌ : {D A B : Type 0} → Outcome D A → (D → A → Outcome D B) → Outcome D B
refused n then f = refused n
accepted d a then f = f d a

-- refused by the number where the test fails
unfoldable pub guard : {D A : Type 0} → Bool → ℕ → Outcome D A → Outcome D A
guard true n o = o
guard false n o = refused n
