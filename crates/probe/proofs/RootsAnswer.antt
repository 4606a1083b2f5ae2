-- A search's answer as plain numbers, by its case. Assumes nothing.
use Rattle.std.proofs.Common.{◌≡◌, ℕ, List, set, sym, refl, ◌∙◌, arith}
use lib.Ieee.{Float}
use Rattle.bernstein.specs.Answers.{Answer, Found, Refused}
use Rattle.bernstein.specs.Roots.{RootsResult, found, refused, answer_of, Searched, number_of}
use Rattle.probe.specs.Polynomials.{count_of, budget_of, RootsAndBudgetWritten}

module _ (o : RootsResult) (lent later : List Float) (before : List ℕ) (r : Answer) (s : Searched o lent later r) where
  pub answered_found : (n b : ℕ) → r ≡ Found n b → RootsAndBudgetWritten o lent later before (set (set before 0 n) 1 b) 0
  unfolding answer_of
  answered_found n b e = let k = go o (sym e ∙ s.answer) in record { number = sym k.0; buffer = s.buffer; numbers = rw (k.1, k.2) }
    where
      go : (o : RootsResult) → Found n b ≡ answer_of o → (number_of o ≡ 0) × (count_of o ≡ n) × (budget_of o ≡ b)
      go (found l b') a = (refl, cc, cc)
      go (refused w b') a = let z : ◌≡◌ {A = ℕ} 0 1 = cc in absurd (omega arith)

  pub answered_refused : (w b : ℕ) → r ≡ Refused w b → RootsAndBudgetWritten o lent later before (set (set before 0 0) 1 b) w
  unfolding answer_of
  answered_refused w b e = let k = go o (sym e ∙ s.answer) in record { number = sym k.0; buffer = s.buffer; numbers = rw (k.1, k.2) }
    where
      go : (o : RootsResult) → Refused w b ≡ answer_of o → (number_of o ≡ w) × (count_of o ≡ 0) × (budget_of o ≡ b)
      go (found l b') a = let z : ◌≡◌ {A = ℕ} 0 1 = cc in absurd (omega arith)
      go (refused w' b') a = (cc, refl, cc)
