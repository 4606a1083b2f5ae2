-- A search's answer to a host, by its case.
use Prim.Native.Nat.{ℕ}
use mathlib.Core.Path.{◌≡◌, refl, sym, ◌∙◌}
use mathlib.Core.List.{List}
use native.Mathlib.Omega.{arith}
use lib.ListN.{set}
use lib.Ieee.{Float}
use Rattle.bernstein.specs.Roots.{RootsResult, found, refused, answer_of, Searched, number_of}
use Rattle.bernstein.specs.Answers.{Answer, Found, Refused}
use Rattle.mulkefi.specs.Polynomials.{roots_answer_after, RootsWritten}

module _ (o : RootsResult) (lent later : List Float) (before : List ℕ) (r : Answer) (s : Searched o lent later r) where
  pub answered_found : (n b : ℕ) → r ≡ Found n b → RootsWritten o lent later before (set (set before 0 n) 1 b) 0
  unfolding answer_of
  answered_found n b e = let k = go o (sym e ∙ s.answer) in record { number = sym k.0; buffer = s.buffer; numbers = sym k.1 }
    where
      go : (o : RootsResult) → Found n b ≡ answer_of o → (number_of o ≡ 0) × (roots_answer_after o before ≡ set (set before 0 n) 1 b)
      go (found l b') a = (refl, cc)
      go (refused w b') a = let z : ◌≡◌ {A = ℕ} 0 1 = cc in absurd (omega arith)

  pub answered_refused : (w b : ℕ) → r ≡ Refused w b → RootsWritten o lent later before before w
  unfolding answer_of
  answered_refused w b e = let k = go o (sym e ∙ s.answer) in record { number = sym k.0; buffer = s.buffer; numbers = sym k.1 }
    where
      go : (o : RootsResult) → Refused w b ≡ answer_of o → (number_of o ≡ w) × (roots_answer_after o before ≡ before)
      go (found l b') a = let z : ◌≡◌ {A = ℕ} 0 1 = cc in absurd (omega arith)
      go (refused w' b') a = (cc, refl)
