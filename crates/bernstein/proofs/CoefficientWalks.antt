-- Laws of the walk that makes the derivative's coefficients. Assumes nothing.
use mathlib.Core.Path.{◌≡◌, sym, subst, ◌∙◌}
use mathlib.Core.List.{List, ◌++◌, append-nil}
use Prim.Native.Nat.{ℕ, suc, ◌+◌, ◌-◌, ◌^◌, ◌≤◌, ◌<◌}
use native.Mathlib.Numerals.{add-one}
use native.Mathlib.Omega.{arith}
use borrow.Author.Tests.{le-leb}
use lib.Dec.{T}
use lib.IntN.{pos}
use lib.ListN.{length, take, drop, get_or, set, drop_of_length-le}
use lib.Seq.{drop-cons}
use lib.Ieee.{Float, nan, binary64, in_float}
use Rattle.float.specs.Numbers.{◌⊖◌, ◌⊗◌, as_float}
use Rattle.bernstein.specs.Roots.{slopes, derivative_of}
use Rattle.bernstein.proofs.Lists.{pushed}

pub whole : (n : ℕ) → n ≤ 15 → T (in_float binary64 (pos n))
unfolding in_float
whole n h = subst T (sym (le-leb n (2 ^ 53) (omega arith))) tt

pub next_slope : (k : Float) (c d : List Float) (i : ℕ) → i + 1 < length c → i < length d
    → take (i + 1) (set d i ((get_or c (i + 1) nan ⊖ get_or c i nan) ⊗ k)) ++ slopes k (drop (i + 1) c) ≡ take i d ++ slopes k (drop i c)
unfolding slopes
next_slope k c d i h g =
    let h₀ : i < length c = omega arith in
    pushed _ d i _ g ∙ rw (drop-cons c i nan h₀, ← add-one i, drop-cons c (i + 1) nan h)

pub all_slopes : (c d : List Float) (i : ℕ) → i + 1 ≡ length c → take i d ++ slopes (as_float (length c - 1)) (drop i c) ≡ slopes (as_float (length c - 1)) c
    → take (length c - 1) d ≡ derivative_of c
unfolding slopes derivative_of
all_slopes c d i h e =
    let h₀ : i < length c = omega arith in
    let h₁ : length c ≤ suc i = omega arith in
    let h₂ : length c - 1 ≡ i = omega arith in
    rw h₂ (sym (append-nil (take i d)) ∙ (rw (h₂, drop-cons c i nan h₀, drop_of_length-le c h₁) at e))
