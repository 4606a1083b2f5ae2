-- The length of a buffer whose front was lent and came back. Assumes nothing.
use Prim.Native.Nat.{ℕ, ◌≤◌}
use mathlib.Core.Path.{◌≡◌, sym}
use mathlib.Core.List.{List, ◌++◌}
use native.Mathlib.Omega.{arith}
use lib.ListN.{length, take, drop, length-append, length-drop}
use lib.Seq.{length-take-le}

module _ {A : Type 0} (k : ℕ) (u : List A) (h : k ≤ length u) where
  pub front_length : k ≡ length (take k u)
  front_length = sym (length-take-le k u h)

  pub whole_length : (last : List A) → length last ≡ length (take k u) → length (last ++ drop k u) ≡ length u
  whole_length last e = simp (length-append, length-drop) (omega (arith, length-take-le k u h))
