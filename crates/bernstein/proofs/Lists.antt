-- Laws of lists that a walk over a buffer goes by. Assumes nothing.
use mathlib.Core.Path.{◌≡◌, ◌∙◌}
use mathlib.Core.List.{List, ◌∷◌, ◌++◌, append_assoc}
use Prim.Native.Nat.{ℕ, ◌+◌, ◌≤◌, ◌<◌}
use native.Mathlib.Nat.{zero-add}
use native.Mathlib.Numerals.{add-one}
use native.Mathlib.Omega.{arith}
use lib.ListN.{length, take, drop, get_or, set}
use lib.Seq.{take-suc-set, paste-suc, take_all}

module _ {A : Type 0} where
  -- a store behind what is done, of what comes next
  pub pushed : (r v : List A) (i : ℕ) (a : A) → i < length v → take (i + 1) (set v i a) ++ r ≡ take i v ++ (a ∷ r)
  pushed r v i a h = rw (add-one, take-suc-set v i a, append_assoc)

  -- a turn of a walk that lays s over d
  pub front_more : (d s v : List A) (i : ℕ) (z : A) → v ≡ take i s ++ drop i d → i < length d → i < length s
      → set v i (get_or s i z) ≡ take (i + 1) s ++ drop (i + 1) d
  front_more d s v i z e hd hs =
      let h : 0 + i < length d = rw zero-add hd in
      rw (e, add-one) (simp zero-add at (paste-suc d 0 s i z h hs))

  pub front_all : (d s v : List A) (i : ℕ) → v ≡ take i s ++ drop i d → i ≡ length s → v ≡ s ++ drop (length s) d
  front_all d s v i e h =
      let g : length s ≤ length s = omega arith in
      e ∙ rw (h, take_all (length s) s g)
