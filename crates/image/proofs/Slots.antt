-- A curve's slots read one by one: those that an array is made of, and those past a place.
use mathlib.Core.Path.{◌≡◌, refl, ◌∙◌, subst}
use mathlib.Core.Bool.{Bool}
use mathlib.Core.List.{List, map}
use Prim.Native.Nat.{ℕ, zero, suc, ◌+◌, ◌*◌, ◌-◌, ◌<◌, min}
use native.Mathlib.Omega.{arith}
use lib.ListN.{drop, take, get_or}
use denote.Param.Members.{Mut}
use Rattle.std.specs.Array.{IsFromFnResult, IsFromFnResultFrom}
use Rattle.std.specs.Fn.{Called}
use Rattle.std.specs.List.{list_all, range_with_len}
use Rattle.std.proofs.lemmas.List.FromFn.{fill_by_all}
use Rattle.big_endian.specs.Fields.{field}
use Rattle.sketch.specs.Lists.{every}
use Rattle.image.specs.Records.{slots_of, ids_at}

-- an array that is made of h at each place, by a closure that no call changes
module _ {F : Type 0} (g : Mut F (ℕ × Unit {0}) ℕ) (f : F) (h : ℕ → ℕ) (calls : (i y : ℕ) (q : F) → Called g f (i, tt) y q → (q ≡ f) × (y ≡ h i)) (ys : List ℕ) where
  made_from : (i n : ℕ) (p : F) → p ≡ f → IsFromFnResultFrom g p ys i n → (k : ℕ) → k < n → get_or ys (i + k) 0 ≡ h (i + k)
  made_from i zero p e w k l = absurd (omega arith)
  made_from i (suc n) p e w zero l =
      let z : i + 0 ≡ i = omega arith in
      rw z (w.2.1 0 ∙ (calls i w.1 w.0 (subst (λ (s : F). Called g s (i, tt) w.1 w.0) e w.3)).1)
  made_from i (suc n) p e w (suc k) l =
      let z : i + suc k ≡ i + 1 + k = omega arith in
      rw z (made_from (i + 1) n w.0 (calls i w.1 w.0 (subst (λ (s : F). Called g s (i, tt) w.1 w.0) e w.3)).0 w.4 k (omega arith))

  pub made : (n : ℕ) → IsFromFnResult g f ys n → ys ≡ map h (range_with_len 0 n)
  made n w = fill_by_all h ys n 0 w.long (λ k l. let z : 0 + k ≡ k = omega arith in (rw z at (made_from 0 n f refl w.each k l)))

module _ (r : List ℕ) where
  pub slots_made : map (λ i. field r (7 + i * 4) 4) (range_with_len 0 8) ≡ slots_of r
  unfolding ids_at
  slots_made = refl

  -- the slots from the n-th on
  pub slots_past : (f : ℕ → Bool) (n : ℕ) → list_all (λ i. f (field r (7 + i * 4) 4)) (range_with_len n (8 - n)) ≡ every f (drop n (slots_of r))
  unfolding ids_at
  slots_past f zero = refl
  slots_past f (suc zero) = refl
  slots_past f (suc (suc zero)) = refl
  slots_past f (suc (suc (suc zero))) = refl
  slots_past f (suc (suc (suc (suc zero)))) = refl
  slots_past f (suc (suc (suc (suc (suc zero))))) = refl
  slots_past f (suc (suc (suc (suc (suc (suc zero)))))) = refl
  slots_past f (suc (suc (suc (suc (suc (suc (suc zero))))))) = refl
  slots_past f (suc (suc (suc (suc (suc (suc (suc (suc zero)))))))) = refl
  slots_past f (suc (suc (suc (suc (suc (suc (suc (suc (suc n))))))))) = let e : 8 - suc (suc (suc (suc (suc (suc (suc (suc (suc n)))))))) ≡ 0 = omega arith in rw e

  -- the first n slots
  pub slots_first : (f : ℕ → Bool) (n : ℕ) → list_all (λ i. f (field r (7 + i * 4) 4)) (range_with_len 0 (min n 8)) ≡ every f (take n (slots_of r))
  unfolding ids_at
  slots_first f zero = refl
  slots_first f (suc zero) = refl
  slots_first f (suc (suc zero)) = refl
  slots_first f (suc (suc (suc zero))) = refl
  slots_first f (suc (suc (suc (suc zero)))) = refl
  slots_first f (suc (suc (suc (suc (suc zero))))) = refl
  slots_first f (suc (suc (suc (suc (suc (suc zero)))))) = refl
  slots_first f (suc (suc (suc (suc (suc (suc (suc zero))))))) = refl
  slots_first f (suc (suc (suc (suc (suc (suc (suc (suc zero)))))))) = refl
  slots_first f (suc (suc (suc (suc (suc (suc (suc (suc (suc n))))))))) = let e : min (suc (suc (suc (suc (suc (suc (suc (suc (suc n))))))))) 8 ≡ 8 = omega arith in rw e
