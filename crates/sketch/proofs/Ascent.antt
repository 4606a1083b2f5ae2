-- Ids that rise: their order by place, and what stands among them.
use mathlib.Core.Path.{◌≡◌, refl, sym}
use mathlib.Core.Bool.{true, false, or-true}
use mathlib.Core.List.{List, [], ◌∷◌}
use Prim.Native.Nat.{ℕ, zero, suc, ◌<◌}
use native.Mathlib.Omega.{arith}
use lib.ListN.{length, get_or}
use lib.Dec.{eqb}
use borrow.Author.Tests.{eq-eqb, ne_eqb}
use Rattle.sketch.specs.Lookup.{among, Above, Ascends, sort_among}
use Rattle.sketch.proofs.Bools.{or_left_false, or_right_false}

pub above_ascends : (b : ℕ) (is : List ℕ) → Above b is → Ascends is
above_ascends b [] h = tt
above_ascends b (i ∷ is) h = h.1

pub above_at : (b : ℕ) (is : List ℕ) (k : ℕ) → Above b is → k < length is → b < get_or is k 0
above_at b [] k h q = absurd (omega arith)
above_at b (i ∷ is) zero h q = h.0
above_at b (i ∷ is) (suc k) h q = let u = above_at i is k h.1 (omega arith) in omega (arith, h.0)

-- what stands later is larger
pub order : (is : List ℕ) (j k : ℕ) → Ascends is → j < k → k < length is → get_or is j 0 < get_or is k 0
order [] j k h p q = absurd (omega arith)
order (i ∷ is) j zero h p q = absurd (omega arith)
order (i ∷ is) zero (suc k) h p q = above_at i is k h (omega arith)
order (i ∷ is) (suc j) (suc k) h p q = order is j k (above_ascends i is h) (omega arith) (omega arith)

pub among_at : (i : ℕ) (is : List ℕ) (k : ℕ) → k < length is → get_or is k 0 ≡ i → among i is ≡ true
among_at i [] k q e = absurd (omega arith)
among_at i (j ∷ js) zero q e = rw (eq-eqb i j (sym e))
among_at i (j ∷ js) (suc k) q e = rw (among_at i js k (omega arith) e) (or-true (eqb i j))

pub among_nowhere : (i : ℕ) (is : List ℕ) → ((k : ℕ) → k < length is → get_or is k 0 ≡ i → ⊥) → among i is ≡ false
among_nowhere i [] h = refl
among_nowhere i (j ∷ js) h = rw (ne_eqb i j (λ e. h 0 (omega arith) (sym e))) (among_nowhere i js (λ k q. h (suc k) (omega arith)))

-- the sort beside an id: the id stands at one place only
pub sort_at_lem : (i : ℕ) (is ss : List ℕ) (k : ℕ) → Ascends is → k < length is → get_or is k 0 ≡ i → sort_among i is ss ≡ get_or ss k 0
unfolding sort_among
sort_at_lem i [] ss k h q e = absurd (omega arith)
sort_at_lem i (j ∷ js) [] k h q e = refl
sort_at_lem i (j ∷ js) (s ∷ ss) zero h q e = rw (eq-eqb i j (sym e))
sort_at_lem i (j ∷ js) (s ∷ ss) (suc k) h q e =
    let u = above_at j js k h (omega arith) in
    rw (ne_eqb i j (λ z. omega arith)) (sort_at_lem i js ss k (above_ascends j js h) (omega arith) e)

pub sort_nowhere : (i : ℕ) (is ss : List ℕ) → among i is ≡ false → sort_among i is ss ≡ 0
unfolding sort_among
sort_nowhere i [] ss h = refl
sort_nowhere i (j ∷ js) [] h = refl
sort_nowhere i (j ∷ js) (s ∷ ss) h =
    rw (or_left_false (eqb i j) (among i js) h) (sort_nowhere i js ss (or_right_false (eqb i j) (among i js) h))
