-- Picks: which bits are numbers, and what an edit makes of the others. Assumes nothing.
use mathlib.Core.Path.{◌≡◌, refl, sym, ap, ◌∙◌}
use mathlib.Core.Bool.{Bool, true, false, not, ◌&&◌}
use Prim.Native.Nat.{ℕ}
use native.Mathlib.Omega.{arith}
use lib.Dec.{T}
use lib.Ieee.{Float, nan, inf, fin, of_bits, fits, is_nan, nan_bits, binary64, div}
use lib.Ieee.Bits.{of_bits-fits, nan_bits_is}
use Rattle.sketch.specs.Drawing.{Drawing, limits}
use Rattle.sketch.specs.Valid.{ok_coordinate}
use Rattle.image.proofs.Floats.{coordinate_rejects, number_float, nan_fails}
use Rattle.relations.specs.Met.{all_met}
use Rattle.edit_plan.specs.declared.Removed.{Removed}
use Rattle.edit_plan.specs.Outcome.{refused, accepted, guard}
use Rattle.edit_plan.specs.Tables.{ok_position}
use Rattle.planning.specs.Planning.{PlanResult, guard_plan}
use Rattle.extend.specs.ExtendAnswer.{apply_planned}
use Rattle.modify.specs.Edits.{edit_of}
use Rattle.replication.specs.Protocol.{Edit, is_pick, edit}
use Rattle.sketch.proofs.Bools.{and_both}
use Rattle.sketch_geometry.proofs.Found.{no_number}
use borrow.Author.Tests.{not-true}

-- ---- picks

-- what an edit accepts is in range
pub decided_place : (b : Bool) (c : PlanResult) (d : Drawing) (t : ℕ) (d' : Drawing) (r : Removed) → apply_planned all_met limits d t (guard_plan b 9 c) ≡ accepted d' r → b ≡ true
unfolding apply_planned guard_plan
decided_place true c d t d' r e = refl
decided_place false c d t d' r e = let z : ◌≡◌ {A = ℕ} 0 1 = cc in absurd (omega arith)

pub is_number : (x : Float) → ok_coordinate x ≡ true → T (not (is_nan x))
is_number = number_float ok_coordinate coordinate_rejects

-- a pick that was read from bits is one of binary64
pub is_pick_lem : (a b : ℕ) → is_pick (record { x = of_bits binary64 a; y = of_bits binary64 b }) ≡ true
is_pick_lem a b = go (fits binary64 (of_bits binary64 a)) (fits binary64 (of_bits binary64 b)) (of_bits-fits binary64 a) (of_bits-fits binary64 b)
  where
    go : (a b : Bool) → T a → T b → (a && b) ≡ true
    go true true p q = refl
    go true false p q = absurd q
    go false b p q = absurd p

-- a parameter is one of binary64
pub pick_of : (x y : Float) → fits binary64 x ≡ true → fits binary64 y ≡ true → is_pick (record { x = x; y = y }) ≡ true
pick_of x y p q = rw (p, q)

-- the test of both coordinates' bits
pub both_numbers : (a b : ℕ) {p q t : Bool} → p ≡ not (nan_bits binary64 a) → q ≡ not (nan_bits binary64 b) → (p && q) ≡ t → (not (nan_bits binary64 a) && not (nan_bits binary64 b)) ≡ t
both_numbers a b e f h = rw (← e, ← f) h

pub both_false : (a b : ℕ) → (not (nan_bits binary64 a) && not (nan_bits binary64 b)) ≡ true → (nan_bits binary64 a ≡ false) × (nan_bits binary64 b ≡ false)
both_false a b h = let (p, q) = and_both (not (nan_bits binary64 a)) (not (nan_bits binary64 b)) h in (not-true (nan_bits binary64 a) p, not-true (nan_bits binary64 b) q)

-- one coordinate whose bits are a NaN's
pub first_nan : (a b : ℕ) → not (nan_bits binary64 a) ≡ false → (not (nan_bits binary64 a) && not (nan_bits binary64 b)) ≡ false
first_nan a b h = rw h

last_false : (p : Bool) → (p && false) ≡ false
last_false true = refl
last_false false = refl

pub second_nan : (a b : ℕ) → not (nan_bits binary64 b) ≡ false → (not (nan_bits binary64 a) && not (nan_bits binary64 b)) ≡ false
second_nan a b h = rw h (last_false (not (nan_bits binary64 a)))

-- bits of a NaN are no pick (9)
nan_place : (a b : ℕ) → (not (nan_bits binary64 a) && not (nan_bits binary64 b)) ≡ false → ok_position (record { x = of_bits binary64 a; y = of_bits binary64 b }) ≡ false
nan_place a b h = go (not (nan_bits binary64 a)) refl (not (nan_bits binary64 b)) refl h
  where
    go : (p : Bool) → not (nan_bits binary64 a) ≡ p → (q : Bool) → not (nan_bits binary64 b) ≡ q → (p && q) ≡ false → ok_position (record { x = of_bits binary64 a; y = of_bits binary64 b }) ≡ false
    go false e q f h = rw (nan_fails ok_coordinate coordinate_rejects a e)
    go true e false f h = rw (nan_fails ok_coordinate coordinate_rejects b f) (last_false (ok_coordinate (of_bits binary64 a)))
    go true e true f h = let z : ◌≡◌ {A = ℕ} 0 1 = cc in absurd (omega arith)

nan_of : (b : ℕ) → not (nan_bits binary64 b) ≡ false → nan ≡ of_bits binary64 b
unfolding is_nan
nan_of b h = go (of_bits binary64 b) (sym (nan_bits_is binary64 b)) (nan_bits binary64 b) refl h
  where
    go : (x : Float) → is_nan x ≡ nan_bits binary64 b → (t : Bool) → nan_bits binary64 b ≡ t → not t ≡ false → nan ≡ x
    go nan e t q h = refl
    go (inf s) e true q h = let z : ◌≡◌ {A = ℕ} 0 1 = cc in absurd (omega arith)
    go (inf s) e false q h = let z : ◌≡◌ {A = ℕ} 0 1 = cc in absurd (omega arith)
    go (fin s m k) e true q h = let z : ◌≡◌ {A = ℕ} 0 1 = cc in absurd (omega arith)
    go (fin s m k) e false q h = let z : ◌≡◌ {A = ℕ} 0 1 = cc in absurd (omega arith)

-- as 0 / 0
pub nan_computed : (b : ℕ) → not (nan_bits binary64 b) ≡ false → div binary64 (of_bits binary64 0) (of_bits binary64 0) ≡ of_bits binary64 b
nan_computed b h = no_number ∙ nan_of b h

-- as the library's NaN
pub nan_constant : (b : ℕ) → not (nan_bits binary64 b) ≡ false → of_bits binary64 9221120237041090560 ≡ of_bits binary64 b
unfolding of_bits
nan_constant b h = nan_of b h

pub nan_refused :
    (d : Drawing) (e : Edit) (a b : ℕ) → e.at ≡ record { x = of_bits binary64 a; y = of_bits binary64 b }
    → (not (nan_bits binary64 a) && not (nan_bits binary64 b)) ≡ false → edit d e ≡ refused 9
unfolding guard apply_planned guard_plan
nan_refused d e a b q h = go (is_pick e.at) (ap ok_position q ∙ nan_place a b h)
  where
    go : (p : Bool) → ok_position e.at ≡ false → guard p 9 (edit_of e.operation limits d e.curve e.at) ≡ refused 9
    go true h = rw h
    go false h = refl
