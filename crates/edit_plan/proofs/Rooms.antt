-- Tests of additions, one after another: the first that fails decides, and what is passed holds. Assumes nothing.
use mathlib.Core.Path.{◌≡◌, refl, sym}
use mathlib.Core.Bool.{Bool, true, false}
use Prim.Native.Nat.{ℕ, ◌<◌}
use native.Mathlib.Omega.{arith}
use lib.Dec.{ltb}
use borrow.Author.Tests.{ltb-true}
use Rattle.refusal.specs.declared.Refusal.{Refusal}
use Rattle.refusal.specs.Refusals.{number}
use Rattle.refusal.proofs.Numbers.{number_above_0}
use Rattle.geom.specs.declared.Vec2.{Vec2}
use Rattle.sketch.specs.Lists.{guard_number}
use Rattle.sketch.specs.Drawing.{Limits}
use Rattle.sketch.proofs.Facts.{guard_number_none}
use Rattle.edit_plan.specs.Tables.{ok_position}
use Rattle.edit_plan.specs.Room.{point_room, curve_room}

-- ---- what refuses without the rest refuses with it

guard_number_first : (b : Bool) (n rest other a : ℕ) → a ≡ guard_number b n rest → (a ≡ 0 → ⊥) → (b ≡ true → a ≡ rest → a ≡ other) → a ≡ guard_number b n other
unfolding guard_number
guard_number_first true n rest other a e h k = k refl e
guard_number_first false n rest other a e h k = e

module _ (m : Limits) (i n : ℕ) where
  module _ (v : Vec2) where
    pub point_refused : (r : Refusal) (rest : ℕ) → number r ≡ point_room m i n v 0 → number r ≡ point_room m i n v rest
    point_refused r rest e =
        let a = number r in
        let h : a ≡ 0 → ⊥ = λ z. omega (arith, number_above_0 r) in
        guard_number_first (ltb i m.ids) 23 _ _ a e h
        (λ t e. guard_number_first (ltb n m.points) 22 _ _ a e h (λ t e. guard_number_first (ok_position v) 24 0 rest a e h (λ t e. absurd (h e))))

    pub point_passed : 0 ≡ point_room m i n v 0 → (i < m.ids) × (n < m.points) × ((rest : ℕ) → point_room m i n v rest ≡ rest)
    unfolding guard_number
    point_passed e =
        let x = guard_number_none (ltb i m.ids) 23 _ (omega arith) (sym e) in
        let y = guard_number_none (ltb n m.points) 22 _ (omega arith) x.1 in
        let w = guard_number_none (ok_position v) 24 0 (omega arith) y.1 in
        (ltb-true i m.ids x.0, ltb-true n m.points y.0, λ rest. rw (x.0, y.0, w.0))

  pub curve_refused : (r : Refusal) (rest : ℕ) → number r ≡ curve_room m i n 0 → number r ≡ curve_room m i n rest
  curve_refused r rest e =
      let a = number r in
      let h : a ≡ 0 → ⊥ = λ z. omega (arith, number_above_0 r) in
      guard_number_first (ltb i m.ids) 23 _ _ a e h (λ t e. guard_number_first (ltb n m.curves) 22 0 rest a e h (λ t e. absurd (h e)))

  pub curve_passed : 0 ≡ curve_room m i n 0 → (i < m.ids) × (n < m.curves) × ((rest : ℕ) → curve_room m i n rest ≡ rest)
  unfolding guard_number
  curve_passed e =
      let x = guard_number_none (ltb i m.ids) 23 _ (omega arith) (sym e) in
      let y = guard_number_none (ltb n m.curves) 22 0 (omega arith) x.1 in
      (ltb-true i m.ids x.0, ltb-true n m.curves y.0, λ rest. rw (x.0, y.0))
