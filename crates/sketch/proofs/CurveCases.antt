-- What the rules of a curve come to for each kind.
use mathlib.Core.Path.{◌≡◌}
use mathlib.Core.Bool.{Bool, not, ◌&&◌, and-true, and_assoc, or-true, or-false}
use Prim.Native.Nat.{ℕ, ◌+◌}
use native.Mathlib.Numerals.{add-one}
use lib.ListN.{take, drop}
use lib.Dec.{eqb, leb}
use lib.Ieee.{Float}
use Rattle.sketch.specs.declared.Curve.{Curve}
use Rattle.sketch.specs.declared.CurveKind.TheVariants.{Line, Arc, Circle, Bezier, Conic}
use Rattle.sketch.specs.Lists.{every}
use Rattle.sketch.specs.Drawing.{uses_of}
use Rattle.sketch.specs.Valid.{distinct, sound_curve, ok_radius, ok_rho, sort_of, ok_number, in_slots, ok_curve}

module _ (c : Curve) where
  abbrev clear : ℕ → Bool
  clear used = every (λ i. eqb i 0) (drop used c.slots)

  module _ {a b : ℕ} {u : Bool} where
    pub ok_line : c.kind ≡ Line a b → u ≡ clear 0 → u ≡ ok_curve c
    unfolding sort_of ok_number in_slots
    ok_line e g = simp (e, g, or-true)

  module _ {o a b : ℕ} {u : Bool} where
    pub ok_arc : c.kind ≡ Arc o a b → u ≡ clear 0 → (not c.infinite && u) ≡ ok_curve c
    unfolding sort_of ok_number in_slots
    ok_arc e g = simp (e, g, or-false, and-true)

  module _ {o : ℕ} {r : Float} {t u : Bool} where
    pub ok_circle : c.kind ≡ Circle o r → t ≡ ok_radius r → u ≡ clear 0 → (not c.infinite && t && u) ≡ ok_curve c
    unfolding sort_of ok_number in_slots
    ok_circle e f g = simp (e, f, g, or-false)

  module _ {n : ℕ} {u : Bool} where
    pub ok_bezier : c.kind ≡ Bezier n → u ≡ clear (n + 1) → (not c.infinite && leb 1 n && leb n 7 && u) ≡ ok_curve c
    unfolding sort_of ok_number in_slots
    ok_bezier e g = simp (e, g, or-false, and_assoc, add-one)

  module _ {a p b : ℕ} {rho : Float} {t u : Bool} where
    pub ok_conic : c.kind ≡ Conic a p b rho → t ≡ ok_rho rho → u ≡ clear 0 → (not c.infinite && t && u) ≡ ok_curve c
    unfolding sort_of ok_number in_slots
    ok_conic e f g = simp (e, f, g, or-false)

module _ (has : ℕ → Bool) (c : Curve) where
  module _ {a b : ℕ} {t u : Bool} where
    pub sound_line : c.kind ≡ Line a b → t ≡ has a → u ≡ has b → (t && u && not (eqb a b)) ≡ sound_curve has c
    unfolding uses_of distinct
    sound_line e f g = simp (e, f, g, and-true)

  module _ {o a b : ℕ} {t u v : Bool} where
    pub sound_arc : c.kind ≡ Arc o a b → t ≡ has o → u ≡ has a → v ≡ has b → (t && u && v && not (eqb o a) && not (eqb o b) && not (eqb a b)) ≡ sound_curve has c
    unfolding uses_of distinct
    sound_arc e f g h = simp (e, f, g, h, and-true, and_assoc)

  module _ {o : ℕ} {r : Float} {t : Bool} where
    pub sound_circle : c.kind ≡ Circle o r → t ≡ has o → t ≡ sound_curve has c
    unfolding uses_of distinct
    sound_circle e f = simp (e, f, and-true)

  module _ {n : ℕ} {t : Bool} where
    pub sound_bezier : c.kind ≡ Bezier n → t ≡ every has (take (n + 1) c.slots) → t ≡ sound_curve has c
    unfolding uses_of distinct
    sound_bezier e f = simp (e, f, and-true, add-one)

  module _ {a p b : ℕ} {rho : Float} {t u v : Bool} where
    pub sound_conic : c.kind ≡ Conic a p b rho → t ≡ has a → u ≡ has p → v ≡ has b → (t && u && v) ≡ sound_curve has c
    unfolding uses_of distinct
    sound_conic e f g h = simp (e, f, g, h, and-true, and_assoc)
