-- The steps that leave the table of curves alone: points, the first of which takes the next id, relations, pins, ties. Assumes nothing.
use mathlib.Core.Path.{◌≡◌, refl, ◌∙◌}
use mathlib.Core.Bool.{Bool, true, false}
use mathlib.Core.List.{List, [], ◌∷◌}
use Prim.Native.Nat.{ℕ, ◌≤◌}
use native.Mathlib.Omega.{arith}
use lib.Dec.{eqb}
use Rattle.geom.specs.declared.Vec2.{Vec2}
use Rattle.sketch.specs.declared.Relation.{Relation}
use Rattle.sketch.specs.declared.Relation.TheVariants.{Coincident, PointOnCurve}
use Rattle.sketch.specs.Lists.{ite}
use Rattle.sketch.specs.Drawing.{Drawing, Limits, curve_in}
use Rattle.edit_plan.specs.declared.Pin.{Pin}
use Rattle.edit_plan.specs.declared.Pin.TheVariants.{On, At}
use Rattle.edit_plan.specs.declared.PinnedPoint.{PinnedPoint}
use Rattle.edit_plan.specs.Outcome.{accepted}
use Rattle.edit_plan.specs.Tables.{add_point, add_relation}
use Rattle.edit_plan.specs.Steps.{add_points, pin, pin_all, line_at, tie_relation, tie}
use Rattle.edit_plan.proofs.Tables.{Holds, holds_map, holds_then, holds_guard}

pub record Same (d d' : Drawing) : Type 0 where
  pub curves : d'.curves ≡ d.curves
  pub grows : d.next ≤ d'.next

pub same_refl : (d : Drawing) → Same d d
same_refl d = record { curves = refl; grows = omega arith }

pub same_trans : {d e f : Drawing} → Same d e → Same e f → Same d f
same_trans p q = record { curves = q.curves ∙ p.curves; grows = omega arith }

-- the first of some ids, if there is one, is n
abbrev pub FirstIs : ℕ → List ℕ → Type 0
FirstIs n [] = Unit {0}
FirstIs n (p ∷ ps) = p ≡ n

same_point : (m : Limits) (d : Drawing) (s : Vec2) → Holds (λ d' p. Same d d' × (p ≡ d.next)) (add_point m d s)
same_point m d s =
    holds_guard (λ d' p. Same d d' × (p ≡ d.next)) _ 23 _ λ a. holds_guard (λ d' p. Same d d' × (p ≡ d.next)) _ 22 _ λ b. holds_guard (λ d' p. Same d d' × (p ≡ d.next)) _ 24 _ λ c.
    (record { curves = refl; grows = omega arith }, refl)

pub same_points : (m : Limits) (d : Drawing) (ss : List Vec2) → Holds (λ d' ps. Same d d' × FirstIs d.next ps) (add_points m d ss)
same_points m d [] = (same_refl d, tt)
same_points m d (s ∷ ss) =
    holds_then (λ d' p. Same d d' × (p ≡ d.next)) (λ d' ps. Same d d' × FirstIs d.next ps) (add_point m d s) _ (same_point m d s) λ d' p h.
    holds_then (λ d'' ps. Same d' d'' × FirstIs d'.next ps) (λ d'' ps. Same d d'' × FirstIs d.next ps) (add_points m d' ss) _ (same_points m d' ss) λ d'' ps k. (same_trans h.0 k.0, h.1)

same_relation : (m : Limits) (d : Drawing) (r : Relation) → Holds (λ d' u. Same d d') (add_relation m d r)
same_relation m d r = holds_guard (λ d' u. Same d d') _ 22 _ λ a. record { curves = refl; grows = omega arith }

pub same_pin : (m : Limits) (d : Drawing) (p : ℕ) (w : Pin) → Holds (λ d' u. Same d d') (pin m d p w)
unfolding pin
same_pin m d p (On c) = same_relation m d (PointOnCurve p c)
same_pin m d p (At e) = go (eqb e p)
  where
    go : (b : Bool) → Holds (λ d' u. Same d d') (ite b (accepted d tt) (add_relation m d (Coincident p e)))
    go true = same_refl d
    go false = same_relation m d (Coincident p e)

pub same_pins : (m : Limits) (d : Drawing) (ps : List ℕ) (ws : List PinnedPoint) → Holds (λ d' u. Same d d') (pin_all m d ps ws)
same_pins m d [] ws = same_refl d
same_pins m d (p ∷ ps) [] = same_refl d
same_pins m d (p ∷ ps) (w ∷ ws) =
    holds_then (λ d' u. Same d d') (λ d' u. Same d d') (pin m d p w.pin) _ (same_pin m d p w.pin) λ d' u h.
    holds_map (λ d'' u. Same d' d'') (λ d'' u. Same d d'') (pin_all m d' ps ws) (λ d'' u q. same_trans h q) (same_pins m d' ps ws)

pub same_tie : (m : Limits) (d : Drawing) (a : ℕ) (bs : List ℕ) → Holds (λ d' u. Same d d') (tie m d a bs)
same_tie m d a [] = same_refl d
same_tie m d a (b ∷ bs) =
    holds_then (λ d' u. Same d d') (λ d' u. Same d d') (add_relation m d (tie_relation (line_at (curve_in d.curves a)) a b)) _ (same_relation m d _) λ d' u h.
    holds_map (λ d'' u. Same d' d'') (λ d'' u. Same d d'') (tie m d' b bs) (λ d'' u q. same_trans h q) (same_tie m d' b bs)
