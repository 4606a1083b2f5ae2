-- By which numbers an extend is refused before it moves anything. Assumes nothing.
use mathlib.Core.Path.{◌≡◌, sym, ap, ◌∙◌, subst}
use mathlib.Core.Bool.{Bool, true, false, not, ◌||◌, cond}
use mathlib.Core.List.{List, [], ◌∷◌, ◌++◌}
use mathlib.Core.Option.{Option, some, none}
use Prim.Native.Nat.{ℕ, ◌≤◌}
use native.Mathlib.Omega.{arith}
use lib.Ieee.{Float, lt, le}
use Rattle.float.specs.Numbers.{1e-28, 1e-7}
use Rattle.float.specs.Sign.{abs}
use Rattle.geom.specs.Plane.{◌-ᵥ◌, normalized, distance}
use Rattle.geom.specs.declared.Vec2.{Vec2}
use Rattle.std.specs.Prelude as D
use Rattle.shape.specs.declared.Shape.{Shape}
use Rattle.shape.specs.declared.Shape.TheVariants as S
use Rattle.shape.specs.Measures.{param, point, dist}
use Rattle.sketch.specs.declared.Point.{Point}
use Rattle.sketch.specs.declared.Curve.{Curve}
use Rattle.sketch.specs.declared.CurveKind.{CurveKind}
use Rattle.sketch.specs.declared.CurveKind.TheVariants.{Line, Arc, Circle, Bezier, Conic}
use Rattle.sketch.specs.Lists.{every}
use Rattle.sketch.specs.Lookup.{among}
use Rattle.sketch.specs.Drawing.{Drawing}
use Rattle.sketch_geometry.specs.Geometry.{position_of}
use Rattle.relations.specs.Met.{all_met}
use Rattle.bernstein.specs.Roots as R
use Rattle.bernstein.specs.Roots.{roots_of}
use Rattle.bernstein.proofs.RefusedBy.{By20Or21, roots_refused}
use Rattle.support.specs.Freeform.{Freeform, point_at}
use Rattle.support.specs.Hits as H
use Rattle.support.specs.Hits.{shape_hits, resolved, resolved_at, freeform_by, freeform_along, has_near_hit, polynomial}
use Rattle.edit_plan.specs.Tables.{uses, others}
use Rattle.refusal.specs.Refusals.{Refused, Accepted}
use Rattle.planning.specs.Planning.{PlanResult, guard_plan}
use Rattle.hit_search.specs.NearestHit.{Support, curve_hits, Best, best_of, Search, stopped, finished, continue_with, nearest_hit}
use Rattle.extend.specs.Extend.{plan_move, is_fixed, extend_end, extend_curve}
use Rattle.extend.proofs.Places.{Placeless, placeless_below}

-- ---- 15 and 16 in the search for hits, 20 and 21 in that for roots

-- 14 or above, without 19, which comes after a move alone
abbrev SearchNumber : ℕ → Type 0
SearchNumber n = (14 ≤ n) × (n ≡ 19 → ⊥)

abbrev Later : H.HitsResult → Type 0
Later (H.found l b) = Unit {0}
Later (H.refused n b) = SearchNumber n

later_need : (t : Bool) (n b : ℕ) (o : H.HitsResult) → SearchNumber n → Later o → Later (H.guard_hits t n b o)
unfolding H.guard_hits
later_need true n b o h k = k
later_need false n b o h k = h

later_resolved : (line : Shape) (f : Freeform) (hits : List Vec2) (ts : List Float) (b : ℕ) → Later (resolved line f hits ts b)
unfolding resolved
later_resolved line f hits [] b = tt
later_resolved line f hits (t ∷ ts) b =
    later_need (le (dist line (point_at f t)) 1e-7) 16 b _ (omega arith, λ z. omega arith) (later_resolved line f (cond (has_near_hit (point_at f t) hits) hits (hits ++ point_at f t ∷ [])) ts b)

later_at : (line : Shape) (f : Freeform) (o : R.RootsResult) → By20Or21 o → Later (resolved_at line f o)
unfolding resolved_at
later_at line f (R.found ts b) h = later_resolved line f [] ts b
later_at line f (R.refused n b) h = (omega (arith, h.0), λ z. omega (arith, h.0))

later_along : (a b : Vec2) (d : D.Option Vec2) (f : Freeform) (budget : ℕ) → Later (freeform_along a b d f budget)
unfolding freeform_along freeform_by
later_along a b D.None f budget = (omega arith, λ z. omega arith)
later_along a b (D.Some d) f budget =
    later_need (not (every (λ x. lt (abs x) 1e-28) (polynomial d a f))) 15 budget _ (omega arith, λ z. omega arith) (later_at (S.Line a b) f (roots_of (polynomial d a f) budget) (roots_refused (polynomial d a f) budget))

later_shape : (a b : Vec2) (piece : Shape) (budget : ℕ) → Later (shape_hits a b piece budget)
unfolding shape_hits
later_shape a b piece budget = later_need _ 15 budget _ (omega arith, λ z. omega arith) tt

later_meets : (ps : List Point) (s : Support) (foot : Vec2) (o : Curve) (k : CurveKind) (budget : ℕ) → Later (curve_hits ps s foot o k budget)
unfolding curve_hits
later_meets ps s foot o (Line a b) budget = later_shape s.a s.b _ budget
later_meets ps s foot o (Arc c a b) budget = later_shape s.a s.b _ budget
later_meets ps s foot o (Circle c r) budget = later_shape s.a s.b _ budget
later_meets ps s foot o (Bezier n) budget = later_along s.a s.b (normalized (s.b -ᵥ s.a)) _ budget
later_meets ps s foot o (Conic a m b rho) budget = later_along s.a s.b (normalized (s.b -ᵥ s.a)) _ budget

-- ---- the search over the curves, and the plan

abbrev Stops : Search → Type 0
Stops (stopped n) = SearchNumber n
Stops (finished best) = Unit {0}

stops : (ps : List Point) (s : Support) (foot : Vec2) (os : List Curve) (best : Option Best) (budget : ℕ) → Stops (nearest_hit ps s foot os best budget)
unfolding nearest_hit continue_with
stops ps s foot [] best budget = tt
stops ps s foot (o ∷ os) best budget =
    go (λ qs b. stops ps s foot os (best_of s o.id best qs) b) (curve_hits ps s foot o o.kind budget) (later_meets ps s foot o o.kind budget)
  where
    go :
        ((qs : List Vec2) (b : ℕ) → Stops (nearest_hit ps s foot os (best_of s o.id best qs) b)) → (r : H.HitsResult) → Later r
        → Stops (continue_with (λ qs left. nearest_hit ps s foot os (best_of s o.id best qs) left) r)
    go ih (H.found qs b) h = ih qs b
    go ih (H.refused n b) h = h

abbrev From14 : PlanResult → Type 0
From14 (Refused n) = SearchNumber n
From14 (Accepted plan) = Unit {0}

from_guard : (b : Bool) (n : ℕ) (o : PlanResult) → SearchNumber n → From14 o → From14 (guard_plan b n o)
unfolding guard_plan
from_guard true n o h k = k
from_guard false n o h k = h

from_move : (d : Drawing) (at_b : Bool) (r : Search) → Stops r → From14 (plan_move d at_b r)
unfolding plan_move
from_move d at_b (stopped n) h = h
from_move d at_b (finished none) h = (omega arith, λ z. omega arith)
from_move d at_b (finished (some b)) h = from_guard (not b.tied) 17 _ (omega arith, λ z. omega arith) tt

from_end : (d : Drawing) (c : ℕ) (p : Vec2) (s : Support) (end : ℕ) → From14 (extend_end d c p s end)
unfolding extend_end
from_end d c p s end =
    from_guard (not (among end (uses (others c d.curves)) || is_fixed d.points end)) 14 _ (omega arith, λ z. omega arith)
    (from_move d s.at_b (nearest_hit d.points s (point (S.Line s.a s.b) (param (S.Line s.a s.b) p)) (others c d.curves) none 1000000)
    (stops d.points s (point (S.Line s.a s.b) (param (S.Line s.a s.b) p)) (others c d.curves) none 1000000))

-- where all relations are met it is refused by a number above 0, and neither by 13 nor by 19
pub extend_number : (d : Drawing) (p : Vec2) (c : Curve) (k : CurveKind) (n : ℕ) → all_met d ≡ true → extend_curve d p c k ≡ Refused n → (n ≡ 0 → ⊥) × Placeless n
unfolding extend_curve guard_plan
extend_number d p c (Line i j) n m e =
    let a = position_of d.points i in
    let b = position_of d.points j in
    let at_b = le (distance p b) (distance p a) in
    let x : PlanResult = extend_end d c.id p (record { a = a; b = b; at_b = at_b }) (cond at_b j i) in
    let q : x ≡ Refused n = sym (ap (λ t. guard_plan t 13 x) m) ∙ e in
    let h : SearchNumber n = subst From14 q (from_end d c.id p (record { a = a; b = b; at_b = at_b }) (cond at_b j i)) in
    (λ z. omega (arith, h.0), record { not_13 = λ z. omega (arith, h.0); not_19 = h.1 })
extend_number d p c (Arc m i j) n h e = let z : 10 ≡ n = cc in (λ q. omega arith, placeless_below (omega arith))
extend_number d p c (Circle m r) n h e = let z : 10 ≡ n = cc in (λ q. omega arith, placeless_below (omega arith))
extend_number d p c (Bezier m) n h e = let z : 10 ≡ n = cc in (λ q. omega arith, placeless_below (omega arith))
extend_number d p c (Conic i m j rho) n h e = let z : 10 ≡ n = cc in (λ q. omega arith, placeless_below (omega arith))
