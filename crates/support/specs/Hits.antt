-- Where the endless line of a support meets a piece: hits. Each operation is rounded once, from left to right. Definitions only.
use Rattle.std.specs.Prelude.{ℕ, Bool, true, false, not, ◌&&◌, cond, Option, Some, None, List, [], ◌∷◌, ◌++◌, map, Float}
use Rattle.std.specs.Float.Ieee.{lt, le, neg}
use Rattle.float.specs.Numbers.{◌⊕◌, ◌⊖◌, ◌⊗◌, ◌⊘◌, 1f, 1e-28, 1e-10, 1e-9, 1e-7, 1e7}
use Rattle.float.specs.Sign.{abs}
use Rattle.float.specs.Order.{max}
use Rattle.geom.specs.Plane.{◌+ᵥ◌, ◌-ᵥ◌, ◌·ᵥ◌, dot, cross, distance, normalized}
use Rattle.geom.specs.declared.Vec2.{Vec2}
use Rattle.shape.specs.declared.Shape.{Shape}
use Rattle.shape.specs.declared.Shape.TheVariants.{Line, Round}
use Rattle.shape.specs.Measures.{param, dist}
use Rattle.shape.specs.Intersections.{points, crossings}
use Rattle.sketch.specs.Lists.{every, keep}
use Rattle.bernstein.specs.Roots as R
use Rattle.bernstein.specs.Roots.{roots_of}
use Rattle.support.specs.Freeform.{Freeform, controls, weights, point_at}

-- the hits in order, or a refusal's number; and the budget that is left
pub data HitsResult : Type 0 where
  found : List Vec2 → ℕ → HitsResult
  refused : ℕ → ℕ → HitsResult

-- refused by the number where the test fails, with the budget as it is
unfoldable pub guard_hits : Bool → ℕ → ℕ → HitsResult → HitsResult
guard_hits true n b o = o
guard_hits false n b o = refused n b

-- ---- a line or round

-- the line lies along the support, from p in the direction: both its ends are within 1e-9 of it
unfoldable pub overlaps : Vec2 → Option Vec2 → Shape → Bool
overlaps p None piece = false
overlaps p (Some d) (Line a b) = lt (abs (cross d (a -ᵥ p))) 1e-9 && lt (abs (cross d (b -ᵥ p))) 1e-9
overlaps p (Some d) (Round c r start sweep) = false

-- within the piece's ends, but for 1e-10 of the parameter; a round's parameter is never negative
unfoldable pub on_piece : Shape → Vec2 → Bool
on_piece (Line a b) q = le (neg 1e-10) (param (Line a b) q) && le (param (Line a b) q) (1f ⊕ 1e-10)
on_piece (Round c r start sweep) q = le (param (Round c r start sweep) q) (sweep ⊕ 1e-10)

-- 15 where it overlaps, and else the crossings that lie on it
unfoldable pub shape_hits : Vec2 → Vec2 → Shape → ℕ → HitsResult
shape_hits a b piece budget =
    guard_hits (not (overlaps a (normalized (b -ᵥ a)) piece)) 15 budget
    (found (keep (on_piece piece) (points (crossings (Line a b) piece))) budget)

-- ---- a freeform curve: the roots of its distance from the line

unfoldable pub max_of : Float → List Float → Float
max_of m [] = m
max_of m (x ∷ xs) =
    let now = max m x in
    max_of now xs

-- a control point seen from o, each coordinate times its weight and over the scale; then across d
unfoldable pub off : Vec2 → Vec2 → Float → Vec2 → Float → Float
off d o scale p w = d.x ⊗ ((p.y ⊖ o.y) ⊗ w ⊘ scale) ⊖ d.y ⊗ ((p.x ⊖ o.x) ⊗ w ⊘ scale)

unfoldable pub off_each : Vec2 → Vec2 → Float → List Vec2 → List Float → List Float
off_each d o scale [] ws = []
off_each d o scale (p ∷ ps) [] = []
off_each d o scale (p ∷ ps) (w ∷ ws) = off d o scale p w ∷ off_each d o scale ps ws

-- the distance as a polynomial, the largest weight being 1 and the farthest control point at 1
unfoldable pub polynomial : Vec2 → Vec2 → Freeform → List Float
polynomial d o f =
    let scale = max_of 1f (map (λ p. distance p o) (controls f)) in
    let heaviest = max_of 1f (weights f) in
    off_each d o scale (controls f) (map (λ w. w ⊘ heaviest) (weights f))

-- a hit was found nearer than 1e-7 to q
unfoldable pub has_near_hit : Vec2 → List Vec2 → Bool
has_near_hit q [] = false
has_near_hit q (p ∷ ps) = cond (lt (distance p q) 1e-7) true (has_near_hit q ps)

-- the points at the roots, those near an earlier one left out; 16 where one lies more than 1e-7 off the support
unfoldable pub resolved : Shape → Freeform → List Vec2 → List Float → ℕ → HitsResult
resolved line f hits [] b = found hits b
resolved line f hits (t ∷ ts) b =
    let q = point_at f t in
    let now = cond (has_near_hit q hits) hits (hits ++ q ∷ []) in
    let rest = resolved line f now ts b in
    guard_hits (le (dist line q) 1e-7) 16 b rest

unfoldable pub resolved_at : Shape → Freeform → R.RootsResult → HitsResult
resolved_at line f (R.found ts b) = resolved line f [] ts b
resolved_at line f (R.refused n b) = refused n b

-- 15 where every coefficient counts as nothing
unfoldable pub freeform_by : Shape → Freeform → List Float → ℕ → HitsResult
freeform_by line f c budget = guard_hits (not (every (λ x. lt (abs x) 1e-28) c)) 15 budget (resolved_at line f (roots_of c budget))

-- 16 where the support has no direction
unfoldable pub freeform_along : Vec2 → Vec2 → Option Vec2 → Freeform → ℕ → HitsResult
freeform_along a b None f budget = refused 16 budget
freeform_along a b (Some d) f budget = freeform_by (Line a b) f (polynomial d a f) budget

abbrev pub freeform_hits : Vec2 → Vec2 → Freeform → ℕ → HitsResult
freeform_hits a b f budget = freeform_along a b (normalized (b -ᵥ a)) f budget

-- ---- endless: an infinite line as a boundary, 1e7 each way from its point nearest to `near`

unfoldable pub endless_along : Vec2 → Vec2 → Option Vec2 → Vec2 → Shape
endless_along a b None near = Line a b
endless_along a b (Some d) near =
    let m = a +ᵥ d ·ᵥ dot (near -ᵥ a) d in
    Line (m -ᵥ d ·ᵥ 1e7) (m +ᵥ d ·ᵥ 1e7)

abbrev pub endless_line : Vec2 → Vec2 → Vec2 → Shape
endless_line a b near = endless_along a b (normalized (b -ᵥ a)) near
