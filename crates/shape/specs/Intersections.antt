-- Where endless lines and full circles cross, in order. Each operation is rounded once, from left to right. Definitions only.
use Rattle.std.specs.Prelude.{cond, Option, Some, None, List, [], ◌∷◌, Float}
use Rattle.std.specs.Float.Ieee.{lt, eq}
use Rattle.float.specs.Numbers.{◌⊕◌, ◌⊖◌, ◌⊗◌, ◌⊘◌, √, 0f, 2f, 1e-12, 1e-15}
use Rattle.float.specs.Sign.{abs}
use Rattle.geom.specs.Plane.{◌+ᵥ◌, ◌-ᵥ◌, ◌·ᵥ◌, ◌/ᵥ◌, dot, cross, perp, len, normalized}
use Rattle.geom.specs.declared.Vec2.{Vec2}
use Rattle.shape.specs.declared.Crossings.{Crossings}
use Rattle.shape.specs.declared.Crossings.TheVariants.{Zero, One, Two}
use Rattle.shape.specs.declared.Shape.{Shape}
use Rattle.shape.specs.declared.Shape.TheVariants.{Line, Round}

-- the points, in order
abbrev pub points : Crossings → List Vec2
points Zero = []
points (One p) = p ∷ []
points (Two p q) = p ∷ q ∷ []

-- from a along r and from c along s: none where r cross s is below 1e-15 in magnitude
unfoldable pub lines : Vec2 → Vec2 → Vec2 → Vec2 → Crossings
lines a r c s =
    let k = cross r s in
    cond (lt (abs k) 1e-15) Zero (One (a +ᵥ r ·ᵥ (cross (c -ᵥ a) s ⊘ k)))

-- by the sign of H: none below 0, the middle m at 0, and else the two
unfoldable pub by_sign : Float → Vec2 → Vec2 → Vec2 → Crossings
by_sign H m first second = cond (lt H 0f) Zero (cond (eq H 0f) (One m) (Two first second))

-- from a in a direction d, and around c with radius r: none without d, and else at √H before and behind the foot m of c
unfoldable pub line_and_round : Vec2 → Option Vec2 → Vec2 → Float → Crossings
line_and_round a None c r = Zero
line_and_round a (Some d) c r =
    let m = a +ᵥ d ·ᵥ dot (c -ᵥ a) d in
    let H = r ⊗ r ⊖ dot (m -ᵥ c) (m -ᵥ c) in
    by_sign H m (m -ᵥ d ·ᵥ √ H) (m +ᵥ d ·ᵥ √ H)

-- around c1 and c2, which lie D apart: none for a D below 1e-12, and else at √H to the left and to the right of m, seen from c1 to c2
unfoldable pub rounds : Vec2 → Float → Vec2 → Float → Crossings
rounds c1 r1 c2 r2 =
    let e = c2 -ᵥ c1 in
    let D = len e in
    let g = (D ⊗ D ⊕ r1 ⊗ r1 ⊖ r2 ⊗ r2) ⊘ (2f ⊗ D) in
    let H = r1 ⊗ r1 ⊖ g ⊗ g in
    let m = c1 +ᵥ e ·ᵥ (g ⊘ D) in
    let n = perp e /ᵥ D in
    cond (lt D 1e-12) Zero (by_sign H m (m +ᵥ n ·ᵥ √ H) (m -ᵥ n ·ᵥ √ H))

-- of the endless line or the full circle of each; a line goes first, whichever is given first
unfoldable pub crossings : Shape → Shape → Crossings
crossings (Line a b) (Line c d) = lines a (b -ᵥ a) c (d -ᵥ c)
crossings (Line a b) (Round c r start sweep) = line_and_round a (normalized (b -ᵥ a)) c r
crossings (Round c r start sweep) (Line a b) = line_and_round a (normalized (b -ᵥ a)) c r
crossings (Round c1 r1 start1 sweep1) (Round c2 r2 start2 sweep2) = rounds c1 r1 c2 r2

-- the direction of a line; a round has none
unfoldable pub direction_of : Shape → Option Vec2
direction_of (Line a b) = normalized (b -ᵥ a)
direction_of (Round c r start sweep) = None

-- the same with a given direction of the first, for a line and a round
unfoldable pub crossings_by : Option Vec2 → Shape → Shape → Crossings
crossings_by d (Line a b) (Line c e) = crossings (Line a b) (Line c e)
crossings_by d (Line a b) (Round c r start sweep) = line_and_round a d c r
crossings_by d (Round c r start sweep) other = crossings (Round c r start sweep) other
