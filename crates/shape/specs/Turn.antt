-- Directions without sine or arctangent: a full turn counts 4, and a direction's turn grows from 0 along x to the left. Definitions only.
use Rattle.std.specs.Prelude.{ℕ, zero, suc, cond, ◌&&◌, Float}
use Rattle.std.specs.Float.Ieee.{neg, lt, le, eq}
use Rattle.float.specs.Numbers.{◌⊕◌, ◌⊖◌, ◌⊘◌, as_float, 0f, 1f, 2f, 3f, 4f}
use Rattle.float.specs.Sign.{abs}
use Rattle.geom.specs.Plane.{vec, ◌/ᵥ◌, len, perp}
use Rattle.geom.specs.declared.Vec2.{Vec2}

-- by the quarter in which (x, y) lies, s being |x| + |y|; where x or y is a NaN it is the last, and a NaN
unfoldable pub in_quarter : Float → Float → Float → Float
in_quarter x y s =
    cond (lt 0f x && le 0f y) (y ⊘ s)
    (cond (le x 0f && lt 0f y) (1f ⊕ neg x ⊘ s)
    (cond (lt x 0f && le y 0f) (2f ⊕ neg y ⊘ s)
    (3f ⊕ x ⊘ s)))

-- a full turn is none
unfoldable pub below4 : Float → Float
below4 t = cond (eq t 4f) 0f t

-- the turn of a vector: 0 where it has no length
unfoldable pub turn : Vec2 → Float
turn v =
    let s = abs v.x ⊕ abs v.y in
    cond (eq s 0f) 0f (below4 (in_quarter v.x v.y s))

-- a parameter, by the turn from a start: one that would lie behind it lies a full turn on
unfoldable pub forward : Float → Float
forward t = cond (lt t 0f) (t ⊕ 4f) t

-- a sweep, by the turn from start to end: it goes forward, and all the way round to where it started
unfoldable pub upward : Float → Float
upward t = cond (lt 0f t) t (t ⊕ 4f)

-- within one turn: a completed one is taken off, once
unfoldable pub wrapped : Float → Float
wrapped s = cond (le 4f s) (s ⊖ 4f) s

-- the quarter of s, by comparing: 0 for a negative number, 3 for a NaN and for all from 3 on
unfoldable pub quarter : Float → ℕ
quarter s = cond (lt s 1f) 0 (cond (lt s 2f) 1 (cond (lt s 3f) 2 3))

-- k quarters to the left
unfoldable pub turned : ℕ → Vec2 → Vec2
turned zero u = u
turned (suc k) u = perp (turned k u)

-- the direction at the fraction f of the first quarter
unfoldable pub first_quarter : Float → Vec2
first_quarter f =
    let u = vec (1f ⊖ f) f in
    u /ᵥ len u

-- the direction whose turn is s
unfoldable pub heading : Float → Vec2
heading s =
    let k = quarter s in
    turned k (first_quarter (s ⊖ as_float k))
