-- Points and vectors of the plane: each operation on a coordinate is rounded once, from left to right. Definitions only.
use Rattle.std.specs.Prelude.{cond, Option, Some, None, Float}
use Rattle.std.specs.Float.Ieee.{neg, lt}
use Rattle.float.specs.Numbers.{◌⊕◌, ◌⊖◌, ◌⊗◌, ◌⊘◌, √, 0f, 1e-12}
use Rattle.geom.specs.declared.Vec2.{Vec2}

infixl 70 ◌+ᵥ◌
infixl 70 ◌-ᵥ◌
infixl 75 ◌·ᵥ◌
infixl 75 ◌/ᵥ◌
abbrev pub vec : Float → Float → Vec2
vec x y = record { x = x; y = y }

abbrev pub origin : Vec2
origin = vec 0f 0f

abbrev pub ◌+ᵥ◌ : Vec2 → Vec2 → Vec2
u +ᵥ v = vec (u.x ⊕ v.x) (u.y ⊕ v.y)

abbrev pub ◌-ᵥ◌ : Vec2 → Vec2 → Vec2
u -ᵥ v = vec (u.x ⊖ v.x) (u.y ⊖ v.y)

abbrev pub ◌·ᵥ◌ : Vec2 → Float → Vec2
u ·ᵥ k = vec (u.x ⊗ k) (u.y ⊗ k)

abbrev pub ◌/ᵥ◌ : Vec2 → Float → Vec2
u /ᵥ k = vec (u.x ⊘ k) (u.y ⊘ k)

abbrev pub dot : Vec2 → Vec2 → Float
dot u v = u.x ⊗ v.x ⊕ u.y ⊗ v.y

abbrev pub cross : Vec2 → Vec2 → Float
cross u v = u.x ⊗ v.y ⊖ u.y ⊗ v.x

-- a quarter turn to the left
abbrev pub perp : Vec2 → Vec2
perp u = vec (neg u.y) u.x

abbrev pub len : Vec2 → Float
len u = √ (dot u u)

-- how far two points lie apart
abbrev pub distance : Vec2 → Vec2 → Float
distance p q = len (p -ᵥ q)

-- a vector over its length; below a length of 1e-12 it has no direction
unfoldable pub normalized : Vec2 → Option Vec2
normalized u =
    let l = len u in
    cond (lt l 1e-12) None (Some (u /ᵥ l))
