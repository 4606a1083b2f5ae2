-- What the rules of a relation without a measure come to; those of each sort of it stand in `rows`.
use mathlib.Core.Path.{◌≡◌, refl}
use mathlib.Core.Bool.{true}
use Prim.Native.Nat.{ℕ}
use lib.Ieee.{Float}
use Rattle.sketch.specs.declared.Relation.{Relation}
use Rattle.sketch.specs.declared.Relation.TheVariants.{Coincident, PointOnCurve, Collinear, Equal, Length, Distance, Midpoint, ArcLength, ArcSweep}
use Rattle.sketch.specs.Valid.{ok_relation}

pub ok_unmeasured : (r : Relation) → ((l : ℕ) (v : Float) → r ≡ Length l v → ⊥) → ((p q : ℕ) (v : Float) → r ≡ Distance p q v → ⊥) → ((c : ℕ) (v : Float) → r ≡ ArcLength c v → ⊥)
    → ((c : ℕ) (v : Float) → r ≡ ArcSweep c v → ⊥) → true ≡ ok_relation r
unfolding ok_relation
ok_unmeasured (Coincident p q) l d a s = refl
ok_unmeasured (PointOnCurve p c) l d a s = refl
ok_unmeasured (Collinear a b) l d a' s = refl
ok_unmeasured (Equal a b) l d a' s = refl
ok_unmeasured (Length x v) l d a s = absurd (l x v refl)
ok_unmeasured (Distance p q v) l d a s = absurd (d p q v refl)
ok_unmeasured (Midpoint p x) l d a s = refl
ok_unmeasured (ArcLength c v) l d a s = absurd (a c v refl)
ok_unmeasured (ArcSweep c v) l d a s = absurd (s c v refl)
