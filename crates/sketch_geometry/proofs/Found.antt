-- A point by its place among ids that rise. Assumes nothing.
use mathlib.Core.Path.{◌≡◌, refl}
use mathlib.Core.Bool.{false}
use mathlib.Core.List.{List, [], ◌∷◌}
use Prim.Native.Nat.{ℕ, zero, suc, ◌<◌}
use native.Mathlib.Omega.{arith}
use lib.ListN.{length, get_or, length-map}
use lib.Dec.{eqb}
use lib.Ieee.{nan, div, of_bits}
use Rattle.float.specs.Numbers.{◌⊘◌, 0f}
use borrow.Author.Tests.{eq-eqb, ne_eqb}
use Rattle.geom.specs.Plane.{vec}
use Rattle.sketch.specs.Lookup.{among, Ascends}
use Rattle.sketch.specs.Drawing.{point_ids}
use Rattle.sketch.specs.Blanks.{no_point}
use Rattle.sketch.specs.declared.Point.{Point}
use Rattle.sketch.proofs.Bools.{or_left_false, or_right_false}
use Rattle.sketch.proofs.Ascent.{above_at, above_ascends}
use Rattle.sketch.proofs.Facts.{get_or_mapped}
use Rattle.sketch_geometry.specs.Geometry.{nowhere, position_of}

-- what 0 / 0 gives
pub no_number : 0f ⊘ 0f ≡ nan
unfolding div of_bits
no_number = refl

-- ids rise, so that the point at a place is the one that its id names
pub point_at_lem : (ps : List Point) (k : ℕ) → Ascends (point_ids ps) → k < length ps → position_of ps (get_or ps k no_point).id ≡ vec (get_or ps k no_point).x (get_or ps k no_point).y
unfolding position_of
point_at_lem [] k h q = absurd (omega arith)
point_at_lem (p ∷ ps) zero h q = rw (eq-eqb p.id p.id refl)
point_at_lem (p ∷ ps) (suc k) h q =
    let u = above_at p.id (point_ids ps) k h (rw (length-map ps (λ (x : Point). x.id)) (omega arith)) in
    let e = get_or_mapped (λ (x : Point). x.id) 0 no_point ps k (omega arith) in
    rw (ne_eqb (get_or ps k no_point).id p.id (λ x. omega arith)) (point_at_lem ps k (above_ascends p.id (point_ids ps) h) (omega arith))

pub point_nowhere : (i : ℕ) (ps : List Point) → among i (point_ids ps) ≡ false → position_of ps i ≡ nowhere
unfolding position_of
point_nowhere i [] h = refl
point_nowhere i (p ∷ ps) h =
    rw (or_left_false (eqb i p.id) (among i (point_ids ps)) h) (point_nowhere i ps (or_right_false (eqb i p.id) (among i (point_ids ps)) h))
