-- Relations once a point has moved. Definitions only.
use Rattle.std.specs.Prelude.{ℕ, Bool, not, ◌||◌, List, map}
use Rattle.geom.specs.declared.Vec2.{Vec2}
use Rattle.sketch.specs.Lookup.{among}
use Rattle.sketch.specs.Drawing.{Drawing, points_of}
use Rattle.sketch.specs.declared.Point.{Point}
use Rattle.sketch.specs.declared.Curve.{Curve}
use Rattle.sketch.specs.declared.Relation.{Relation}
use Rattle.edit_plan.specs.Tables.{moved, curves_of}
use Rattle.relations.specs.Met.{met, first_failing}

-- a relation names the point p or the curve c
abbrev pub names : ℕ → ℕ → Relation → Bool
names p c r = among p (points_of r) || among c (curves_of r)

-- it names neither, or is met once p is at v
abbrev pub met_if_named : ℕ → Vec2 → ℕ → List Point → List Curve → Relation → Bool
met_if_named p v c ps cs r = not (names p c r) || met (map (moved p v) ps) cs r

-- the place of the first relation that names p or c and is not met once p is at v; the number of relations where there is none
abbrev pub first_named_unmet : ℕ → Vec2 → ℕ → Drawing → ℕ
first_named_unmet p v c d = first_failing (met_if_named p v c d.points d.curves) d.relations
