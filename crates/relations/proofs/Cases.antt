-- Whether a relation is met, one law for each sort of it: from the points and shapes that were read. Assumes nothing.
use mathlib.Core.Path.{◌≡◌, refl, ap, ◌∙◌}
use mathlib.Core.Bool.{true}
use mathlib.Core.List.{List, [], ◌∷◌}
use mathlib.Core.Option.{Option}
use Rattle.std.specs.Prelude.{Option as Answer}
use Rattle.sketch_geometry.specs.Positions.{shape_found}
use Prim.Native.Nat.{ℕ}
use lib.Ieee.{Float}
use Rattle.geom.specs.Plane.{distance}
use Rattle.geom.specs.declared.Vec2.{Vec2}
use Rattle.shape.specs.declared.Shape.{Shape}
use Rattle.sketch.specs.Lists.{every}
use Rattle.sketch.specs.declared.Point.{Point}
use Rattle.sketch.specs.declared.Curve.{Curve}
use Rattle.sketch.specs.declared.Relation.{Relation}
use Rattle.sketch.specs.declared.Relation.TheVariants.{Coincident, PointOnCurve, Collinear, Equal, Length, Distance, Midpoint, ArcLength, ArcSweep}
use Rattle.sketch_geometry.specs.Geometry.{position_of, shape_in}
use Rattle.relations.specs.Met.{same, close, on, length_or_radius_of, line_end_points, line_midpoint, met}
use Rattle.relations.specs.Whole.{whole}
use Rattle.relations.proofs.CurveMeasures.{on_whole, extent_whole, ends_whole, middle_whole}

every_whole : (o : Option Shape) (l : List Vec2) → every (on (whole o)) l ≡ every (on o) l
every_whole o [] = refl
every_whole o (p ∷ l) = rw (on_whole o p, every_whole o l)

module _ (ps : List Point) (cs : List Curve) (r : Relation) where
  -- the shape is the curve's, as far as it is measured
  abbrev Read : Answer Shape → ℕ → Type 0
  Read s c = shape_found s ≡ whole (shape_in ps cs c)

  extent_read : (s : Answer Shape) (c : ℕ) → Read s c → length_or_radius_of (shape_found s) ≡ length_or_radius_of (shape_in ps cs c)
  extent_read s c f = ap length_or_radius_of f ∙ extent_whole (shape_in ps cs c)

  module _ {p q : ℕ} {a b : Vec2} where
    pub met_coincident : r ≡ Coincident p q → a ≡ position_of ps p → b ≡ position_of ps q → close a b ≡ met ps cs r
    unfolding met
    met_coincident e f g = rw (e, f, g)

    pub met_distance : {v : Float} → r ≡ Distance p q v → a ≡ position_of ps p → b ≡ position_of ps q → same (distance a b) v ≡ met ps cs r
    unfolding met
    met_distance e f g = rw (e, f, g)

  module _ {p c : ℕ} {a : Vec2} (s : Answer Shape) where
    pub met_on_curve : r ≡ PointOnCurve p c → Read s c → a ≡ position_of ps p → on (shape_found s) a ≡ met ps cs r
    unfolding met
    met_on_curve e f g = rw (e, f, g) (on_whole (shape_in ps cs c) (position_of ps p))

    pub met_midpoint : r ≡ Midpoint p c → a ≡ position_of ps p → Read s c → close a (line_midpoint (shape_found s)) ≡ met ps cs r
    unfolding met
    met_midpoint e f g = rw (e, f, ap line_midpoint g ∙ middle_whole (shape_in ps cs c))

  module _ {a b : ℕ} (s t : Answer Shape) where
    pub met_collinear : r ≡ Collinear a b → Read s a → Read t b → every (on (shape_found s)) (line_end_points (shape_found t)) ≡ met ps cs r
    unfolding met
    met_collinear e f g = rw (e, f, ap line_end_points g ∙ ends_whole (shape_in ps cs b)) (every_whole (shape_in ps cs a) (line_end_points (shape_in ps cs b)))

    pub met_equal : r ≡ Equal a b → Read s a → Read t b → same (length_or_radius_of (shape_found s)) (length_or_radius_of (shape_found t)) ≡ met ps cs r
    unfolding met
    met_equal e f g = rw (e, extent_read s a f, extent_read t b g)

  module _ {l : ℕ} {v : Float} where
    pub met_length : (s : Answer Shape) → r ≡ Length l v → Read s l → same (length_or_radius_of (shape_found s)) v ≡ met ps cs r
    unfolding met
    met_length s e f = rw (e, extent_read s l f)

    pub met_arc_length : r ≡ ArcLength l v → true ≡ met ps cs r
    unfolding met
    met_arc_length e = rw e

    pub met_arc_sweep : r ≡ ArcSweep l v → true ≡ met ps cs r
    unfolding met
    met_arc_sweep e = rw e
