-- Where other curves cut a curve: cut_points. Definitions only.
use Rattle.std.specs.Prelude.{ℕ, Bool, not, ◌&&◌, ◌||◌, cond, List, [], ◌∷◌, ◌++◌, Float}
use Rattle.std.proofs.Math.Option.{Option, some, none}
use Rattle.std.specs.Float.Ieee.{lt}
use Rattle.float.specs.Numbers.{0f, 1e-6}
use Rattle.geom.specs.Plane.{distance}
use Rattle.geom.specs.declared.Vec2.{Vec2}
use Rattle.shape.specs.declared.Shape.{Shape}
use Rattle.shape.specs.declared.Shape.TheVariants.{Line, Round}
use Rattle.shape.specs.Measures.{is_full, param, point}
use Rattle.shape.specs.Intersections.{points, crossings}
use Rattle.sketch.specs.declared.Point.{Point}
use Rattle.sketch.specs.declared.Curve.{Curve}
use Rattle.sketch.specs.Lists.{concat_map}
use Rattle.sketch_geometry.specs.Geometry.{shape_of}
use Rattle.cuts.specs.declared.Cutter.{Cutter}
use Rattle.cuts.specs.declared.Cut.{Cut}
use Rattle.cuts.specs.Lists.{any}
use Rattle.cuts.specs.Bounded.{on_bounded}

abbrev pub mk_cut : Float → Vec2 → ℕ → Cut
mk_cut t p o = record { t = t; at = p; by = o }

-- the ends of a line, and of an arc that is not full
unfoldable pub end_points : Shape → List Vec2
end_points (Line a b) = a ∷ b ∷ []
end_points (Round c r start sweep) =
    let sh = Round c r start sweep in
    cond (is_full sh) [] (point sh 0f ∷ point sh sweep ∷ [])

-- a cut was found nearer than 1e-6 to q
unfoldable pub found_near : List Cut → Vec2 → Bool
found_near found q = any (λ k. lt (distance k.at q) 1e-6) found

-- q is on both curves, an infinite line reaching beyond its ends, and was not found before
unfoldable pub cuts_here : Shape → Cutter → List Cut → Vec2 → Bool
cuts_here sh o found q = (o.infinite || on_bounded o.shape q) && (on_bounded sh q && not (found_near found q))

unfoldable pub cut_step : Shape → Cutter → List Cut → Vec2 → List Cut
cut_step sh o found q = cond (cuts_here sh o found q) (found ++ mk_cut (param sh q) q o.id ∷ []) found

unfoldable pub cuts_on : Shape → Cutter → List Cut → List Vec2 → List Cut
cuts_on sh o found [] = found
cuts_on sh o found (q ∷ qs) =
    let now = cut_step sh o found q in
    cuts_on sh o now qs

-- the crossings with one other curve, then its ends, which touch where parallel lines don't cross
unfoldable pub cuts_by : Shape → Cutter → List Cut → List Cut
cuts_by sh o found = cuts_on sh o found (points (crossings sh o.shape) ++ end_points o.shape)

unfoldable pub cuts_among : Shape → List Cutter → List Cut → List Cut
cuts_among sh [] found = found
cuts_among sh (o ∷ os) found =
    let now = cuts_by sh o found in
    cuts_among sh os now

-- the cuts of all others, in their order
abbrev pub cut_points : Shape → List Cutter → List Cut
cut_points sh os = cuts_among sh os []

-- ---- what may cut

-- a freeform curve doesn't
unfoldable pub cutter_of : Curve → Option Shape → List Cutter
cutter_of c none = []
cutter_of c (some sh) = record { id = c.id; infinite = c.infinite; shape = sh } ∷ []

abbrev pub cutters_of : List Point → List Curve → List Cutter
cutters_of ps cs = concat_map (λ c. cutter_of c (shape_of ps c.kind)) cs
