-- The drawings of the worked examples.
use Rattle.std.specs.Prelude.{ℕ, false, List, [], ◌∷◌, Float}
use Rattle.std.specs.Float.Ieee.{neg}
use Rattle.float.specs.Numbers.{as_float}
use Rattle.geom.specs.Plane.{vec}
use Rattle.geom.specs.declared.Vec2.{Vec2}
use Rattle.sketch.specs.declared.Point.{Point}
use Rattle.sketch.specs.declared.Curve.{Curve}
use Rattle.sketch.specs.declared.CurveKind.TheVariants.{Line}
use Rattle.sketch.specs.declared.Relation.{Relation}
use Rattle.sketch.specs.Drawing.{Drawing}
use Rattle.edit_plan.specs.Tables.{new_point, new_curve}

abbrev pub −1 : Float
−1 = neg (as_float 1)

abbrev pub mk_vec : ℕ → ℕ → Vec2
mk_vec x y = vec (as_float x) (as_float y)

abbrev pub mk_point : ℕ → ℕ → ℕ → Point
mk_point i x y = new_point i (mk_vec x y)

-- a point below the x axis, by 1
abbrev pub below : ℕ → ℕ → Point
below i x = new_point i (vec (as_float x) −1)

abbrev pub mk_line : ℕ → ℕ → ℕ → Curve
mk_line i a b = new_curve i (Line a b) false

abbrev pub mk_drawing : ℕ → List Point → List Curve → List Relation → Drawing
mk_drawing n ps cs rs = record { next = n; points = ps; curves = cs; relations = rs }

-- L: one line, from (0, 0) to (4, 0)
abbrev pub L : List Relation → Drawing
L rs = mk_drawing 4 (mk_point 1 0 0 ∷ mk_point 2 4 0 ∷ []) (mk_line 3 1 2 ∷ []) rs

-- T: L, and a line across it at x = 1
abbrev pub T : Drawing
T = mk_drawing 7 (mk_point 1 0 0 ∷ mk_point 2 4 0 ∷ below 4 1 ∷ mk_point 5 1 1 ∷ []) (mk_line 3 1 2 ∷ mk_line 6 4 5 ∷ []) []

-- T with the level line's end at (2, 0), and the line across at x = 5, from y = −1 to a height
abbrev pub T5OfHeight : Float → List Relation → Drawing
T5OfHeight y rs = mk_drawing 7 (mk_point 1 0 0 ∷ mk_point 2 2 0 ∷ below 4 5 ∷ new_point 5 (vec (as_float 5) y) ∷ []) (mk_line 3 1 2 ∷ mk_line 6 4 5 ∷ []) rs

abbrev pub T5 : List Relation → Drawing
T5 rs = T5OfHeight (as_float 1) rs
