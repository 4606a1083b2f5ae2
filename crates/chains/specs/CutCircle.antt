-- A worked example of rings: a circle is split at two points, then one of its arcs is removed whole; another time the circle itself is. The drawings and
-- reports are written out, as the document's steps make them. Definitions only.
use Rattle.std.specs.Prelude.{true, false, List, [], ◌∷◌, ℕ}
use Rattle.std.specs.Float.Ieee.{neg}
use Rattle.float.specs.Numbers.{0f, 1f}
use Rattle.geom.specs.declared.Vec2.{Vec2}
use Rattle.sketch.specs.declared.Curve.{Curve}
use Rattle.sketch.specs.declared.CurveKind.{CurveKind}
use Rattle.sketch.specs.declared.CurveKind.TheVariants.{Arc, Circle}
use Rattle.sketch.specs.declared.Relation.TheVariants.{Equal}
use Rattle.sketch.specs.Drawing.{Drawing}
use Rattle.edit_plan.specs.declared.Removed.{Removed}
use Rattle.edit_plan.specs.Tables.{new_point, new_curve}
use Rattle.agreement.specs.Machines.{Entry}
use Rattle.agreement.specs.Families.{Member}

abbrev pub east : Vec2
east = record { x = 1f; y = 0f }

abbrev pub west : Vec2
west = record { x = neg 1f; y = 0f }

abbrev curve : ℕ → CurveKind → Curve
curve i k = new_curve i k false

-- the circle 2 about the point 1
abbrev pub wheel : Curve
wheel = curve 2 (Circle 1 1f)

abbrev pub uncut : Drawing
uncut = record { next = 3; points = new_point 1 (record { x = 0f; y = 0f }) ∷ []; curves = wheel ∷ []; relations = [] }

-- split in the points 3 and 4: the arc 2 from 3 to 4, the arc 5 back
abbrev pub two_arcs : Drawing
two_arcs =
    record {
      next = 6;
      points = new_point 1 (record { x = 0f; y = 0f }) ∷ new_point 3 east ∷ new_point 4 west ∷ [];
      curves = curve 2 (Arc 1 3 4) ∷ curve 5 (Arc 1 4 3) ∷ [];
      relations = Equal 2 5 ∷ [];
    }

-- without the arc 5
abbrev pub one_arc : Drawing
one_arc =
    record {
      next = 6;
      points = new_point 1 (record { x = 0f; y = 0f }) ∷ new_point 3 east ∷ new_point 4 west ∷ [];
      curves = curve 2 (Arc 1 3 4) ∷ [];
      relations = [];
    }

-- without the circle, and so without its centre
abbrev pub no_curves : Drawing
no_curves = record { next = 3; points = []; curves = []; relations = [] }

abbrev pub split_report : Removed
split_report = record { curve = 0; from = 0; to = 0 }

abbrev pub arc_report : Removed
arc_report = record { curve = 5; from = 4; to = 3 }

abbrev pub circle_report : Removed
circle_report = record { curve = 2; from = 0; to = 0 }

-- an edit is here the id of its curve
abbrev pub edited_curve : ℕ → ℕ
edited_curve i = i

abbrev pub cut_log : List (Entry Drawing ℕ Removed)
cut_log =
    record { after = record { drawing = two_arcs; count = 1 }; edit = 2; report = split_report }
    ∷ record { after = record { drawing = one_arc; count = 2 }; edit = 5; report = arc_report }
    ∷ []

abbrev pub removal_log : List (Entry Drawing ℕ Removed)
removal_log = record { after = record { drawing = no_curves; count = 1 }; edit = 2; report = circle_report } ∷ []

-- the ring, read from the point 3
abbrev pub ring : List Member
ring = record { id = 2; from = 3; to = 4; stands = true } ∷ record { id = 5; from = 4; to = 3; stands = false } ∷ []
