-- `relations::is_met` meets its contract.
use Rattle.std.proofs.Common.{◌∙◌}
use Rattle.relations.proofs.Cases.{met_coincident, met_on_curve, met_collinear, met_equal, met_length, met_distance, met_midpoint, met_arc_length, met_arc_sweep}
use Rattle.relations.proofs.image_search.is_met.Goals as goal

pub returns-in-Coincident : goal.returns-in-Coincident
returns-in-Coincident c = λ ps cs p w. c.close.ensures ∙ met_coincident _ cs _ c.in-Coincident.is (c.position_after.ensures ps p) (c.position_after-in-Coincident.ensures ps p)

pub returns-in-PointOnCurve : goal.returns-in-PointOnCurve
returns-in-PointOnCurve c = λ ps cs p w. c.on.ensures ∙ met_on_curve _ cs _ _ c.in-PointOnCurve.is (c.whole_shape.ensures ps cs p w) (c.position_after-in-PointOnCurve.ensures ps p)

pub returns-in-Collinear : goal.returns-in-Collinear
returns-in-Collinear c = λ ps cs p w. c.is_collinear.ensures ∙ met_collinear _ cs _ _ _ c.in-Collinear.is (c.whole_shape-in-Collinear.ensures ps cs p w) (c.whole_shape-in-Collinear-2.ensures ps cs p w)

pub returns-in-Equal : goal.returns-in-Equal
returns-in-Equal c =
    λ ps cs p w. c.same.ensures ∙ rw (c.length_or_radius_of-in-Equal.ensures, c.length_or_radius_of.ensures)
    (met_equal _ cs _ _ _ c.in-Equal.is (c.whole_shape-s.ensures ps cs p w) (c.whole_shape-t.ensures ps cs p w))

pub returns-in-Length : goal.returns-in-Length
returns-in-Length c = λ ps cs p w. c.same-in-Length.ensures ∙ rw c.length_or_radius_of-in-Length.ensures (met_length _ cs _ _ c.in-Length.is (c.whole_shape-s-in-Length.ensures ps cs p w))

pub returns-in-Distance : goal.returns-in-Distance
returns-in-Distance c =
    λ ps cs p w. c.same-in-Distance.ensures ∙ rw c.dist.ensures
    (met_distance _ cs _ c.in-Distance.is (c.position_after-a.ensures ps p) (c.position_after-b.ensures ps p))

pub returns-in-Midpoint : goal.returns-in-Midpoint
returns-in-Midpoint c = λ ps cs p w. c.is_midpoint.ensures ∙ met_midpoint _ cs _ _ c.in-Midpoint.is (c.position_after-in-Midpoint.ensures ps p) (c.whole_shape-in-Midpoint.ensures ps cs p w)

pub returns-in-ArcLength : goal.returns-in-ArcLength
returns-in-ArcLength c = λ ps cs p w. met_arc_length _ cs _ c.in-ArcLength.is

pub returns-in-ArcSweep : goal.returns-in-ArcSweep
returns-in-ArcSweep c = λ ps cs p w. met_arc_sweep _ cs _ c.in-ArcSweep.is
