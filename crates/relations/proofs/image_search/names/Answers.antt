-- `relations::names` meets its contract.
use Rattle.relations.proofs.Named.{names_coincident, names_on_curve, names_collinear, names_equal, names_length, names_distance, names_midpoint, names_arc_length, names_arc_sweep}
use Rattle.relations.proofs.image_search.names.Goals as goal

pub returns-in-Coincident : goal.returns-in-Coincident
returns-in-Coincident c = names_coincident _ _ c.in-Coincident.is

pub returns-in-PointOnCurve : goal.returns-in-PointOnCurve
returns-in-PointOnCurve c = names_on_curve _ _ c.in-PointOnCurve.is

pub returns-in-Collinear : goal.returns-in-Collinear
returns-in-Collinear c = names_collinear _ _ c.in-Collinear.is

pub returns-in-Equal : goal.returns-in-Equal
returns-in-Equal c = names_equal _ _ c.in-Equal.is

pub returns-in-Length : goal.returns-in-Length
returns-in-Length c = names_length _ _ c.in-Length.is

pub returns-in-Distance : goal.returns-in-Distance
returns-in-Distance c = names_distance _ _ c.in-Distance.is

pub returns-in-Midpoint : goal.returns-in-Midpoint
returns-in-Midpoint c = names_midpoint _ _ c.in-Midpoint.is

pub returns-in-ArcLength : goal.returns-in-ArcLength
returns-in-ArcLength c = names_arc_length _ _ c.in-ArcLength.is

pub returns-in-ArcSweep : goal.returns-in-ArcSweep
returns-in-ArcSweep c = names_arc_sweep _ _ c.in-ArcSweep.is
