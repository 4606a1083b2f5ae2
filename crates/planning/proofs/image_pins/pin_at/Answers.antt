use Rattle.cuts.proofs.Cutters.{table_points}
use Rattle.planning.proofs.TrimSplitPlans.{ends_line, ends_arc, ends_none, pin_of, pin_of_none, pin_of_endless}
use Rattle.planning.proofs.ImageCurves.{curve_by_id, no_curve_by_id}
use Rattle.planning.proofs.image_pins.pin_at.Goals as goal

pub returns-in_default : goal.returns-in_default
returns-in_default c = λ e. pin_of_none _ _ _ _ (no_curve_by_id _ c.args.t.now.own_curves _ c.curve_place.ensures c.in_default.is e)

pub returns-in-Line : goal.returns-in-Line
returns-in-Line c = λ e. pin_of _ _ _ _ (curve_by_id _ c.args.t.now.own_curves _ c.curve_place.ensures c.in-Some.is _ c.curve_at.ensures e) (ends_line c.in-Line.is) (c.pin_to.ensures _ (table_points _ e c.args.t.now.own_points))

pub returns-in-Arc : goal.returns-in-Arc
returns-in-Arc c = λ e. pin_of _ _ _ _ (curve_by_id _ c.args.t.now.own_curves _ c.curve_place.ensures c.in-Some.is _ c.curve_at.ensures e) (ends_arc c.in-Arc.is) (c.pin_to-in-Arc.ensures _ (table_points _ e c.args.t.now.own_points))

pub returns-in_default-kind : goal.returns-in_default-kind
returns-in_default-kind c = λ e. pin_of_endless _ _ _ _ (curve_by_id _ c.args.t.now.own_curves _ c.curve_place.ensures c.in-Some.is _ c.curve_at.ensures e) (ends_none _ c.in_default-kind.not-Line c.in_default-kind.not-Arc)
