use Rattle.cuts.proofs.Cutters.{answered_none, answered_some, table_points}
use Rattle.planning.proofs.CurvePlans.{trim_bare, trim_barred, trim_beside, trim_planned}
use Rattle.planning.proofs.image_plans.trim_curve.Goals as goal

pub returns-in_default : goal.returns-in_default
returns-in_default c = λ e. trim_bare _ _ _ (answered_none c.in_default.is (c.shape_of.ensures _ (table_points _ e c.args.t.now.own_points)))

pub returns-then-c-is_full : goal.returns-then-c-is_full
returns-then-c-is_full c = λ e. trim_barred _ _ _ _ (answered_some c.in-Some.is (c.shape_of.ensures _ (table_points _ e c.args.t.now.own_points))) c.is_full.ensures c.is_circle.ensures c.if-c-is_full.true

pub returns-then-has_freeform : goal.returns-then-has_freeform
returns-then-has_freeform c = λ e. trim_beside _ _ _ _ (answered_some c.in-Some.is (c.shape_of.ensures _ (table_points _ e c.args.t.now.own_points))) c.is_full.ensures c.is_circle.ensures c.if-c-is_full.false _ (c.has_freeform.ensures e) c.if-has_freeform.true

pub returns : goal.returns
returns c = λ e. trim_planned _ _ _ _ (answered_some c.in-Some.is (c.shape_of.ensures _ (table_points _ e c.args.t.now.own_points))) c.is_full.ensures c.is_circle.ensures c.if-c-is_full.false _ (c.has_freeform.ensures e) c.if-has_freeform.false (c.trim_plan.ensures e)
