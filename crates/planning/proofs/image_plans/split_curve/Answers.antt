use Rattle.std.proofs.Common.{refl, sym, ◌∙◌}
use Rattle.cuts.proofs.Cutters.{answered_none, answered_some, table_points}
use Rattle.planning.proofs.CurvePlans.{split_bare, split_barred, split_inside, split_beside, split_round}
use Rattle.planning.proofs.image_plans.split_curve.Goals as goal

pub returns-in_default : goal.returns-in_default
returns-in_default c = λ e. split_bare _ _ _ (answered_none c.in_default.is (c.shape_of.ensures _ (table_points _ e c.args.t.now.own_points)))

pub returns-then-is_full : goal.returns-then-is_full
returns-then-is_full c = λ e. split_barred _ _ _ _ (answered_some c.in-Some.is (c.shape_of.ensures _ (table_points _ e c.args.t.now.own_points))) (sym c.is_circle.ensures ∙ c.if-not-is_circle.true) (sym c.is_full.ensures ∙ c.if-is_full.true)

pub returns-then-not-is_circle : goal.returns-then-not-is_circle
returns-then-not-is_circle c = λ e. split_inside _ _ _ _ (answered_some c.in-Some.is (c.shape_of.ensures _ (table_points _ e c.args.t.now.own_points))) (sym c.is_circle.ensures ∙ c.if-not-is_circle.true) (sym c.is_full.ensures ∙ c.if-is_full.false) c.split_open.ensures

pub returns-then-has_freeform : goal.returns-then-has_freeform
returns-then-has_freeform c = λ e. split_beside _ _ _ _ (answered_some c.in-Some.is (c.shape_of.ensures _ (table_points _ e c.args.t.now.own_points))) (sym c.is_circle.ensures ∙ c.if-not-is_circle.false) _ (c.has_freeform.ensures e) c.if-has_freeform.true

pub returns : goal.returns
returns c = λ e. split_round _ _ _ _ (answered_some c.in-Some.is (c.shape_of.ensures _ (table_points _ e c.args.t.now.own_points))) (sym c.is_circle.ensures ∙ c.if-not-is_circle.false) _ (c.has_freeform.ensures e) c.if-has_freeform.false refl (c.split_full.ensures e)
