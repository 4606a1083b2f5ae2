use Rattle.std.proofs.Common.{◌∙◌, arith, None}
use Rattle.sketch_geometry.specs.Positions.{points_after_move}
use Rattle.relations.proofs.Failing.{search_start}
use Rattle.relations.proofs.RowSearch.{row_met, row_passes, row_fails, rows_done}
use Rattle.relations.proofs.image_search.first_unmet.Goals as goal

pub loop-i-init : goal.loop-i-init
loop-i-init c = λ e. search_start

pub returns-then-not-is_met : goal.returns-then-not-is_met
unfolding points_after_move
returns-then-not-is_met c =
    λ e. row_fails _ c.relation_count-n.ensures (c.loop-i.invariant e) _ e c.args.t.now.own_relations (omega arith)
    (row_met _ e c.args.t.now.own_points c.args.t.now.own_curves None _ c.is_met.ensures c.relation_at.ensures ∙ c.if-not-is_met.true)

pub loop-i-preserved : goal.loop-i-preserved
unfolding points_after_move
loop-i-preserved c = λ e. row_passes _ c.relation_count-n.ensures (c.loop-i.invariant e) (omega arith)
    (row_met _ e c.args.t.now.own_points c.args.t.now.own_curves None _ c.is_met.ensures c.relation_at.ensures ∙ c.if-not-is_met.false)

pub returns : goal.returns
returns c = λ e. rows_done _ c.relation_count-n.ensures (c.loop-i.invariant e) _ e c.args.t.now.own_relations (omega arith) (omega arith)
