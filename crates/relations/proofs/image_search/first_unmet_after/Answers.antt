use Rattle.std.proofs.Common.{◌∙◌, arith, Some}
use Rattle.sketch_geometry.specs.Positions.{points_after_move}
use Rattle.relations.proofs.Failing.{search_start}
use Rattle.relations.proofs.RowSearch.{named_met, unnamed_met, row_passes, row_fails, rows_done}
use Rattle.relations.proofs.image_search.first_unmet_after.Goals as goal
use Rattle.relations.proofs.image_search.first_unmet_after.Goals.{else-names-via-then-names+else-not-is_met, else-names-via-else-names}

pub loop-k-init : goal.loop-k-init
loop-k-init c = λ e. search_start

pub returns-then-not-is_met : goal.returns-then-not-is_met
unfolding points_after_move
returns-then-not-is_met c =
    λ e. row_fails _ c.relation_count-n.ensures (c.loop-k.invariant e) _ e c.args.t.now.own_relations (omega arith)
    (named_met _ e c.args.t.now.own_points c.args.t.now.own_curves (Some (record { point = c.args.p; to = c.args.v })) _ c.is_met.ensures c.relation_at-relation.ensures _ _ c.names.ensures c.if-names.true ∙ c.if-not-is_met.true)

pub loop-k-preserved : goal.loop-k-preserved
loop-k-preserved c = λ e. row_passes _ c.relation_count-n.ensures (c.loop-k.invariant e) (omega arith) (elim c.else-names.branch [
  | else-names-via-then-names+else-not-is_met w ↦ named_met _ e c.args.t.now.own_points c.args.t.now.own_curves _ _ w.is_met.ensures c.relation_at-relation.ensures _ _ c.names.ensures w.if-names.true ∙ w.if-not-is_met.false
  | else-names-via-else-names w ↦ unnamed_met _ _ _ _ _ c.relation_at-relation.ensures c.names.ensures w.if-names.false
])

pub returns : goal.returns
unfolding points_after_move
returns c = λ e. rows_done _ c.relation_count-n.ensures (c.loop-k.invariant e) _ e c.args.t.now.own_relations (omega arith) (omega arith)
