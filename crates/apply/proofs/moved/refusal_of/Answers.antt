-- `apply::refusal_of` meets its contract.
use Rattle.std.proofs.Common.{arith}
use Rattle.apply.proofs.MovedRows.{pinned_few, no_point_lem, out_of_range, is_in_range, no_room, may_move}
use Rattle.image.specs.Records.{relation_size}
use Rattle.rows.proofs.Rows.{length_rows_in}
use Rattle.apply.proofs.moved.refusal_of.Goals as goal

pub returns-then-t-k : goal.returns-then-t-k
returns-then-t-k c = no_point_lem c.args.t.now.points.now c.args.t.now.relations.now c.args.k c.args.v c.args.pin c.if-t-k.true

pub returns-then-not-coordinate_ok : goal.returns-then-not-coordinate_ok
returns-then-not-coordinate_ok c = out_of_range c.args.t.now.points.now c.args.t.now.relations.now c.args.k c.args.v c.args.pin c.if-t-k.false c.coordinate_ok.ensures c.coordinate_ok-2.ensures c.if-not-coordinate_ok.true

pub overflow_add-t : goal.overflow_add-t
overflow_add-t c = omega (arith, c.count_pinned.ensures, pinned_few c.args.pin c.point_at-p.result.id, length_rows_in relation_size c.args.t.now.relations.now, c.args.t.now.within.relations)

pub returns-then-t-count_pinned-gt256 : goal.returns-then-t-count_pinned-gt256
returns-then-t-count_pinned-gt256 c = no_room c.args.t.now.points.now c.args.t.now.relations.now c.args.k c.args.v c.args.pin c.if-t-k.false (is_in_range c.args.t.now.points.now c.args.t.now.relations.now c.args.k c.args.v c.args.pin c.if-t-k.false c.coordinate_ok.ensures c.coordinate_ok-2.ensures c.if-not-coordinate_ok.false) c.point_at-p.ensures c.count_pinned.ensures c.if-t-count_pinned-gt256.true

pub returns : goal.returns
returns c = may_move c.args.t.now.points.now c.args.t.now.relations.now c.args.k c.args.v c.args.pin c.if-t-k.false (is_in_range c.args.t.now.points.now c.args.t.now.relations.now c.args.k c.args.v c.args.pin c.if-t-k.false c.coordinate_ok.ensures c.coordinate_ok-2.ensures c.if-not-coordinate_ok.false) c.point_at-p.ensures c.count_pinned.ensures c.if-t-count_pinned-gt256.false
