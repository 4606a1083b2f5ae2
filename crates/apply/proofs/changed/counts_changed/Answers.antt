-- `apply::counts_changed` meets its contract.
use Rattle.std.proofs.Common.{arith}
use Rattle.rows.proofs.Rows.{length_rows_in}
use Rattle.image.specs.Records.{curve_size}
use Rattle.apply.proofs.Concerned.{left_few}
use Rattle.apply.proofs.Parts.{length_after}
use Rattle.apply.proofs.Images.{length_points_after, length_relations_after, staying_few, new_points_few, new_curves_few, new_relations_few, counts_are}
use Rattle.edit_plan.specs.Changes.{orphan_list}
use Rattle.apply.proofs.changed.counts_changed.Goals as goal

pub overflow_add-result : goal.overflow_add-result
overflow_add-result c =
    let a = c.args in
    let os = orphan_list a.os in
    omega (arith, c.count_staying.ensures, c.count_new_points.ensures, staying_few os a.t.now.points.now, new_points_few a.ch, c.args.t.now.within.points)

pub overflow_add-result-2 : goal.overflow_add-result-2
overflow_add-result-2 c =
    let a = c.args in
    let os = orphan_list a.os in
    omega (arith, c.count_new_curves.ensures, new_curves_few a.ch, c.args.t.now.within.curves, length_rows_in curve_size a.t.now.curves.now)

pub overflow_add-result-3 : goal.overflow_add-result-3
overflow_add-result-3 c =
    let a = c.args in
    let os = orphan_list a.os in
    omega (arith, c.count_left.ensures, c.count_new_relations.ensures, left_few a.e os a.t.now.relations.now, new_relations_few a.ch, c.args.t.now.within.relations)

pub returns : goal.returns
returns c =
    let a = c.args in
    let os = orphan_list a.os in
    counts_are _ _ _ _ _ _ (omega (arith, c.count_staying.ensures, c.count_new_points.ensures, length_points_after os a.ch a.t.now.points.now)) (omega (arith, c.count_new_curves.ensures, length_after a.k a.t.now.curves.now c.requires a.ch)) (omega (arith, c.count_left.ensures, c.count_new_relations.ensures, length_relations_after a.e os a.ch a.t.now.relations.now))
