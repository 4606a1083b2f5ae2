-- `apply::write_moved` meets its contract.
use Rattle.std.proofs.Common.{length, ◌+◌, ◌/◌, ◌≤◌, refl, ap, arith}
use Rattle.apply.proofs.MovedRows.{moved_size, moved_put}
use Rattle.apply.proofs.Images.{answered_short, answered_written}
use Rattle.apply.specs.Clauses.{image_moved}
use Rattle.edit_plan.specs.Steps.{nothing}
use Rattle.image.specs.Records.{point_size, curve_size, relation_size}
use Rattle.rows.proofs.Rows.{length_rows_in}
use Rattle.apply.proofs.moved.write_moved.Goals as goal

pub image_size-size-requires : goal.image_size-size-requires
image_size-size-requires c = record { points = omega (arith, length_rows_in point_size c.args.t.now.points.now, c.args.t.now.within.points); curves = omega (arith, length_rows_in curve_size c.args.t.now.curves.now, c.args.t.now.within.curves); relations = omega (arith, c.count_pinned.ensures, c.requires.1) }

pub returns-then-out-size : goal.returns-then-out-size
returns-then-out-size c = (answered_short (image_moved c.args.t.now.next c.args.t.now.points.now c.args.t.now.curves.now c.args.t.now.relations.now c.args.k c.args.p c.args.pin) nothing c.args.out.now (omega (arith, moved_size c.args.t.now.next c.args.k c.args.p c.args.pin c.args.t.now.points.now c.args.t.now.curves.now c.args.t.now.relations.now (ap (λ x. length c.args.t.now.relations.now / relation_size + x) c.count_pinned.ensures), c.image_size-size.ensures, c.if-out-size.true)))

pub returns : goal.returns
returns c = let a = c.args in let n = ap (λ x. length a.t.now.relations.now / relation_size + x) c.count_pinned.ensures in let l = moved_size a.t.now.next a.k a.p a.pin a.t.now.points.now a.t.now.curves.now a.t.now.relations.now n in let z = c.image_size-size.ensures in let f : length (image_moved a.t.now.next a.t.now.points.now a.t.now.curves.now a.t.now.relations.now a.k a.p a.pin) ≤ length a.out.now = omega (arith, l, z, c.if-out-size.false) in answered_written (image_moved a.t.now.next a.t.now.points.now a.t.now.curves.now a.t.now.relations.now a.k a.p a.pin) nothing a.out.now _ _ (omega (arith, l, z)) f (moved_put a.t.now.next a.k a.p a.pin a.t.now.points.now a.t.now.curves.now a.t.now.relations.now n a.out.now _ _ _ _ _ _ _ _ (record { points = omega (arith, length_rows_in point_size a.t.now.points.now, c.args.t.now.within.points); curves = omega (arith, length_rows_in curve_size a.t.now.curves.now, c.args.t.now.within.curves); relations = omega (arith, n, c.requires.1) }) (omega (arith, l, f)) c.write_header.ensures c.write_points_with.ensures refl c.put_rows-to.ensures.0 c.put_rows-to.ensures.1 (omega arith) c.put_rows-last.ensures.0 c.put_rows-last.ensures.1 c.write_pinned.ensures)
