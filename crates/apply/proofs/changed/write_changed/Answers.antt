-- `apply::write_changed` meets its contract.
use Rattle.std.proofs.Common.{length, ◌≤◌, ◌≡◌, refl, ap, arith}
use Rattle.apply.proofs.Images.{points_long, curves_long, relations_long, length_image, image_put, answered_short, answered_written}
use Rattle.apply.specs.Clauses.{points_after, curves_after, relations_after, rows_image}
use Rattle.apply.specs.declared.TableCounts.{TableCounts}
use Rattle.edit_plan.specs.Changes.{orphan_list}
use Rattle.apply.proofs.changed.write_changed.Goals as goal

pub counts_changed-n-requires : goal.counts_changed-n-requires
counts_changed-n-requires c = c.requires.0

pub image_size-size-requires : goal.image_size-size-requires
image_size-size-requires c =
    let a = c.args in
    let os = orphan_list a.os in
    let n = c.counts_changed-n.result in
    let np : n.points ≡ length (points_after os a.ch a.t.now.points.now) = ap (λ (n : TableCounts). n.points) c.counts_changed-n.ensures in
    let nc : n.curves ≡ length (curves_after a.k a.ch a.t.now.curves.now) = ap (λ (n : TableCounts). n.curves) c.counts_changed-n.ensures in
    let nr : n.relations ≡ length (relations_after a.e os a.ch a.t.now.relations.now) = ap (λ (n : TableCounts). n.relations) c.counts_changed-n.ensures in
    let w = c.requires.2 in
    record { points = omega (arith, np, w.points); curves = omega (arith, nc, w.curves); relations = omega (arith, nr, w.relations) }

pub returns-then-out-size : goal.returns-then-out-size
returns-then-out-size c =
    let a = c.args in
    let os = orphan_list a.os in
    let n = c.counts_changed-n.result in
    let np : n.points ≡ length (points_after os a.ch a.t.now.points.now) = ap (λ (n : TableCounts). n.points) c.counts_changed-n.ensures in
    let nc : n.curves ≡ length (curves_after a.k a.ch a.t.now.curves.now) = ap (λ (n : TableCounts). n.curves) c.counts_changed-n.ensures in
    let nr : n.relations ≡ length (relations_after a.e os a.ch a.t.now.relations.now) = ap (λ (n : TableCounts). n.relations) c.counts_changed-n.ensures in
    let w = c.requires.2 in
    (answered_short (rows_image a.ch.next (points_after os a.ch a.t.now.points.now) (curves_after a.k a.ch a.t.now.curves.now) (relations_after a.e os a.ch a.t.now.relations.now)) a.ch.removed a.out.now (omega (arith, length_image a.ch.next (points_after os a.ch a.t.now.points.now) (curves_after a.k a.ch a.t.now.curves.now) (relations_after a.e os a.ch a.t.now.relations.now) (points_long os a.ch a.t.now.points.now) (curves_long a.k a.ch a.t.now.curves.now c.requires.1) (relations_long a.e os a.ch a.t.now.relations.now), c.image_size-size.ensures, np, nc, nr, c.if-out-size.true)))

pub overflow_mul-from : goal.overflow_mul-from
overflow_mul-from c =
    let a = c.args in
    let os = orphan_list a.os in
    let n = c.counts_changed-n.result in
    let np : n.points ≡ length (points_after os a.ch a.t.now.points.now) = ap (λ (n : TableCounts). n.points) c.counts_changed-n.ensures in
    let nc : n.curves ≡ length (curves_after a.k a.ch a.t.now.curves.now) = ap (λ (n : TableCounts). n.curves) c.counts_changed-n.ensures in
    let nr : n.relations ≡ length (relations_after a.e os a.ch a.t.now.relations.now) = ap (λ (n : TableCounts). n.relations) c.counts_changed-n.ensures in
    let w = c.requires.2 in
    omega (arith, np, w.points)

pub overflow_add-from : goal.overflow_add-from
overflow_add-from c =
    let a = c.args in
    let os = orphan_list a.os in
    let n = c.counts_changed-n.result in
    let np : n.points ≡ length (points_after os a.ch a.t.now.points.now) = ap (λ (n : TableCounts). n.points) c.counts_changed-n.ensures in
    let nc : n.curves ≡ length (curves_after a.k a.ch a.t.now.curves.now) = ap (λ (n : TableCounts). n.curves) c.counts_changed-n.ensures in
    let nr : n.relations ≡ length (relations_after a.e os a.ch a.t.now.relations.now) = ap (λ (n : TableCounts). n.relations) c.counts_changed-n.ensures in
    let w = c.requires.2 in
    omega (arith, np, w.points)

pub write_points_after-requires : goal.write_points_after-requires
write_points_after-requires c =
    let a = c.args in
    let os = orphan_list a.os in
    let n = c.counts_changed-n.result in
    let np : n.points ≡ length (points_after os a.ch a.t.now.points.now) = ap (λ (n : TableCounts). n.points) c.counts_changed-n.ensures in
    let nc : n.curves ≡ length (curves_after a.k a.ch a.t.now.curves.now) = ap (λ (n : TableCounts). n.curves) c.counts_changed-n.ensures in
    let nr : n.relations ≡ length (relations_after a.e os a.ch a.t.now.relations.now) = ap (λ (n : TableCounts). n.relations) c.counts_changed-n.ensures in
    let w = c.requires.2 in
    omega (arith, np, nc, nr, c.image_size-size.ensures, c.if-out-size.false)

pub write_curves_after-requires : goal.write_curves_after-requires
write_curves_after-requires c =
    let a = c.args in
    let os = orphan_list a.os in
    let n = c.counts_changed-n.result in
    let np : n.points ≡ length (points_after os a.ch a.t.now.points.now) = ap (λ (n : TableCounts). n.points) c.counts_changed-n.ensures in
    let nc : n.curves ≡ length (curves_after a.k a.ch a.t.now.curves.now) = ap (λ (n : TableCounts). n.curves) c.counts_changed-n.ensures in
    let nr : n.relations ≡ length (relations_after a.e os a.ch a.t.now.relations.now) = ap (λ (n : TableCounts). n.relations) c.counts_changed-n.ensures in
    let w = c.requires.2 in
    (c.requires.0, omega (arith, np, nc, nr, c.image_size-size.ensures, c.if-out-size.false), c.requires.1)

pub overflow_mul-n : goal.overflow_mul-n
overflow_mul-n c =
    let a = c.args in
    let os = orphan_list a.os in
    let n = c.counts_changed-n.result in
    let np : n.points ≡ length (points_after os a.ch a.t.now.points.now) = ap (λ (n : TableCounts). n.points) c.counts_changed-n.ensures in
    let nc : n.curves ≡ length (curves_after a.k a.ch a.t.now.curves.now) = ap (λ (n : TableCounts). n.curves) c.counts_changed-n.ensures in
    let nr : n.relations ≡ length (relations_after a.e os a.ch a.t.now.relations.now) = ap (λ (n : TableCounts). n.relations) c.counts_changed-n.ensures in
    let w = c.requires.2 in
    omega (arith, nc, w.curves)

pub overflow_add-from-2 : goal.overflow_add-from-2
overflow_add-from-2 c =
    let a = c.args in
    let os = orphan_list a.os in
    let n = c.counts_changed-n.result in
    let np : n.points ≡ length (points_after os a.ch a.t.now.points.now) = ap (λ (n : TableCounts). n.points) c.counts_changed-n.ensures in
    let nc : n.curves ≡ length (curves_after a.k a.ch a.t.now.curves.now) = ap (λ (n : TableCounts). n.curves) c.counts_changed-n.ensures in
    let nr : n.relations ≡ length (relations_after a.e os a.ch a.t.now.relations.now) = ap (λ (n : TableCounts). n.relations) c.counts_changed-n.ensures in
    let w = c.requires.2 in
    omega (arith, np, nc, w.points, w.curves)

pub write_relations_after-requires : goal.write_relations_after-requires
write_relations_after-requires c =
    let a = c.args in
    let os = orphan_list a.os in
    let n = c.counts_changed-n.result in
    let np : n.points ≡ length (points_after os a.ch a.t.now.points.now) = ap (λ (n : TableCounts). n.points) c.counts_changed-n.ensures in
    let nc : n.curves ≡ length (curves_after a.k a.ch a.t.now.curves.now) = ap (λ (n : TableCounts). n.curves) c.counts_changed-n.ensures in
    let nr : n.relations ≡ length (relations_after a.e os a.ch a.t.now.relations.now) = ap (λ (n : TableCounts). n.relations) c.counts_changed-n.ensures in
    let w = c.requires.2 in
    omega (arith, np, nc, nr, c.image_size-size.ensures, c.if-out-size.false)

pub returns : goal.returns
returns c =
    let a = c.args in
    let os = orphan_list a.os in
    let n = c.counts_changed-n.result in
    let np : n.points ≡ length (points_after os a.ch a.t.now.points.now) = ap (λ (n : TableCounts). n.points) c.counts_changed-n.ensures in
    let nc : n.curves ≡ length (curves_after a.k a.ch a.t.now.curves.now) = ap (λ (n : TableCounts). n.curves) c.counts_changed-n.ensures in
    let nr : n.relations ≡ length (relations_after a.e os a.ch a.t.now.relations.now) = ap (λ (n : TableCounts). n.relations) c.counts_changed-n.ensures in
    let w = c.requires.2 in
    let l = length_image a.ch.next (points_after os a.ch a.t.now.points.now) (curves_after a.k a.ch a.t.now.curves.now) (relations_after a.e os a.ch a.t.now.relations.now) (points_long os a.ch a.t.now.points.now) (curves_long a.k a.ch a.t.now.curves.now c.requires.1) (relations_long a.e os a.ch a.t.now.relations.now) in
    let f : length (rows_image a.ch.next (points_after os a.ch a.t.now.points.now) (curves_after a.k a.ch a.t.now.curves.now) (relations_after a.e os a.ch a.t.now.relations.now)) ≤ length a.out.now = omega (arith, l, c.image_size-size.ensures, np, nc, nr, c.if-out-size.false) in
    answered_written (rows_image a.ch.next (points_after os a.ch a.t.now.points.now) (curves_after a.k a.ch a.t.now.curves.now) (relations_after a.e os a.ch a.t.now.relations.now)) a.ch.removed a.out.now _ _ (omega (arith, l, c.image_size-size.ensures, np, nc, nr)) f
    (image_put a.ch.next (points_after os a.ch a.t.now.points.now) (curves_after a.k a.ch a.t.now.curves.now) (relations_after a.e os a.ch a.t.now.relations.now) (points_long os a.ch a.t.now.points.now) (curves_long a.k a.ch a.t.now.curves.now c.requires.1) (relations_long a.e os a.ch a.t.now.relations.now) _ _ _ _ _ _ _ _ _ _ np nc nr (record { points = omega (arith, np, w.points); curves = omega (arith, nc, w.curves); relations = omega (arith, nr, w.relations) }) (omega (arith, l, f, np, nc, nr)) c.write_header.ensures c.write_points_after.ensures refl c.write_curves_after.ensures refl c.write_relations_after.ensures)
