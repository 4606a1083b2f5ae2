-- `apply::write_without` meets its contract.
use Rattle.std.proofs.Common.{length, ◌≤◌, ◌≡◌, refl, ap, arith}
use Rattle.apply.proofs.Images.{staying_long, without_long, lefts_are_long, without_within, length_image, image_put, answered_short, answered_written}
use Rattle.apply.specs.Clauses.{staying_rows, curves_without, left_rows, rows_image}
use Rattle.apply.specs.declared.TableCounts.{TableCounts}
use Rattle.edit_plan.specs.Changes.{orphan_list, whole_gone}
use Rattle.apply.proofs.without.write_without.Goals as goal

pub counts_without-n-requires : goal.counts_without-n-requires
counts_without-n-requires c = c.requires

pub image_size-size-requires : goal.image_size-size-requires
image_size-size-requires c =
    let a = c.args in
    let os = orphan_list a.os in
    let n = c.counts_without-n.result in
    let np : n.points ≡ length (staying_rows os a.t.now.points.now) = ap (λ (n : TableCounts). n.points) c.counts_without-n.ensures in
    let nc : n.curves ≡ length (curves_without a.k a.t.now.curves.now) = ap (λ (n : TableCounts). n.curves) c.counts_without-n.ensures in
    let nr : n.relations ≡ length (left_rows a.e os a.t.now.relations.now) = ap (λ (n : TableCounts). n.relations) c.counts_without-n.ensures in
    let w = without_within a.k a.e os a.t.now.points.now a.t.now.curves.now a.t.now.relations.now c.requires a.t.now.within in
    record { points = omega (arith, np, w.points); curves = omega (arith, nc, w.curves); relations = omega (arith, nr, w.relations) }

pub returns-then-out-size : goal.returns-then-out-size
returns-then-out-size c =
    let a = c.args in
    let os = orphan_list a.os in
    let n = c.counts_without-n.result in
    let np : n.points ≡ length (staying_rows os a.t.now.points.now) = ap (λ (n : TableCounts). n.points) c.counts_without-n.ensures in
    let nc : n.curves ≡ length (curves_without a.k a.t.now.curves.now) = ap (λ (n : TableCounts). n.curves) c.counts_without-n.ensures in
    let nr : n.relations ≡ length (left_rows a.e os a.t.now.relations.now) = ap (λ (n : TableCounts). n.relations) c.counts_without-n.ensures in
    let w = without_within a.k a.e os a.t.now.points.now a.t.now.curves.now a.t.now.relations.now c.requires a.t.now.within in
    (answered_short (rows_image a.t.now.next (staying_rows os a.t.now.points.now) (curves_without a.k a.t.now.curves.now) (left_rows a.e os a.t.now.relations.now)) (whole_gone a.e) a.out.now (omega (arith, length_image a.t.now.next (staying_rows os a.t.now.points.now) (curves_without a.k a.t.now.curves.now) (left_rows a.e os a.t.now.relations.now) (staying_long os a.t.now.points.now) (without_long a.k a.t.now.curves.now) (lefts_are_long a.e os a.t.now.relations.now), c.image_size-size.ensures, np, nc, nr, c.if-out-size.true)))

pub write_staying-from-requires : goal.write_staying-from-requires
write_staying-from-requires c =
    let a = c.args in
    let os = orphan_list a.os in
    let n = c.counts_without-n.result in
    let np : n.points ≡ length (staying_rows os a.t.now.points.now) = ap (λ (n : TableCounts). n.points) c.counts_without-n.ensures in
    let nc : n.curves ≡ length (curves_without a.k a.t.now.curves.now) = ap (λ (n : TableCounts). n.curves) c.counts_without-n.ensures in
    let nr : n.relations ≡ length (left_rows a.e os a.t.now.relations.now) = ap (λ (n : TableCounts). n.relations) c.counts_without-n.ensures in
    let w = without_within a.k a.e os a.t.now.points.now a.t.now.curves.now a.t.now.relations.now c.requires a.t.now.within in
    omega (arith, np, nc, nr, c.image_size-size.ensures, c.if-out-size.false)

pub write_curves_without-requires : goal.write_curves_without-requires
write_curves_without-requires c =
    let a = c.args in
    let os = orphan_list a.os in
    let n = c.counts_without-n.result in
    let np : n.points ≡ length (staying_rows os a.t.now.points.now) = ap (λ (n : TableCounts). n.points) c.counts_without-n.ensures in
    let nc : n.curves ≡ length (curves_without a.k a.t.now.curves.now) = ap (λ (n : TableCounts). n.curves) c.counts_without-n.ensures in
    let nr : n.relations ≡ length (left_rows a.e os a.t.now.relations.now) = ap (λ (n : TableCounts). n.relations) c.counts_without-n.ensures in
    let w = without_within a.k a.e os a.t.now.points.now a.t.now.curves.now a.t.now.relations.now c.requires a.t.now.within in
    (c.requires, omega (arith, np, nc, nr, c.image_size-size.ensures, c.if-out-size.false, c.write_staying-from.ensures.1))

pub overflow_mul-n : goal.overflow_mul-n
overflow_mul-n c =
    let a = c.args in
    let os = orphan_list a.os in
    let n = c.counts_without-n.result in
    let np : n.points ≡ length (staying_rows os a.t.now.points.now) = ap (λ (n : TableCounts). n.points) c.counts_without-n.ensures in
    let nc : n.curves ≡ length (curves_without a.k a.t.now.curves.now) = ap (λ (n : TableCounts). n.curves) c.counts_without-n.ensures in
    let nr : n.relations ≡ length (left_rows a.e os a.t.now.relations.now) = ap (λ (n : TableCounts). n.relations) c.counts_without-n.ensures in
    let w = without_within a.k a.e os a.t.now.points.now a.t.now.curves.now a.t.now.relations.now c.requires a.t.now.within in
    omega (arith, nc, w.curves)

pub overflow_add-from : goal.overflow_add-from
overflow_add-from c =
    let a = c.args in
    let os = orphan_list a.os in
    let n = c.counts_without-n.result in
    let np : n.points ≡ length (staying_rows os a.t.now.points.now) = ap (λ (n : TableCounts). n.points) c.counts_without-n.ensures in
    let nc : n.curves ≡ length (curves_without a.k a.t.now.curves.now) = ap (λ (n : TableCounts). n.curves) c.counts_without-n.ensures in
    let nr : n.relations ≡ length (left_rows a.e os a.t.now.relations.now) = ap (λ (n : TableCounts). n.relations) c.counts_without-n.ensures in
    let w = without_within a.k a.e os a.t.now.points.now a.t.now.curves.now a.t.now.relations.now c.requires a.t.now.within in
    omega (arith, np, nc, w.points, w.curves, c.write_staying-from.ensures.1)

pub write_left-requires : goal.write_left-requires
write_left-requires c =
    let a = c.args in
    let os = orphan_list a.os in
    let n = c.counts_without-n.result in
    let np : n.points ≡ length (staying_rows os a.t.now.points.now) = ap (λ (n : TableCounts). n.points) c.counts_without-n.ensures in
    let nc : n.curves ≡ length (curves_without a.k a.t.now.curves.now) = ap (λ (n : TableCounts). n.curves) c.counts_without-n.ensures in
    let nr : n.relations ≡ length (left_rows a.e os a.t.now.relations.now) = ap (λ (n : TableCounts). n.relations) c.counts_without-n.ensures in
    let w = without_within a.k a.e os a.t.now.points.now a.t.now.curves.now a.t.now.relations.now c.requires a.t.now.within in
    omega (arith, np, nc, nr, c.image_size-size.ensures, c.if-out-size.false, c.write_staying-from.ensures.1)

pub returns : goal.returns
returns c =
    let a = c.args in
    let os = orphan_list a.os in
    let n = c.counts_without-n.result in
    let np : n.points ≡ length (staying_rows os a.t.now.points.now) = ap (λ (n : TableCounts). n.points) c.counts_without-n.ensures in
    let nc : n.curves ≡ length (curves_without a.k a.t.now.curves.now) = ap (λ (n : TableCounts). n.curves) c.counts_without-n.ensures in
    let nr : n.relations ≡ length (left_rows a.e os a.t.now.relations.now) = ap (λ (n : TableCounts). n.relations) c.counts_without-n.ensures in
    let w = without_within a.k a.e os a.t.now.points.now a.t.now.curves.now a.t.now.relations.now c.requires a.t.now.within in
    let l = length_image a.t.now.next (staying_rows os a.t.now.points.now) (curves_without a.k a.t.now.curves.now) (left_rows a.e os a.t.now.relations.now) (staying_long os a.t.now.points.now) (without_long a.k a.t.now.curves.now) (lefts_are_long a.e os a.t.now.relations.now) in
    let f : length (rows_image a.t.now.next (staying_rows os a.t.now.points.now) (curves_without a.k a.t.now.curves.now) (left_rows a.e os a.t.now.relations.now)) ≤ length a.out.now = omega (arith, l, c.image_size-size.ensures, np, nc, nr, c.if-out-size.false) in
    answered_written (rows_image a.t.now.next (staying_rows os a.t.now.points.now) (curves_without a.k a.t.now.curves.now) (left_rows a.e os a.t.now.relations.now)) (whole_gone a.e) a.out.now _ _ (omega (arith, l, c.image_size-size.ensures, np, nc, nr)) f
    (image_put a.t.now.next (staying_rows os a.t.now.points.now) (curves_without a.k a.t.now.curves.now) (left_rows a.e os a.t.now.relations.now) (staying_long os a.t.now.points.now) (without_long a.k a.t.now.curves.now) (lefts_are_long a.e os a.t.now.relations.now) _ _ _ _ _ _ _ _ _ _ np nc nr (record { points = omega (arith, np, w.points); curves = omega (arith, nc, w.curves); relations = omega (arith, nr, w.relations) }) (omega (arith, l, f, np, nc, nr)) c.write_header.ensures c.write_staying-from.ensures.0 (omega (arith, np, c.write_staying-from.ensures.1)) c.write_curves_without.ensures refl c.write_left.ensures.0)
