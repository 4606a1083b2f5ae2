use Rattle.std.proofs.Common.{◌≡◌, ap, ◌∙◌, List, ℕ, length, arith}
use Rattle.sketch.specs.declared.Sketch.{Sketch}
use Rattle.image.specs.Image.{point_count, curve_count, relation_count}
use Rattle.image.proofs.RoundTrips.{image_kept}
use Rattle.rows.specs.Rows.{points_in, curves_in, relations_in}
use Rattle.rows.proofs.GoodTables.{points_count, curves_count, relations_count}
use Rattle.sketch_image.proofs.Answers.{sketch_decoded}
use Rattle.sketch_image.proofs.reader.decode_sketch.Goals as goal

pub read_points-points-requires : goal.read_points-points-requires
read_points-points-requires c = let s = c.args.s.now in let e = c.requires in let h = (image_kept s e).head in let n : c.point_count-npoints.result ≡ point_count s = c.point_count-npoints.ensures ∙ ap (λ (t : List ℕ). length (points_in t)) c.points_of-point_rows.ensures ∙ points_count s e in (omega (arith, h.few_points, n), c.point_count-npoints.ensures)

pub read_curves-curves-requires : goal.read_curves-curves-requires
read_curves-curves-requires c = let s = c.args.s.now in let e = c.requires in let h = (image_kept s e).head in let n : c.curve_count-ncurves.result ≡ curve_count s = c.curve_count-ncurves.ensures ∙ ap (λ (t : List ℕ). length (curves_in t)) c.curves_of-curve_rows.ensures ∙ curves_count s e in (omega (arith, h.few_curves, n), c.curve_count-ncurves.ensures)

pub read_relations-relations-requires : goal.read_relations-relations-requires
read_relations-relations-requires c = let s = c.args.s.now in let e = c.requires in let h = (image_kept s e).head in let n : c.relation_count-nrelations.result ≡ relation_count s = c.relation_count-nrelations.ensures ∙ ap (λ (t : List ℕ). length (relations_in t)) c.relations_of-relation_rows.ensures ∙ relations_count s e in (omega (arith, h.few_relations, n), c.relation_count-nrelations.ensures)

pub returns : goal.returns
returns c =
    let pt = c.points_of-point_rows.ensures in
    let ct = c.curves_of-curve_rows.ensures in
    let rt = c.relations_of-relation_rows.ensures in
    let sk : Sketch = record { next = c.next_id.result; npoints = c.point_count-npoints.result; ncurves = c.curve_count-ncurves.result; nrelations = c.relation_count-nrelations.result; points = c.read_points-points.result; curves = c.read_curves-curves.result; relations = c.read_relations-relations.result } in
    sketch_decoded c.args.s.now c.requires (λ k. (c.type_inv.s k).fits) sk c.next_id.ensures
    (rw pt at c.point_count-npoints.ensures) (rw ct at c.curve_count-ncurves.ensures) (rw rt at c.relation_count-nrelations.ensures)
    (rw pt at c.read_points-points.ensures) (rw ct at c.read_curves-curves.ensures) (rw rt at c.read_relations-relations.ensures)
