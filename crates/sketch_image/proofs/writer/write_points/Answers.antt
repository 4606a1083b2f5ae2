use Rattle.std.proofs.Common.{length, List, ◌≡◌, refl, ◌∙◌, arith}
use Rattle.image.proofs.Points.{length_point}
use Rattle.image.specs.Encode.{encode_point}
use Rattle.image.specs.Records.{point_size}
use Rattle.sketch.specs.declared.Point.{Point}
use Rattle.sketch_image.proofs.Written.{over_where_fits}
use Rattle.image.proofs.Tables.{writing_starts, writing_turns}
use lib.Seq.{take-length}
use Rattle.sketch_image.proofs.writer.write_points.Goals as goal

pub loop-i-init : goal.loop-i-init
loop-i-init c = writing_starts encode_point point_size (λ (l : List Point). l) (λ x. x) (λ l x. refl) refl _ _ _

pub loop-i-preserved : goal.loop-i-preserved
loop-i-preserved c =
    let l = c.loop-i in
    writing_turns encode_point point_size (λ (l : List Point). l) (λ x. x) (λ l x. refl) _ _ _ l.i _ _ _ (omega arith) (omega arith) (length_point _) (over_where_fits _ _ _ (length_point _) (omega arith) c.write_point.ensures) l.invariant

pub shape_of-buf : goal.shape_of-buf
shape_of-buf c = c.loop-i.invariant.same_long

pub returns : goal.returns
returns c =
    let a = c.args in
    let l = c.loop-i in
    let e : l.i ≡ length a.points.now = omega arith in
    l.invariant.written ∙ rw (e, take-length a.points.now)
