use Rattle.std.proofs.Common.{length, List, ◌≡◌, refl, ◌∙◌, arith}
use Rattle.image.specs.Encode.{encode_curve}
use Rattle.image.specs.Records.{curve_size}
use Rattle.sketch.specs.declared.Curve.{Curve}
use Rattle.image.proofs.Curves.{length_curve}
use Rattle.sketch_image.proofs.Written.{over_where_fits, each_at}
use Rattle.image.proofs.Tables.{writing_starts, writing_turns}
use lib.Seq.{take-length}
use Rattle.sketch_image.proofs.writer.write_curves.Goals as goal

pub loop-i-init : goal.loop-i-init
loop-i-init c = writing_starts encode_curve curve_size (λ (l : List Curve). l) (λ x. x) (λ l x. refl) refl _ _ _

pub loop-i-preserved : goal.loop-i-preserved
loop-i-preserved c =
    let l = c.loop-i in
    let a = c.args in
    let w = c.requires.1 in
    let sized = length_curve _ (each_at (λ (x : Curve). length x.slots ≡ 8) a.curves.now l.i _ w (omega arith)) in
    writing_turns encode_curve curve_size (λ (l : List Curve). l) (λ x. x) (λ l x. refl) _ _ _ l.i _ _ _ (omega arith) (omega arith) sized (over_where_fits _ _ _ sized (omega arith) c.write_curve.ensures) l.invariant

pub shape_of-buf : goal.shape_of-buf
shape_of-buf c = c.loop-i.invariant.same_long

pub returns : goal.returns
returns c =
    let a = c.args in
    let l = c.loop-i in
    let e : l.i ≡ length a.curves.now = omega arith in
    l.invariant.written ∙ rw (e, take-length a.curves.now)
