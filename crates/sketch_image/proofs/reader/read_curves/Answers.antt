use Rattle.std.proofs.Common.{refl, sym, ◌∙◌, List, ◌<◌, length, length-set, arith}
use lib.ListN.{length-map}
use Rattle.sketch.specs.declared.Curve.{Curve}
use Rattle.image.specs.Records.{curve_size}
use Rattle.image.specs.Decode.{read_curve}
use Rattle.image.proofs.Tables.{filling, filled}
use Rattle.rows.specs.Rows.{rows_in}
use Rattle.sketch_image.proofs.reader.read_curves.Goals as goal

pub loop-i-init : goal.loop-i-init
loop-i-init c = let a = c.args in (refl, sym (length-map (rows_in curve_size a.curves.now) read_curve) ∙ sym c.requires.1, refl)

pub loop-i-preserved : goal.loop-i-preserved
loop-i-preserved c = let l = c.loop-i in let a = c.args in let h : l.i < length l.slots = omega arith in (simp length-set l.invariant.0, l.invariant.1, filling read_curve (λ (l : List Curve). l) (λ x. x) (λ l x. refl) (rows_in curve_size a.curves.now) l.slots l.i _ (omega arith) h c.curve_at.ensures l.invariant.2)

pub returns : goal.returns
returns c = let l = c.loop-i in let a = c.args in filled read_curve (λ (l : List Curve). l) (λ x. x) (λ l x. refl) (rows_in curve_size a.curves.now) l.slots a.n l.i (omega arith) (omega arith) l.invariant.2
