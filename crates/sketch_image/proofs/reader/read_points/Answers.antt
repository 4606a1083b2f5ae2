use Rattle.std.proofs.Common.{refl, sym, ◌∙◌, List, ◌<◌, length, length-set, arith}
use lib.ListN.{length-map}
use Rattle.sketch.specs.declared.Point.{Point}
use Rattle.image.specs.Records.{point_size}
use Rattle.image.specs.Decode.{read_point}
use Rattle.image.proofs.Tables.{filling, filled}
use Rattle.rows.specs.Rows.{rows_in}
use Rattle.sketch_image.proofs.reader.read_points.Goals as goal

pub loop-i-init : goal.loop-i-init
loop-i-init c = let a = c.args in (refl, sym (length-map (rows_in point_size a.points.now) read_point) ∙ sym c.requires.1, refl)

pub loop-i-preserved : goal.loop-i-preserved
loop-i-preserved c = let l = c.loop-i in let a = c.args in let h : l.i < length l.slots = omega arith in (simp length-set l.invariant.0, l.invariant.1, filling read_point (λ (l : List Point). l) (λ x. x) (λ l x. refl) (rows_in point_size a.points.now) l.slots l.i _ (omega arith) h c.point_at.ensures l.invariant.2)

pub returns : goal.returns
returns c = let l = c.loop-i in let a = c.args in filled read_point (λ (l : List Point). l) (λ x. x) (λ l x. refl) (rows_in point_size a.points.now) l.slots a.n l.i (omega arith) (omega arith) l.invariant.2
