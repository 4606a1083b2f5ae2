use Rattle.std.proofs.Common.{ap}
use Rattle.image.specs.Decode.{read_curve}
use Rattle.planning.proofs.ImageCurves.{plain_start, freeform_here, plain_on, plain_end}
use Rattle.planning.proofs.image_plans.has_freeform.Goals as goal

pub loop-i-init : goal.loop-i-init
loop-i-init c = plain_start _

pub returns-then-read_freeform : goal.returns-then-read_freeform
returns-then-read_freeform c = freeform_here _ c.args.t.now.own_curves c.curve_count-i-end.ensures c.loop-i.i c.loop-i.invariant _ (ap read_curve c.curve_record.ensures) c.loop-i-test.true c.read_freeform.ensures c.if-read_freeform.true

pub loop-i-preserved : goal.loop-i-preserved
loop-i-preserved c = plain_on _ c.args.t.now.own_curves c.curve_count-i-end.ensures c.loop-i.i c.loop-i.invariant _ (ap read_curve c.curve_record.ensures) c.loop-i-test.true c.read_freeform.ensures c.if-read_freeform.false

pub returns : goal.returns
returns c = plain_end _ c.args.t.now.own_curves c.curve_count-i-end.ensures c.loop-i.i c.loop-i.invariant c.loop-i-test.false
