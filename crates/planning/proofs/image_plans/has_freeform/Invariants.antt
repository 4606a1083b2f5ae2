use Rattle.planning.proofs.ImageCurves.{PlainUpTo}
use Rattle.planning.proofs.image_plans.has_freeform.Given as goal

abbrev pub invariant-loop-i : goal.invariant-loop-i
invariant-loop-i l = PlainUpTo l.t.image.now l.i
