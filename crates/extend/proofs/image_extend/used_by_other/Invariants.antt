use Rattle.rows.specs.Rows.{curves_in}
use Rattle.extend.proofs.Uses.{UsedFrom}
use Rattle.extend.proofs.image_extend.used_by_other.Given as goal

abbrev pub invariant-loop-i : goal.invariant-loop-i
invariant-loop-i l = UsedFrom (curves_in l.curves) l.id l.p l.i
