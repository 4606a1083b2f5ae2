use Rattle.support.proofs.Resolving.{Walk}
use Rattle.support.specs.Clauses.{freeform_of}
use Rattle.support.proofs.freeform.resolve.Given as goal

abbrev pub invariant-loop-t : goal.invariant-loop-t
invariant-loop-t l = Walk l.line (freeform_of l.curve l.xs l.ys) l.ts l.budget l.initial.qx l.initial.qy l.count l.t-index l.qx l.qy
