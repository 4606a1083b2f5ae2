-- `sketch::shapes_fault` meets its contract: one law for each way out.
use Rattle.std.proofs.Common.{refl, arith, length-take}
use Rattle.std.specs.List.{take-map}
use Rattle.std.proofs.lemmas.Result.{err_from_is_err_and}
use Rattle.refusal.proofs.Numbers.{number_above_0}
use Rattle.sketch.proofs.Sketches.{curves_passed, fault_curves, fault_relations}
use Rattle.sketch.proofs.validity.shapes_fault.Goals as goal

pub returns-in_err-curves_fault : goal.returns-in_err-curves_fault
returns-in_err-curves_fault c =
    let p = err_from_is_err_and c.from_residual.result c.from_residual.ensures.1 in
    let n = number_above_0 c.in_err-curves_fault.field-0.0 in
    rw (p.1, p.2) (fault_curves c.args.sk.now c.requires.2 c.in_err-curves_fault.ensures (λ z. omega arith))

pub relations_fault-requires : goal.relations_fault-requires
relations_fault-requires c =
    let z = c.requires.0 in
    (simp length-take (omega arith), c.requires.1, (curves_passed c.args.sk.now c.requires.2 c.in_ok-curves_fault.ensures refl).rise)

pub returns : goal.returns
returns c =
    let t = c.relations_fault.ensures in
    fault_relations c.args.sk.now c.requires.2 (curves_passed c.args.sk.now c.requires.2 c.in_ok-curves_fault.ensures refl) (rw (← take-map) at t)
