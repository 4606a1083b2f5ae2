use Rattle.std.proofs.Common.{refl, sym, ◌∙◌, arith}
use Rattle.std.proofs.lemmas.Result.{err_from_is_err_and}
use Rattle.refusal.proofs.Numbers.{number_above_0}
use Rattle.rows.proofs.Tested.{header_refused, points_rise, points_refused, curves_rise, curves_refused, relations_decide}
use Rattle.rows.proofs.faults.image_fault.Goals as goal

pub returns-in_err-head_fault : goal.returns-in_err-head_fault
returns-in_err-head_fault c =
    let p = err_from_is_err_and c.from_residual.result c.from_residual.ensures.1 in
    let n = number_above_0 c.in_err-head_fault.field-0.0 in
    rw (p.1, p.2) (header_refused c.args.s.now _ c.in_err-head_fault.ensures (λ z. omega arith))

pub returns-in_err-points_fault : goal.returns-in_err-points_fault
returns-in_err-points_fault c =
    let s = c.args.s.now in
    let t = rw (c.points_of-points.ensures, c.next_id-next.ensures) at c.in_err-points_fault.ensures in
    let p = err_from_is_err_and c.from_residual-in_err-points_fault.result c.from_residual-in_err-points_fault.ensures.1 in
    let n = number_above_0 c.in_err-points_fault.field-0.0 in
    rw (p.1, p.2) (points_refused s (sym c.in_ok-head_fault.ensures) t (λ z. omega arith))

pub curves_fault-requires : goal.curves_fault-requires
curves_fault-requires c =
    let s = c.args.s.now in
    let t = rw (c.points_of-points.ensures, c.next_id-next.ensures) at c.in_ok-points_fault.ensures in
    rw c.points_of-points.ensures (points_rise s (sym c.in_ok-head_fault.ensures) t refl)

pub returns-in_err-curves_fault : goal.returns-in_err-curves_fault
returns-in_err-curves_fault c =
    let s = c.args.s.now in
    let t = rw (c.points_of-points.ensures, c.next_id-next.ensures) at c.in_ok-points_fault.ensures in
    let u = rw (c.curves_of-curves.ensures, c.points_of-points.ensures, c.next_id-next.ensures) at c.in_err-curves_fault.ensures in
    let p = err_from_is_err_and c.from_residual-in_err-curves_fault.result c.from_residual-in_err-curves_fault.ensures.1 in
    let n = number_above_0 c.in_err-curves_fault.field-0.0 in
    rw (p.1, p.2) (curves_refused s (sym c.in_ok-head_fault.ensures) t refl u (λ z. omega arith))

pub relations_fault-requires : goal.relations_fault-requires
relations_fault-requires c =
    let s = c.args.s.now in
    let z = sym c.in_ok-head_fault.ensures in
    let t = rw (c.points_of-points.ensures, c.next_id-next.ensures) at c.in_ok-points_fault.ensures in
    let u = rw (c.curves_of-curves.ensures, c.points_of-points.ensures, c.next_id-next.ensures) at c.in_ok-curves_fault.ensures in
    (rw c.points_of-points.ensures (points_rise s z t refl), rw c.curves_of-curves.ensures (curves_rise s z t refl u refl))

pub returns : goal.returns
returns c =
    let s = c.args.s.now in
    let z = sym c.in_ok-head_fault.ensures in
    let t = rw (c.points_of-points.ensures, c.next_id-next.ensures) at c.in_ok-points_fault.ensures in
    let u = rw (c.curves_of-curves.ensures, c.points_of-points.ensures, c.next_id-next.ensures) at c.in_ok-curves_fault.ensures in
    relations_decide s z t refl u refl (c.relations_fault.ensures ∙ rw (c.relations_of.ensures, c.curves_of-curves.ensures, c.points_of-points.ensures))
