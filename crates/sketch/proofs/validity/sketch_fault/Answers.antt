-- `sketch::sketch_fault` meets its contract: one law for each way out.
use Rattle.std.proofs.Common.{refl, sym, ◌∙◌, arith, rules}
use Rattle.std.proofs.lemmas.Result.{err_from_is_err_and}
use Rattle.refusal.proofs.Numbers.{number_above_0}
use Rattle.sketch.proofs.Sketches.{sized, begun, points_passed, fault_over, fault_next, fault_points}
use Rattle.sketch.proofs.validity.sketch_fault.Goals as goal

pub returns-then-not-counts_fit : goal.returns-then-not-counts_fit
returns-then-not-counts_fit c = fault_over c.args.sk.now (sym c.counts_fit.ensures ∙ c.if-not-counts_fit.true)

pub returns-then-sk-lt1 : goal.returns-then-sk-lt1
returns-then-sk-lt1 c = fault_next c.args.sk.now (sized c.args.sk.now (sym c.counts_fit.ensures ∙ c.if-not-counts_fit.false)) c.if-sk-lt1.true

pub returns-in_err-points_fault : goal.returns-in_err-points_fault
returns-in_err-points_fault c =
    let p = err_from_is_err_and c.from_residual.result c.from_residual.ensures.1 in
    let n = number_above_0 c.in_err-points_fault.field-0.0 in
    let z = sized c.args.sk.now (sym c.counts_fit.ensures ∙ c.if-not-counts_fit.false) in
    rw (p.1, p.2) (fault_points (begun c.args.sk.now z c.if-sk-lt1.false (search rules)) c.in_err-points_fault.ensures (λ z. omega arith))

pub shapes_fault-requires : goal.shapes_fault-requires
shapes_fault-requires c =
    let z = sized c.args.sk.now (sym c.counts_fit.ensures ∙ c.if-not-counts_fit.false) in
    let p = points_passed (begun c.args.sk.now z c.if-sk-lt1.false (search rules)) c.in_ok-points_fault.ensures refl in
    (z, p.rise, p.column)

pub returns : goal.returns
returns c =
    let z = sized c.args.sk.now (sym c.counts_fit.ensures ∙ c.if-not-counts_fit.false) in
    let passed = points_passed (begun c.args.sk.now z c.if-sk-lt1.false (search rules)) c.in_ok-points_fault.ensures refl in
    c.shapes_fault.ensures ∙ sym passed.rest
