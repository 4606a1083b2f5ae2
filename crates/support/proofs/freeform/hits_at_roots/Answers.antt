use Rattle.std.proofs.Common.{◌≤◌, ◌++◌, sym, ap, ◌∙◌, length, drop, rules, arith}
use lib.Seq.{length-take-le}
use Rattle.std.proofs.lemmas.Result.{err_from_is_err_and}
use Rattle.bernstein.specs.Answers.{answer_in}
use Rattle.support.proofs.Answers.{as_outcome, met_nothing, met_all, hits_fit_X, hits_fit_Y}
use Rattle.support.proofs.RootsFound.{none_resolved, roots_fit, roots_counted, roots_few, roots_resolved}
use Rattle.support.specs.Clauses.{freeform_of}
use Rattle.support.proofs.freeform.hits_at_roots.Goals as goal
use Rattle.support.proofs.freeform.hits_at_roots.Goals.{In_ok-hits}

pub returns-in_default : goal.returns-in_default
returns-in_default c = let d = c.in_default in rw d.is (none_resolved _ _ _ _ _ _ _ c.roots-answer.ensures (search rules) _ _ (ap answer_in d.is) _ _)

pub slice_bounds-ts-end : goal.slice_bounds-ts-end
slice_bounds-ts-end c = roots_fit c.args.line (freeform_of c.args.curve c.args.xs.now c.args.ys.now) _ _ _ _ _ c.roots-answer.ensures (search rules) _ _ (ap answer_in c.in-Ok.is)

pub slice_bounds-resolve-end : goal.slice_bounds-resolve-end
slice_bounds-resolve-end c = roots_counted c.args.line (freeform_of c.args.curve c.args.xs.now c.args.ys.now) _ _ _ _ _ c.roots-answer.ensures (search rules) _ _ (ap answer_in c.in-Ok.is)

pub resolve-requires : goal.resolve-requires
resolve-requires c = let h = roots_few c.args.line (freeform_of c.args.curve c.args.xs.now c.args.ys.now) _ _ _ _ _ c.roots-answer.ensures (search rules) _ _ (ap answer_in c.in-Ok.is) _ c.roots-answer.auto.found in (c.requires.0, h, h)

pub returns-in_err-hits : goal.returns-in_err-hits
returns-in_err-hits c =
    let p = err_from_is_err_and c.from_residual.result c.from_residual.ensures.1 in
    rw (p.1, p.2) (as_outcome (roots_resolved _ _ _ _ _ _ _ c.roots-answer.ensures (search rules) _ _ (ap answer_in c.in-Ok.is)) (met_nothing _ _ _ _ c.resolve.ensures _ _ _ _ (ap answer_in c.in_err-hits.was)))

-- as many hits as were found fit each of the four lists
fit_qx : (c : In_ok-hits) → c.in_ok-hits.hits.count ≤ length c.resolve.new.qx
fit_qx c = hits_fit_X _ _ _ _ c.resolve.ensures _ _ (ap answer_in c.in_ok-hits.was)

fit_qy : (c : In_ok-hits) → c.in_ok-hits.hits.count ≤ length c.resolve.new.qy
fit_qy c = hits_fit_Y _ _ _ _ c.resolve.ensures _ _ (ap answer_in c.in_ok-hits.was)

fit_hx : (c : In_ok-hits) → c.in_ok-hits.hits.count ≤ length c.args.hx.now
fit_hx c = omega (arith, fit_qx c, c.resolve.auto.qx, c.requires.1)

fit_hy : (c : In_ok-hits) → c.in_ok-hits.hits.count ≤ length c.args.hy.now
fit_hy c = omega (arith, fit_qy c, c.resolve.auto.qy, c.requires.2)

pub slice_bounds-copy_from_slice-end : goal.slice_bounds-copy_from_slice-end
slice_bounds-copy_from_slice-end c = fit_hx (goal.at.slice_bounds-copy_from_slice-end c).In_ok-hits

pub slice_bounds-copy_from_slice-end-2 : goal.slice_bounds-copy_from_slice-end-2
slice_bounds-copy_from_slice-end-2 c = sym (length-take-le _ _ (fit_hx (goal.at.slice_bounds-copy_from_slice-end-2 c).In_ok-hits))

pub slice_bounds-qx-end : goal.slice_bounds-qx-end
slice_bounds-qx-end c = fit_qx (goal.at.slice_bounds-qx-end c).In_ok-hits

pub slice_bounds-copy_from_slice-end-3 : goal.slice_bounds-copy_from_slice-end-3
slice_bounds-copy_from_slice-end-3 c = sym (length-take-le _ _ (fit_qx (goal.at.slice_bounds-copy_from_slice-end-3 c).In_ok-hits))

pub copy_from_slice-requires : goal.copy_from_slice-requires
copy_from_slice-requires c =
    let b = (goal.at.copy_from_slice-requires c).In_ok-hits in
    length-take-le _ _ (fit_hx b) ∙ sym (length-take-le _ _ (fit_qx b))

pub slice_bounds-copy_from_slice-end-4 : goal.slice_bounds-copy_from_slice-end-4
slice_bounds-copy_from_slice-end-4 c = fit_hy (goal.at.slice_bounds-copy_from_slice-end-4 c).In_ok-hits

pub slice_bounds-copy_from_slice-end-5 : goal.slice_bounds-copy_from_slice-end-5
slice_bounds-copy_from_slice-end-5 c = sym (length-take-le _ _ (fit_hy (goal.at.slice_bounds-copy_from_slice-end-5 c).In_ok-hits))

pub slice_bounds-qy-end : goal.slice_bounds-qy-end
slice_bounds-qy-end c = fit_qy (goal.at.slice_bounds-qy-end c).In_ok-hits

pub slice_bounds-copy_from_slice-end-6 : goal.slice_bounds-copy_from_slice-end-6
slice_bounds-copy_from_slice-end-6 c = sym (length-take-le _ _ (fit_qy (goal.at.slice_bounds-copy_from_slice-end-6 c).In_ok-hits))

pub copy_from_slice-requires-2 : goal.copy_from_slice-requires-2
copy_from_slice-requires-2 c =
    let b = (goal.at.copy_from_slice-requires-2 c).In_ok-hits in
    length-take-le _ _ (fit_hy b) ∙ sym (length-take-le _ _ (fit_qy b))

pub returns : goal.returns
returns c =
    let n = c.in_ok-hits.hits.count in
    let x = ap (λ l. l ++ drop n c.args.hx.now) c.copy_from_slice.ensures.after in
    let y = ap (λ l. l ++ drop n c.args.hy.now) c.copy_from_slice-2.ensures.after in
    as_outcome (roots_resolved _ _ _ _ _ _ _ c.roots-answer.ensures (search rules) _ _ (ap answer_in c.in-Ok.is)) (met_all _ _ _ _ c.resolve.ensures _ _ (ap answer_in c.in_ok-hits.was) _ _ _ _ x y)
