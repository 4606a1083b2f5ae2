use Rattle.std.proofs.Common.{rules, tests}
use Rattle.bernstein.proofs.KnotWalks.{roots_at_front_found, roots_at_front_refused, no_knots, search_first, out_of, passed, bracketed, all_searched}
use Rattle.bernstein.proofs.level.between.Goals as goal
use Rattle.bernstein.proofs.level.between.Goals.{then-not-no_sign_change+in-Some, else-not-no_sign_change}

pub returns-then-is_empty : goal.returns-then-is_empty
returns-then-is_empty c = let a = c.args in roots_at_front_found _ a.f.now a.z a.budget (no_knots a.c.now a.eps a.knots.now _ _ (search (rules, tests))) (search rules)

pub loop-i-init : goal.loop-i-init
loop-i-init c = let a = c.args in search_first a.c.now a.knots.now a.eps a.f.now a.z a.budget _ (search rules) c.requires c.evaluate-fl.ensures

pub returns-in_default : goal.returns-in_default
returns-in_default c = roots_at_front_refused _ _ (out_of _ _ _ _ _ _ _ _ _ _ _ _ c.loop-i.invariant c.loop-i-test.true _ c.evaluate-fh.ensures _ c.no_sign_change.ensures _ c.bisect.ensures c.in_default.is c.if-not-no_sign_change.true)

pub loop-i-preserved : goal.loop-i-preserved
loop-i-preserved c =
    let s = c.loop-i.invariant in
    let h = c.loop-i-test.true in
    let v = c.evaluate-fh.ensures in
    let n = c.no_sign_change.ensures in
    elim c.if-not-no_sign_change.branch [
      | then-not-no_sign_change+in-Some w ↦ bracketed _ _ _ _ _ _ _ _ _ _ _ _ s h _ v _ n _ _ _ _ _ w.bisect.ensures w.in-Some.is w.if-not-no_sign_change.true w.f-is w.count-is w.left-is
      | else-not-no_sign_change w ↦ passed _ _ _ _ _ _ _ _ _ _ _ _ s h _ v _ n _ _ _ w.if-not-no_sign_change.false w.f-is w.count-is w.left-is
    ]

pub returns : goal.returns
returns c = all_searched _ _ _ _ _ _ _ _ _ _ _ _ c.loop-i.invariant c.loop-i-test.false
