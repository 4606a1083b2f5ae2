use Rattle.std.proofs.Common.{sym, ◌∙◌}
use Rattle.support.proofs.Resolving.{count_x, count_y, paired, start, finish, astray, skip, push}
use Rattle.support.proofs.freeform.resolve.Goals as goal
use Rattle.support.proofs.freeform.resolve.Goals.{then-not-has_near_hit, else-not-has_near_hit}

pub loop-t-init : goal.loop-t-init
loop-t-init c = start _ _ _ _ _ _ c.requires.1 c.requires.2

pub returns-then-not-dist2 : goal.returns-then-not-dist2
returns-then-not-dist2 c = astray _ _ _ _ _ _ _ _ _ _ c.loop-t.invariant c.loop-t-test.true _ c.curve_point-q.ensures _ c.dist2.ensures c.if-not-dist2.true

pub slice_bounds-has_near_hit-end-in-loop-t : goal.slice_bounds-has_near_hit-end-in-loop-t
slice_bounds-has_near_hit-end-in-loop-t c = count_x _ _ _ _ _ _ _ _ _ _ c.loop-t.invariant

pub slice_bounds-has_near_hit-end-in-loop-t-3 : goal.slice_bounds-has_near_hit-end-in-loop-t-3
slice_bounds-has_near_hit-end-in-loop-t-3 c = count_y _ _ _ _ _ _ _ _ _ _ c.loop-t.invariant

pub has_near_hit-requires : goal.has_near_hit-requires
has_near_hit-requires c = paired _ _ _ _ _ _ _ _ _ _ c.loop-t.invariant

pub loop-t-preserved : goal.loop-t-preserved
loop-t-preserved c =
    elim c.if-not-has_near_hit.branch [
      | then-not-has_near_hit w ↦ rw (w.qx-is, w.qy-is, w.count-is) (push _ _ _ _ _ _ _ _ _ _ c.loop-t.invariant c.loop-t-test.true _ c.curve_point-q.ensures _ c.dist2.ensures c.if-not-dist2.false (sym c.has_near_hit.ensures ∙ w.if-not-has_near_hit.true))
      | else-not-has_near_hit w ↦ rw (w.qx-is, w.qy-is, w.count-is) (skip _ _ _ _ _ _ _ _ _ _ c.loop-t.invariant c.loop-t-test.true _ c.curve_point-q.ensures _ c.dist2.ensures c.if-not-dist2.false (sym c.has_near_hit.ensures ∙ w.if-not-has_near_hit.false))
    ]

pub returns : goal.returns
returns c = finish _ _ _ _ _ _ _ _ _ _ c.loop-t.invariant c.loop-t-test.false
