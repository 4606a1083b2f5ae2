use Rattle.std.proofs.Common.{◌-◌, ◌≡◌, refl, sym, ◌∙◌, arith}
use Rattle.bernstein.specs.Bisect.{middle, narrow}
use Rattle.bernstein.proofs.Bisecting.{none_left, near, above, below, ended}
use Rattle.bernstein.proofs.bisection.bisect.Goals as goal
use Rattle.bernstein.proofs.bisection.bisect.Goals.{then-same_sign, else-same_sign}

pub loop-step-init : goal.loop-step-init
loop-step-init c = refl

pub returns-then-left-eq0 : goal.returns-then-left-eq0
returns-then-left-eq0 c = sym (none_left _ _ _ _ _ _ c.loop-step-test.true c.if-left-eq0.true) ∙ c.loop-step.invariant

pub returns-then-hi-lo : goal.returns-then-hi-lo
unfolding middle narrow
returns-then-hi-lo c = sym (near _ _ _ _ _ _ c.loop-step-test.true c.if-left-eq0.false c.if-hi-lo.true) ∙ c.loop-step.invariant

pub loop-step-preserved : goal.loop-step-preserved
unfolding middle narrow
loop-step-preserved c =
    elim c.if-same_sign.branch [
      | then-same_sign w ↦ rw (w.lo-is, w.hi-is, w.fl-is) (above _ _ _ _ _ _ c.loop-step-test.true c.if-left-eq0.false c.if-hi-lo.false _ c.evaluate-f.ensures _ c.same_sign.ensures w.if-same_sign.true ∙ c.loop-step.invariant)
      | else-same_sign w ↦ rw (w.lo-is, w.hi-is, w.fl-is) (below _ _ _ _ _ _ c.loop-step-test.true c.if-left-eq0.false c.if-hi-lo.false _ c.evaluate-f.ensures _ c.same_sign.ensures w.if-same_sign.false ∙ c.loop-step.invariant)
    ]

pub returns : goal.returns
unfolding middle
returns c = let e : 64 - c.loop-step._step ≡ 0 = omega arith in ended _ _ _ _ _ _ e ∙ c.loop-step.invariant
