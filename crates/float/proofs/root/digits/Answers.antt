use Rattle.std.proofs.Common.{arith}
use Rattle.float.proofs.ByDigits.{below, first, step_0, step_1, last}
use Rattle.float.proofs.root.digits.Goals as goal
use Rattle.float.proofs.root.digits.Goals.{then-whole-left, else-whole-left}

pub loop-digit-init : goal.loop-digit-init
loop-digit-init c = first c.args.m c.requires

pub overflow_add-left : goal.overflow_add-left
overflow_add-left c = omega (arith, (below _ _ c.loop-digit-test.true c.loop-digit.invariant.short))

pub overflow_add-whole : goal.overflow_add-whole
overflow_add-whole c = omega (arith, (below _ _ c.loop-digit-test.true c.loop-digit.invariant.short))

pub overflow_add-left-then-whole-left : goal.overflow_add-left-then-whole-left
overflow_add-left-then-whole-left c = omega (arith, (below _ _ c.loop-digit-test.true c.loop-digit.invariant.short))

pub overflow_sub-left : goal.overflow_sub-left
overflow_sub-left c = omega (arith, (below _ _ c.loop-digit-test.true c.loop-digit.invariant.short))

pub overflow_sub-left-then-whole-left : goal.overflow_sub-left-then-whole-left
overflow_sub-left-then-whole-left c = omega (arith, (below _ _ c.loop-digit-test.true c.loop-digit.invariant.short))

pub overflow_add-whole-then-whole-left : goal.overflow_add-whole-then-whole-left
overflow_add-whole-then-whole-left c = omega (arith, (below _ _ c.loop-digit-test.true c.loop-digit.invariant.short))

pub loop-digit-preserved : goal.loop-digit-preserved
loop-digit-preserved c =
    let v = c.loop-digit.invariant in
    let k = (below _ _ c.loop-digit-test.true c.loop-digit.invariant.short) in
    elim c.if-whole-left.branch [
      | then-whole-left w ↦ step_1 _ _ _ _ _ v c.loop-digit-test.true _ _ (omega arith) (omega arith)
      | else-whole-left w ↦ step_0 _ _ _ _ _ v c.loop-digit-test.true _ _ (omega arith) (omega arith) (omega arith)
    ]

pub returns : goal.returns
returns c = (last _ _ _ _ _ c.loop-digit.invariant c.loop-digit-test.false, c.loop-digit.invariant.small)
