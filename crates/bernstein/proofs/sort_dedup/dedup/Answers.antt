use Rattle.std.proofs.Common.{rules}
use Rattle.bernstein.proofs.OrderWalks.{drop_none, drop_first, dropped, retained, drop_last}
use Rattle.bernstein.proofs.sort_dedup.dedup.Goals as goal
use Rattle.bernstein.proofs.sort_dedup.dedup.Goals.{then-not-abs-w, else-not-abs-w}

pub returns-then-n-eq0 : goal.returns-then-n-eq0
returns-then-n-eq0 c = drop_none _ _ c.if-n-eq0.true

pub loop-i-init : goal.loop-i-init
loop-i-init c = drop_first _ _ (search rules)

pub loop-i-preserved : goal.loop-i-preserved
loop-i-preserved c =
    let d = c.loop-i.invariant in
    let h = c.loop-i-test.true in
    let a = c.abs.ensures in
    elim c.if-not-abs-w.branch [
      | then-not-abs-w w ↦ retained _ _ _ _ _ _ _ d h _ a _ _ _ w.if-not-abs-w.true w.v-is w.last-is w.m-is
      | else-not-abs-w w ↦ dropped _ _ _ _ _ _ _ d h _ a _ _ _ w.if-not-abs-w.false w.v-is w.last-is w.m-is
    ]

pub returns : goal.returns
returns c = drop_last _ _ _ _ _ _ _ c.loop-i.invariant c.loop-i-test.false
