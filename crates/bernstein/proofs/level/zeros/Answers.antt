use Rattle.std.proofs.Common.{refl, rules}
use Rattle.bernstein.proofs.KnotWalks.{sieved, passed_by, all_sieved}
use Rattle.bernstein.proofs.level.zeros.Goals as goal
use Rattle.bernstein.proofs.level.zeros.Goals.{then-is_zero, else-is_zero}

pub loop-t-init : goal.loop-t-init
loop-t-init c = record { behind = search rules; within = search rules; room = search rules; same = refl; done = refl }

pub loop-t-preserved : goal.loop-t-preserved
loop-t-preserved c =
    let s = c.loop-t.invariant in
    let h = c.loop-t-test.true in
    let v = c.evaluate.ensures in
    let b = c.is_zero.ensures in
    elim c.if-is_zero.branch [
      | then-is_zero w ↦ sieved _ _ _ _ _ _ _ s h _ v _ b _ _ w.if-is_zero.true w.f-is w.m-is
      | else-is_zero w ↦ passed_by _ _ _ _ _ _ _ s h _ v _ b _ _ w.if-is_zero.false w.f-is w.m-is
    ]

pub returns : goal.returns
returns c = all_sieved _ _ _ _ _ _ _ c.loop-t.invariant c.loop-t-test.false
