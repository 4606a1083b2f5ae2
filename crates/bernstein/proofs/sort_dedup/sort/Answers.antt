use Rattle.std.proofs.Common.{◌<◌, ◌≤◌, refl, length, rules, arith}
use Rattle.bernstein.proofs.OrderWalks.{sorted_more, sorted_all}
use Rattle.bernstein.proofs.sort_dedup.sort.Goals as goal

pub loop-k-init : goal.loop-k-init
loop-k-init c = record { within = search rules; same = refl; done = refl }

pub loop-k-preserved : goal.loop-k-preserved
loop-k-preserved c = let l = c.loop-k in let h : l.k < length l.v = search rules in sorted_more _ _ _ _ l.invariant h c.insert_at.ensures

pub returns : goal.returns
returns c = let l = c.loop-k in let h : length l.v ≤ l.k = omega (arith, c.loop-k-test.false) in sorted_all _ _ _ l.invariant h
