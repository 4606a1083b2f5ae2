use Rattle.std.proofs.Common.{sym, ◌∙◌, ◌≤◌, length, arith}
use Rattle.std.proofs.lemmas.List.{length_push}
use Rattle.std.proofs.lemmas.Slice.Zip.{zip_turn, zip_end}
use lib.Ieee.{nan}
use Rattle.support.proofs.Offsets.{farthest_start, farther, farthest_so_far}
use Rattle.support.proofs.distance.farthest.Goals as goal

pub loop-x-init : goal.loop-x-init
loop-x-init c = farthest_start _ _ _

pub loop-x-preserved : goal.loop-x-preserved
loop-x-preserved c =
    let xs = c.args.xs.now in
    let ys = c.args.ys.now in
    let t = zip_turn xs ys c.loop-x.yielded _ _ c.next.new.self _ (cc) (cc) c.loop-x.yielded_by (c.in-Some.x, c.in-Some.y) c.in-Some.is c.next.ensures.steps in
    let n = length_push c.loop-x.yielded (c.in-Some.x, c.in-Some.y) in
    rw n (farther _ _ _ _ _ _ _ _ t.0 c.requires (c.new.ensures ∙ rw (t.2 nan, t.3 nan)) c.dist.ensures c.max-m.ensures ∙ c.loop-x.invariant)

pub returns : goal.returns
returns c =
    let e = zip_end c.args.xs.now c.args.ys.now c.loop-x.yielded _ _ c.next.new.self _ (cc) (cc) c.loop-x.yielded_by c.in-None.is c.next.ensures.steps in
    let h : length c.args.xs.now ≤ length c.loop-x.yielded = omega (arith, e, c.requires) in
    sym (farthest_so_far _ _ _ _ _ h) ∙ c.loop-x.invariant
