use Rattle.std.proofs.Common.{refl, arith, rules}
use Rattle.std.proofs.Math.ListN.{length-set}
use Rattle.hit_search.proofs.CurveHits.{front_none, front_on, front_whole}
use Rattle.hit_search.proofs.image_hits.controls.Goals as goal

pub loop-i-init : goal.loop-i-init
loop-i-init c = (refl, refl, λ ps w. front_none ps _ _ _)

pub loop-i-preserved : goal.loop-i-preserved
loop-i-preserved c =
    let i = c.loop-i.invariant in
    (rw length-set i.0, rw length-set i.1, λ ps w. front_on ps _ _ _ (i.2 ps w) (omega arith) (omega arith) (omega arith) _ (c.position_of-p.ensures ps w))

pub returns : goal.returns
returns c =
    let i = c.loop-i.invariant in
    λ ps w. front_whole ps _ _ _ _ (search rules) i.0 i.1 (omega arith) (i.2 ps w)
