use Rattle.std.proofs.Common.{◌∙◌, rules, tests}
use Rattle.std.proofs.lemmas.Iterator.{YieldsList-from_slice, YieldsList-from_zip}
use Rattle.std.proofs.lemmas.Iterator.Search.{any_from_yields_List}
use Rattle.support.proofs.Resolving.{near, near_hits}
use Rattle.support.proofs.freeform.has_near_hit.Goals as goal

pub returns : goal.returns
returns c =
    let q = c.args.q in
    any_from_yields_List (near q) c.any.new.self _ _ c.any.ensures.ran (YieldsList-from_zip (YieldsList-from_slice c.args.xs.now cc) (YieldsList-from_slice c.args.ys.now cc)) (λ x b r k. search (rules, tests))
    ∙ near_hits q c.args.xs.now c.args.ys.now
