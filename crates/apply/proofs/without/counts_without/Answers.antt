-- `apply::counts_without` meets its contract.
use Rattle.std.proofs.Common.{sym, arith}
use Rattle.apply.proofs.Parts.{length_without}
use Rattle.apply.proofs.Images.{counts_are}
use Rattle.edit_plan.specs.Changes.{orphan_list}
use Rattle.apply.proofs.without.counts_without.Goals as goal

pub overflow_sub-result : goal.overflow_sub-result
overflow_sub-result c = omega (arith, c.requires)

pub returns : goal.returns
returns c =
    let a = c.args in
    let os = orphan_list a.os in
    counts_are _ _ _ _ _ _ c.count_staying.ensures (sym (length_without a.k a.t.now.curves.now c.requires)) c.count_left.ensures
