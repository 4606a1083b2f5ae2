-- `apply::count_staying` meets its contract.
use Rattle.std.proofs.Common.{sym, ap, ◌∙◌, length, rules, tests}
use Rattle.std.proofs.lemmas.Iterator.Consumers.{count_from_yields_List, YieldsList-from_filter}
use Rattle.std.proofs.lemmas.Iterator.{YieldsList-from_slice}
use Rattle.apply.proofs.Turns.{staying_kept, all_stay}
use Rattle.image.specs.Records.{point_size}
use Rattle.image.specs.Image.{row_id}
use Rattle.edit_plan.specs.Changes.{orphan_list, staying}
use Rattle.rows.proofs.Search.{rows_are}
use Rattle.apply.proofs.points.count_staying.Goals as goal

pub returns-then-is_empty : goal.returns-then-is_empty
returns-then-is_empty c =
    let a = c.args in
    ap length (rows_are point_size a.points.now _ c.as_chunks.ensures.front ∙ sym (all_stay a.os a.points.now (c.is_empty.ensures.0 c.if-is_empty.true)))

pub returns : goal.returns
returns c =
    let a = c.args in
    let n = count_from_yields_List c.filter.result _ c.count.ensures.ran (YieldsList-from_filter _ (λ r. staying (orphan_list a.os) (row_id r)) (YieldsList-from_slice c.as_chunks.result.0.now cc) c.filter.ensures.closure (λ x b q k. search (rules, tests))) in
    n ∙ ap length (staying_kept (orphan_list a.os) a.points.now _ (rows_are point_size a.points.now _ c.as_chunks.ensures.front))
