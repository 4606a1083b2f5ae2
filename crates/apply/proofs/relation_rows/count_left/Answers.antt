-- `apply::count_left` meets its contract.
use Rattle.std.proofs.Common.{ap, ◌∙◌, length, ltb, rules, tests}
use Rattle.std.proofs.lemmas.Iterator.Consumers.{count_from_yields_List, YieldsList-from_filter}
use Rattle.std.proofs.lemmas.Iterator.{YieldsList-from_slice}
use Rattle.apply.specs.Clauses.{left_row, left_rows}
use Rattle.apply.proofs.Concerned.{left_counted}
use Rattle.image.specs.Records.{relation_size}
use Rattle.edit_plan.specs.Changes.{orphan_list}
use Rattle.sketch.specs.Lists.{concat_map}
use Rattle.rows.proofs.Search.{rows_are}
use Rattle.apply.proofs.relation_rows.count_left.Goals as goal

pub returns : goal.returns
unfolding left_rows
returns c =
    let a = c.args in
    let g = left_row a.e (orphan_list a.os) in
    let n = count_from_yields_List c.filter.result _ c.count.ensures.ran (YieldsList-from_filter _ (λ r. ltb 0 (length (g r))) (YieldsList-from_slice c.as_chunks.result.0.now cc) c.filter.ensures.closure (λ x b q k. search (rules, tests))) in
    n ∙ left_counted a.e (orphan_list a.os) c.as_chunks.result.0.now ∙ ap (λ rows. length (concat_map g rows)) (rows_are relation_size a.relations.now _ c.as_chunks.ensures.front)
