-- `apply::write_new_relations` meets its contract.
use Rattle.apply.proofs.Parts.{relations_put}
use Rattle.apply.proofs.relation_rows.write_new_relations.Goals as goal

pub returns : goal.returns
returns c =
    let a = c.args in
    relations_put a.ch a.out.now a.at _ _ _ _ c.requires c.write_relation.ensures c.write_if_some-to.ensures.0 c.write_if_some-to.ensures.1 c.write_if_some.ensures.0
