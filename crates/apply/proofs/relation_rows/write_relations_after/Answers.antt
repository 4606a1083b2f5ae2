-- `apply::write_relations_after` meets its contract.
use Rattle.std.proofs.Common.{map, arith}
use Rattle.apply.proofs.Parts.{rows_then}
use Rattle.apply.proofs.Images.{length_relations_after, lefts_are_long}
use Rattle.apply.specs.Clauses.{left_rows, relations_after}
use Rattle.edit_plan.specs.Changes.{relations_new, orphan_list}
use Rattle.image.specs.Encode.{encode_relation}
use Rattle.image.specs.Records.{relation_size}
use Rattle.apply.proofs.relation_rows.write_relations_after.Goals as goal

pub write_left-to-requires : goal.write_left-to-requires
write_left-to-requires c =
    let a = c.args in
    let n = length_relations_after a.e (orphan_list a.os) a.ch a.relations.now in
    omega (arith, n, c.requires)

pub write_new_relations-requires : goal.write_new_relations-requires
write_new_relations-requires c =
    let a = c.args in
    let n = length_relations_after a.e (orphan_list a.os) a.ch a.relations.now in
    omega (arith, n, c.requires, c.write_left-to.ensures.1)

pub returns : goal.returns
unfolding relations_after
returns c =
    let a = c.args in
    let n = length_relations_after a.e (orphan_list a.os) a.ch a.relations.now in
    rows_then relation_size a.out.now a.at (left_rows a.e (orphan_list a.os) a.relations.now) _ _ (lefts_are_long a.e (orphan_list a.os) a.relations.now) c.write_left-to.ensures.0 c.write_left-to.ensures.1 (map encode_relation (relations_new a.ch)) _ (omega (arith, c.requires)) c.write_new_relations.ensures
