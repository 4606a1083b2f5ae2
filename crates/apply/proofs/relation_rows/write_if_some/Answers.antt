-- `apply::write_if_some` meets its contract.
use Rattle.apply.proofs.Parts.{none_put, one_put}
use Rattle.apply.proofs.relation_rows.write_if_some.Goals as goal

pub returns-in_default : goal.returns-in_default
returns-in_default c = none_put c.args.out.now c.args.at c.args.relation c.in_default.is

pub returns : goal.returns
returns c = one_put c.args.out.now c.args.at c.args.relation c.in-Some.r c.in-Some.is _ c.requires c.write_relation.ensures
