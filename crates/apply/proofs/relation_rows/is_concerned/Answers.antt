-- `apply::is_concerned` meets its contract.
use Rattle.std.proofs.Common.{refl}
use Rattle.edit_plan.specs.Changes.{orphan_list}
use Rattle.apply.proofs.Turns.{concerned_is, concerned_alone}
use Rattle.apply.proofs.relation_rows.is_concerned.Goals as goal

pub returns-then-is_empty : goal.returns-then-is_empty
returns-then-is_empty c = concerned_alone c.args.e c.args.os c.args.r.now c.args.r.now _ _ refl c.get4-a.ensures c.get4-b.ensures (c.is_empty.ensures.0 c.if-is_empty.true)

pub returns : goal.returns
returns c = concerned_is c.args.e (orphan_list c.args.os) c.args.r.now c.args.r.now _ _ _ _ refl c.get4-a.ensures c.get4-b.ensures c.contains.ensures c.contains-2.ensures
