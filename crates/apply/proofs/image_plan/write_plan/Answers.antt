-- `apply::write_plan` meets its contract.
use Rattle.std.proofs.Common.{[]}
use Rattle.apply.specs.Clauses.{refused_by}
use Rattle.apply.proofs.Planned.{whole_answered, changed_answered, changed_within, target_slots}
use Rattle.edit_plan.specs.Changes.{orphan_list}
use Rattle.apply.proofs.image_plan.write_plan.Goals as goal

pub write_without-requires : goal.write_without-requires
write_without-requires c = c.requires.0

pub returns-then-e : goal.returns-then-e
returns-then-e c =
    let a = c.args in
    whole_answered a.t.now.next a.t.now.points.now a.t.now.curves.now a.t.now.relations.now a.k a.plan a.out.now _ _ a.c c.extent_of-e.result (orphan_list c.orphans_in-os.result) c.requires.1 c.extent_of-e.ensures c.orphans_in-os.ensures c.requires.2 c.if-e.true c.write_without.ensures

pub write_changed-requires : goal.write_changed-requires
write_changed-requires c =
    let a = c.args in
    let w = changed_within a.t.now.next a.t.now.points.now a.t.now.curves.now a.t.now.relations.now a.k a.plan a.out.now [] (refused_by 0) a.c c.extent_of-e.result (orphan_list c.orphans_in-os.result) c.requires.1 c.extent_of-e.ensures c.orphans_in-os.ensures c.requires.2 c.plan_change-ch.result c.plan_change-ch.ensures c.if-e.false (target_slots a.t.now.next a.t.now.points.now a.t.now.curves.now a.t.now.relations.now a.k a.plan a.c c.requires.0 c.requires.1) a.t.now.within c.requires.0 in
    (c.requires.0, w.0, w.1)

pub returns : goal.returns
returns c =
    let a = c.args in
    changed_answered a.t.now.next a.t.now.points.now a.t.now.curves.now a.t.now.relations.now a.k a.plan a.out.now _ _ a.c c.extent_of-e.result (orphan_list c.orphans_in-os.result) c.requires.1 c.extent_of-e.ensures c.orphans_in-os.ensures c.requires.2 c.plan_change-ch.result c.plan_change-ch.ensures c.if-e.false c.write_changed.ensures
