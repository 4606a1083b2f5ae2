-- `apply::unused_in` meets its contract.
use Rattle.std.proofs.Common.{take, ◌≡◌}
use Rattle.edit_plan.specs.Changes.{orphan_list, unused_by}
use Rattle.edit_plan.specs.Tables.{others}
use Rattle.rows.specs.Rows.{curves_in}
use Rattle.apply.proofs.unused_points.unused_in.Given as goal

abbrev pub invariant-loop-i : goal.invariant-loop-i
invariant-loop-i l = orphan_list l.unused ≡ unused_by (others l.g (take l.i (curves_in l.curves))) (orphan_list l.initial.unused)
