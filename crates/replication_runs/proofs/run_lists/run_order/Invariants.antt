-- `replication_runs::run_lists::run_order` meets its contract. The invariant: the run came so far by the numbers before this one.
use Rattle.std.proofs.Common.{take}
use Rattle.replication.specs.Transitions.{memory, state_in}
use Rattle.replication_runs.specs.Clauses.{Ran}
use Rattle.replication_runs.proofs.run_lists.run_order.Given as goal

abbrev pub invariant-loop-o : goal.invariant-loop-o
invariant-loop-o l = Ran l.initial.last.desk.mark (state_in (memory l.initial.last.desk l.initial.desk)).drawing l.entries l.others l.initial.log (take l.o-index l.order) l.last l.log l.desk l.wall
