use Rattle.std.proofs.Common.{arith, ◌∙◌}
use Rattle.shape.proofs.CrossingsBy.{crossings_by_lem}
use Rattle.cuts.proofs.Among.{stops_start, stops_step, stops_end}
use Rattle.cuts.proofs.gather.cuts_by.Goals as goal

pub loop-k-init : goal.loop-k-init
loop-k-init c = record { upper_bound = omega arith; found = stops_start c.args.sh c.args.o _ c.intersections_by-crossings.result c.end_points-ends.result }

pub loop-k-preserved : goal.loop-k-preserved
loop-k-preserved c = record {
  upper_bound = omega arith;
  found = stops_step c.args.sh c.args.o _ c.intersections_by-crossings.result c.end_points-ends.result c.loop-k.k _ _ _ (omega arith) c.candidate_at.ensures c.loop-k.invariant.found c.candidate-m.ensures.found;
}

pub returns-clause-found : goal.returns-clause-found
returns-clause-found c = stops_end c.args.sh c.args.o _ c.intersections_by-crossings.result c.end_points-ends.result c.loop-k.k _ (omega arith) (c.intersections_by-crossings.ensures ∙ crossings_by_lem _ _ _ c.requires.slack_value.1) c.end_points-ends.ensures c.loop-k.invariant.found
