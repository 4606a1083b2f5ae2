use Rattle.std.proofs.Common.{◌≡◌}
use Rattle.sketch.specs.Drawing.{view}
use Rattle.probe.specs.Edits.{edit_adds, repeated}
use Rattle.probe.proofs.typed_edits.edits_sum.Given as goal

abbrev pub invariant-loop-i : goal.invariant-loop-i
invariant-loop-i l = l.sum ≡ repeated l.i (edit_adds l.operation (view l.sk) l.curve l.at)
