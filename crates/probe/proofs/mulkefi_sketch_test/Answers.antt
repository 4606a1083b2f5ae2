use Rattle.std.proofs.Common.{ap, ◌∙◌}
use Rattle.sketch.specs.Valid.{sketch_fault}
use Rattle.probe.specs.Probe.{unread, tested}
use Rattle.probe.proofs.mulkefi_sketch_test.Goals as goal

pub returns-in-Ok : goal.returns-in-Ok
returns-in-Ok c =
    let (s, i, v, e) = c.in-Ok.ensures in
    tested s i v (c.number_of.ensures ∙ c.sketch_fault.ensures ∙ ap sketch_fault e)

pub returns-in-Err : goal.returns-in-Err
returns-in-Err c =
    let (n, e) = c.in-Err.ensures in
    unread n (c.from.ensures ∙ c.number.ensures ∙ e)
