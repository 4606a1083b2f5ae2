use Rattle.std.proofs.Common.{ap, ◌∙◌}
use Rattle.image.specs.Decode.{read_curve}
use Rattle.rows.proofs.records.curve_at.Goals as goal

pub returns : goal.returns
returns c = c.read_curve.ensures ∙ ap read_curve c.curve_record.ensures
