use Rattle.std.proofs.Common.{sym, ◌∙◌}
use lib.ListN.{length-map}
use Rattle.image.specs.Records.{curve_size}
use Rattle.image.specs.Decode.{read_curve}
use Rattle.rows.specs.Rows.{rows_in}
use Rattle.rows.proofs.Rows.{length_rows_in}
use Rattle.rows.proofs.records.curve_count.Goals as goal

pub returns : goal.returns
returns c = sym (length-map (rows_in curve_size _) read_curve ∙ length_rows_in curve_size _)
