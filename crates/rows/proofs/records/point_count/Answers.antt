use Rattle.std.proofs.Common.{sym, ◌∙◌}
use lib.ListN.{length-map}
use Rattle.image.specs.Records.{point_size}
use Rattle.image.specs.Decode.{read_point}
use Rattle.rows.specs.Rows.{rows_in}
use Rattle.rows.proofs.Rows.{length_rows_in}
use Rattle.rows.proofs.records.point_count.Goals as goal

pub returns : goal.returns
returns c = sym (length-map (rows_in point_size _) read_point ∙ length_rows_in point_size _)
