use Rattle.std.proofs.Common.{sym, ◌∙◌}
use lib.ListN.{length-map}
use Rattle.image.specs.Records.{relation_size}
use Rattle.image.specs.Decode.{read_relation}
use Rattle.rows.specs.Rows.{rows_in}
use Rattle.rows.proofs.Rows.{length_rows_in}
use Rattle.rows.proofs.records.relation_count.Goals as goal

pub returns : goal.returns
returns c = sym (length-map (rows_in relation_size _) read_relation ∙ length_rows_in relation_size _)
