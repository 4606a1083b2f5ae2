use Rattle.std.proofs.Common.{◌∙◌}
use Rattle.rows.proofs.tables.points_of.Goals as goal

pub returns : goal.returns
returns c = c.bytes_at.ensures ∙ rw c.get2-np.ensures
