use Rattle.std.proofs.Common.{◌∙◌}
use Rattle.rows.proofs.tables.relations_of.Goals as goal

pub returns : goal.returns
returns c = c.bytes_at.ensures ∙ rw (c.get2-nr.ensures, c.get2-nc.ensures, c.get2-np.ensures)
