-- `modify::trim` meets its contract, which is that of the edit it makes.
use Rattle.modify.proofs.edits.trim.Goals as goal

pub returns : goal.returns
returns c = c.edit.ensures
