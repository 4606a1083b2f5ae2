use Rattle.std.proofs.Common.{◌∙◌}
use Rattle.sketch_geometry.proofs.Found.{no_number}
use Rattle.sketch_geometry.proofs.positions.nowhere.Goals as goal

pub returns : goal.returns
returns c = c.new.ensures ∙ rw no_number
