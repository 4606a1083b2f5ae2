use Rattle.std.proofs.Common.{◌≡◌}
use Rattle.image.specs.Image.{drawing_of, image_fault}
use Rattle.relations.specs.Met.{met}
use Rattle.relations.proofs.RowSearch.{PassedRows}
use Rattle.relations.proofs.image_search.first_unmet.Given as goal

abbrev pub invariant-loop-i : goal.invariant-loop-i
invariant-loop-i l = image_fault l.t.image.now ≡ 0 → PassedRows (met (drawing_of l.t.image.now).points (drawing_of l.t.image.now).curves) l.t.relations.now l.n l.i
