use Rattle.std.proofs.Common.{◌≡◌}
use Rattle.image.specs.Image.{drawing_of, image_fault}
use Rattle.relations.proofs.RowSearch.{PassedRows, met_if_named_after}
use Rattle.relations.proofs.image_search.first_unmet_after.Given as goal

abbrev pub invariant-loop-k : goal.invariant-loop-k
invariant-loop-k l = image_fault l.t.image.now ≡ 0 → PassedRows (met_if_named_after l.p l.c l.moved (drawing_of l.t.image.now).points (drawing_of l.t.image.now).curves) l.t.relations.now l.n l.k
