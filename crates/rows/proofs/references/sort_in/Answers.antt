use Rattle.std.proofs.Common.{ap, ◌∙◌}
use Rattle.rows.specs.Clauses.{row_sort}
use Rattle.rows.proofs.Sorts.{sort_found, sort_missing}
use Rattle.rows.proofs.references.sort_in.Goals as goal

pub returns-in_err-k : goal.returns-in_err-k
returns-in_err-k c = rw c.from_residual.ensures (sort_missing _ _ c.requires c.in_err-k.ensures)

pub returns : goal.returns
returns c = c.curve_sort.ensures ∙ ap row_sort c.curve_record.ensures ∙ sort_found _ _ c.requires c.in_ok-k.k c.in_ok-k.ensures
