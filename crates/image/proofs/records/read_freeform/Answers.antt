use Rattle.std.proofs.Common.{arith}
use Rattle.image.proofs.RecordChecks.{freeform_sort, other_sort}
use Rattle.image.proofs.records.read_freeform.Goals as goal
use Rattle.image.proofs.records.read_freeform.Goals.{in-1, in_default, in_default-2}

pub returns : goal.returns
returns c =
    elim c.if-matches.branch [
      | in-1 w ↦ rw w.matches-is (other_sort _ _ _ _ (omega arith) (omega arith))
      | in_default w ↦ rw w.matches-is (freeform_sort _ _ _ _ (omega arith) (omega arith) (omega arith))
      | in_default-2 w ↦ rw w.matches-is (freeform_sort _ _ _ _ (omega arith) (omega arith) (omega arith))
    ]
