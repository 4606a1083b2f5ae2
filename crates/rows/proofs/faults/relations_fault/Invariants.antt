use Rattle.sketch.specs.Lookup.{among, sort_among}
use Rattle.sketch.specs.Valid.{sound_relation}
use Rattle.image.specs.Records.{relation_of, point_size, curve_size}
use Rattle.image.specs.Image.{good_relation}
use Rattle.rows.specs.Rows.{ids_in}
use Rattle.rows.specs.Clauses.{sorts_in}
use Rattle.rows.proofs.Walked.{ListWalk}
use Rattle.rows.proofs.faults.relations_fault.Given as goal

abbrev pub invariant-loop-r : goal.invariant-loop-r
invariant-loop-r l = ListWalk good_relation (λ r. sound_relation (λ p. among p (ids_in point_size l.points)) (λ j. sort_among j (ids_in curve_size l.curves) (sorts_in l.curves)) (relation_of r)) l.rows l.r-index
