-- `apply::count_released` meets its contract.
use Rattle.std.proofs.Common.{length, [], arith}
use Rattle.apply.proofs.Planned.{count_enough}
use Rattle.apply.proofs.Concerned.{left_few}
use Rattle.apply.specs.Clauses.{left_rows}
use Rattle.rows.proofs.Rows.{length_rows_in}
use Rattle.image.specs.Records.{relation_size}
use Rattle.apply.proofs.refusals.count_released.Goals as goal

pub returns-then-n-lt254 : goal.returns-then-n-lt254
returns-then-n-lt254 c =
    let a = c.args in
    count_enough _ (length (left_rows a.e [] a.relations.now)) (omega (arith, left_few a.e [] a.relations.now, length_rows_in relation_size a.relations.now)) c.if-n-lt254.true
