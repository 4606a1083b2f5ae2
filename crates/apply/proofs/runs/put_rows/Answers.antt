-- `apply::put_rows` meets its contract.
use Rattle.std.proofs.Common.{arith}
use Rattle.apply.proofs.RowRuns.{rows_within, run_put}
use Rattle.apply.proofs.runs.put_rows.Goals as goal

pub overflow_mul-from : goal.overflow_mul-from
overflow_mul-from c =
    let a = c.args in
    let w = rows_within a.size a.table.now a.i a.j c.requires.0 c.requires.1 in
    omega (arith, w.0, w.1, w.2, c.requires.2)

pub overflow_mul-end : goal.overflow_mul-end
overflow_mul-end c =
    let a = c.args in
    let w = rows_within a.size a.table.now a.i a.j c.requires.0 c.requires.1 in
    omega (arith, w.0, w.1, w.2, c.requires.2)

pub slice_bounds-put_run-count : goal.slice_bounds-put_run-count
slice_bounds-put_run-count c =
    let a = c.args in
    let w = rows_within a.size a.table.now a.i a.j c.requires.0 c.requires.1 in
    omega (arith, w.0, w.1, w.2, c.requires.2)

pub overflow_sub-result : goal.overflow_sub-result
overflow_sub-result c =
    let a = c.args in
    let w = rows_within a.size a.table.now a.i a.j c.requires.0 c.requires.1 in
    omega (arith, w.0, w.1, w.2, c.requires.2)

pub overflow_add-result : goal.overflow_add-result
overflow_add-result c =
    let a = c.args in
    let w = rows_within a.size a.table.now a.i a.j c.requires.0 c.requires.1 in
    omega (arith, w.0, w.1, w.2, c.requires.2)

pub returns : goal.returns
returns c =
    let a = c.args in
    run_put a.size a.table.now a.i a.j a.out.now a.at _ c.requires.0 c.requires.1 c.requires.2 c.put_run.ensures
