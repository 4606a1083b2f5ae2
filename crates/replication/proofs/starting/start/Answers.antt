-- `replication::start` meets its contract.
use Rattle.std.proofs.lemmas.Result.{err_from_is_err_and}
use Rattle.replication.proofs.StartCases.{start_short, start_refused, start_done}
use Rattle.replication.proofs.starting.start.Goals as goal

pub returns-in_err-test_image : goal.returns-in_err-test_image
returns-in_err-test_image c =
    let p = err_from_is_err_and c.from_residual.result c.from_residual.ensures.1 in
    rw (p.1, p.2) (start_refused c.args.image.now c.args.mark c.args.count c.args.buffer.now _ c.in_err-test_image.ensures)

pub returns-then-buffer-lt-MAX_IMAGE_SIZE : goal.returns-then-buffer-lt-MAX_IMAGE_SIZE
returns-then-buffer-lt-MAX_IMAGE_SIZE c = start_short c.args.image.now c.args.mark c.args.count c.args.buffer.now c.in_ok-test_image.ensures c.if-buffer-lt-MAX_IMAGE_SIZE.true

pub returns : goal.returns
returns c = start_done c.args.image.now c.args.mark c.args.count c.args.buffer.now c.in_ok-test_image.ensures c.if-buffer-lt-MAX_IMAGE_SIZE.false c.put_run.ensures
