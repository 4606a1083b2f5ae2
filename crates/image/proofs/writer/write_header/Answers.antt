use Rattle.std.proofs.Common.{le-leb, append_assoc, arith}
use Rattle.image.proofs.Headers.{length_header}
use Rattle.image.proofs.WrittenRecords.{record_skipped, record_written}
use Rattle.image.specs.Encode.{header}
use Rattle.image.specs.Image.{header_size}
use Rattle.big_endian.specs.Laws.{run_starts, run_puts}
use borrow.Author.Tests.{lt-leb}
use Rattle.image.proofs.writer.write_header.Goals as goal
use Rattle.image.proofs.writer.write_header.Goals.{then-np-gt512-via-then-np-gt512, then-np-gt512-via-else-np-gt512+then-nc-gt128, then-np-gt512-via-else-np-gt512+else-nc-gt128+then-nr-gt256, then-np-gt512-via-else-np-gt512+else-nc-gt128+else-nr-gt256+then-buf-lt-HEADER_SIZE}

pub returns-then-np-gt512 : goal.returns-then-np-gt512
returns-then-np-gt512 c =
    elim c.then-np-gt512.branch [
      | then-np-gt512-via-then-np-gt512 w ↦ simp (lt-leb _ _ w.if-np-gt512.true)
      | then-np-gt512-via-else-np-gt512+then-nc-gt128 w ↦ simp (le-leb _ _ w.if-np-gt512.false, lt-leb _ _ w.if-nc-gt128.true)
      | then-np-gt512-via-else-np-gt512+else-nc-gt128+then-nr-gt256 w ↦ simp (le-leb _ _ w.if-np-gt512.false, le-leb _ _ w.if-nc-gt128.false, lt-leb _ _ w.if-nr-gt256.true)
      | then-np-gt512-via-else-np-gt512+else-nc-gt128+else-nr-gt256+then-buf-lt-HEADER_SIZE w ↦
          rw (le-leb _ _ w.if-np-gt512.false, le-leb _ _ w.if-nc-gt128.false, le-leb _ _ w.if-nr-gt256.false) (record_skipped c.args.buf.now 0 header_size _ (length_header _ _ _ _) (omega arith))
    ]

pub returns : goal.returns
unfolding header
returns c =
    let a = c.args in
    let w1 = run_starts a.buf.now 0 4 _ (omega arith) c.put4.ensures in
    let w2 = run_puts a.buf.now 0 4 1 _ _ _ _ (omega arith) w1 c.put1.ensures in
    let w3 = run_puts a.buf.now 0 5 4 _ _ _ _ (omega arith) w2 c.put4-2.ensures in
    let w4 = run_puts a.buf.now 0 9 2 _ _ _ _ (omega arith) w3 c.put2.ensures in
    let w5 = run_puts a.buf.now 0 11 2 _ _ _ _ (omega arith) w4 c.put2-2.ensures in
    let w6 = run_puts a.buf.now 0 13 2 _ _ _ _ (omega arith) w5 c.put2-3.ensures in
    rw (le-leb _ _ c.if-np-gt512.false, le-leb _ _ c.if-nc-gt128.false, le-leb _ _ c.if-nr-gt256.false) (record_written a.buf.now 0 header_size _ _ _ (omega arith) w6 (simp append_assoc))
