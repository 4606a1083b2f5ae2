use Rattle.std.proofs.Common.{append_assoc, arith}
use Rattle.image.proofs.Points.{length_point, bit_of}
use Rattle.image.proofs.WrittenRecords.{record_skipped, record_written}
use Rattle.image.specs.Encode.{encode_point}
use Rattle.image.specs.Records.{point_size}
use Rattle.big_endian.specs.Laws.{run_starts, run_puts}
use Rattle.image.proofs.writer.write_point.Goals as goal
use Rattle.image.proofs.writer.write_point.Goals.{then-n-lt-POINT_SIZE-via-then-n-lt-POINT_SIZE, then-n-lt-POINT_SIZE-via-else-n-lt-POINT_SIZE+then-n-at}

pub returns-then-n-lt-POINT_SIZE : goal.returns-then-n-lt-POINT_SIZE
returns-then-n-lt-POINT_SIZE c =
    elim c.then-n-lt-POINT_SIZE.branch [
      | then-n-lt-POINT_SIZE-via-then-n-lt-POINT_SIZE w ↦ record_skipped c.args.buf.now c.args.at point_size _ (length_point c.args.p) (omega arith)
      | then-n-lt-POINT_SIZE-via-else-n-lt-POINT_SIZE+then-n-at w ↦ record_skipped c.args.buf.now c.args.at point_size _ (length_point c.args.p) (omega arith)
    ]

pub returns : goal.returns
unfolding encode_point
returns c =
    let a = c.args in
    let w1 = run_starts a.buf.now a.at 4 _ (omega arith) c.put4.ensures in
    let w2 = run_puts a.buf.now a.at 4 8 _ _ _ _ (omega arith) w1 c.put8.ensures in
    let w3 = run_puts a.buf.now a.at 12 8 _ _ _ _ (omega arith) w2 c.put8-2.ensures in
    let w4 = run_puts a.buf.now a.at 20 1 _ _ _ _ (omega arith) w3 c.put1.ensures in
    record_written a.buf.now a.at point_size _ _ _ (omega arith) w4 (simp (append_assoc, c.f64_to_bits_with_nan.ensures, c.f64_to_bits_with_nan-2.ensures, c.from.ensures, bit_of))
