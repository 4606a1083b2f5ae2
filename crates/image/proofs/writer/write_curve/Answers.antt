use Rattle.std.proofs.Common.{length, append_assoc, ◌≡◌, ◌≤◌, ◌+◌, arith}
use Rattle.image.proofs.Curves.{length_curve, length_slots}
use Rattle.image.proofs.WrittenRecords.{record_skipped, record_written}
use Rattle.image.specs.Encode.{encode_curve}
use Rattle.image.specs.Records.{curve_size}
use Rattle.big_endian.specs.Laws.{run_starts, run_puts, run_over}
use Rattle.image.proofs.writer.write_curve.Goals as goal
use Rattle.image.proofs.writer.write_curve.Goals.{then-n-lt-CURVE_SIZE-via-then-n-lt-CURVE_SIZE, then-n-lt-CURVE_SIZE-via-else-n-lt-CURVE_SIZE+then-n-at}

pub returns-then-n-lt-CURVE_SIZE : goal.returns-then-n-lt-CURVE_SIZE
returns-then-n-lt-CURVE_SIZE c =
    elim c.then-n-lt-CURVE_SIZE.branch [
      | then-n-lt-CURVE_SIZE-via-then-n-lt-CURVE_SIZE w ↦ record_skipped c.args.buf.now c.args.at curve_size _ (length_curve c.args.c (omega arith)) (omega arith)
      | then-n-lt-CURVE_SIZE-via-else-n-lt-CURVE_SIZE+then-n-at w ↦ record_skipped c.args.buf.now c.args.at curve_size _ (length_curve c.args.c (omega arith)) (omega arith)
    ]

pub returns : goal.returns
unfolding encode_curve
returns c =
    let a = c.args in
    let h : a.at + curve_size ≤ length a.buf.now = omega arith in
    let l8 : length a.c.slots ≡ 8 = omega arith in
    let w1 = run_starts a.buf.now a.at 4 _ (omega arith) c.put4.ensures in
    let w2 = run_puts a.buf.now a.at 4 1 _ _ _ _ (omega arith) w1 c.put1.ensures in
    let w3 = run_puts a.buf.now a.at 5 1 _ _ _ _ (omega arith) w2 c.put1-2.ensures in
    let w4 = run_puts a.buf.now a.at 6 1 _ _ _ _ (omega arith) w3 c.put1-3.ensures in
    let n5 = length_slots a.c.kind a.c.slots l8 in
    let w5 = run_over a.buf.now a.at 7 32 _ _ _ _ (omega arith) n5 w4 (rw c.slot_ids.ensures at c.write_slots.ensures) in
    let w6 = run_puts a.buf.now a.at 39 8 _ _ _ _ (omega arith) w5 c.put8.ensures in
    record_written a.buf.now a.at curve_size _ _ _ (omega arith) w6 (simp (append_assoc, c.kind_byte.ensures, c.flag_byte.ensures, c.degree_of.ensures, c.number_bits.ensures))
