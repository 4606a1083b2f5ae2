use Rattle.std.proofs.Common.{append_assoc, arith}
use Rattle.image.proofs.Relations.{length_relation}
use Rattle.image.proofs.WrittenRecords.{record_skipped, record_written}
use Rattle.image.specs.Encode.{encode_relation}
use Rattle.image.specs.Records.{relation_size}
use Rattle.big_endian.specs.Laws.{run_starts, run_puts}
use Rattle.image.proofs.writer.write_relation.Goals as goal
use Rattle.image.proofs.writer.write_relation.Goals.{then-n-lt-RELATION_SIZE-via-then-n-lt-RELATION_SIZE, then-n-lt-RELATION_SIZE-via-else-n-lt-RELATION_SIZE+then-n-at}

pub returns-then-n-lt-RELATION_SIZE : goal.returns-then-n-lt-RELATION_SIZE
returns-then-n-lt-RELATION_SIZE c =
    elim c.then-n-lt-RELATION_SIZE.branch [
      | then-n-lt-RELATION_SIZE-via-then-n-lt-RELATION_SIZE w ↦ record_skipped c.args.buf.now c.args.at relation_size _ (length_relation c.args.r) (omega arith)
      | then-n-lt-RELATION_SIZE-via-else-n-lt-RELATION_SIZE+then-n-at w ↦ record_skipped c.args.buf.now c.args.at relation_size _ (length_relation c.args.r) (omega arith)
    ]

pub returns : goal.returns
unfolding encode_relation
returns c =
    let a = c.args in
    let w1 = run_starts a.buf.now a.at 1 _ (omega arith) c.put1.ensures in
    let w2 = run_puts a.buf.now a.at 1 4 _ _ _ _ (omega arith) w1 c.put4.ensures in
    let w3 = run_puts a.buf.now a.at 5 4 _ _ _ _ (omega arith) w2 c.put4-2.ensures in
    let w4 = run_puts a.buf.now a.at 9 8 _ _ _ _ (omega arith) w3 c.put8.ensures in
    record_written a.buf.now a.at relation_size _ _ _ (omega arith) w4 (simp (append_assoc, c.relation_byte.ensures, c.first_id.ensures, c.second_id.ensures, c.value_bits.ensures))
