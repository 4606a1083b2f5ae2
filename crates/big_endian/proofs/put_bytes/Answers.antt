use Rattle.std.proofs.Common.{sym, arith}
use Rattle.big_endian.specs.Laws.{over_not, put_over}
use Rattle.big_endian.proofs.put_bytes.Goals as goal
use Rattle.big_endian.proofs.put_bytes.Goals.{else-n-buf-via-then-n-buf+else-at-buf, else-n-buf-via-else-n-buf}

pub returns-then-at-buf : goal.returns-then-at-buf
returns-then-at-buf c = put_over c.args.buf.now c.args.bytes.now c.args.at _ (omega arith) c.copy_from_slice.ensures.after

pub returns-else-n-buf : goal.returns-else-n-buf
returns-else-n-buf c =
    elim c.else-n-buf.branch [
      | else-n-buf-via-then-n-buf+else-at-buf w ↦ sym (over_not _ _ _ (omega arith))
      | else-n-buf-via-else-n-buf w ↦ sym (over_not _ _ _ (omega arith))
    ]
