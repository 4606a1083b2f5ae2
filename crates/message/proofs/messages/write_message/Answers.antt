use Rattle.std.proofs.Common.{le-leb, append_assoc, ◌∙◌, arith, ◌≤◌, length}
use Rattle.message.specs.Message.{encode, message_size, length_size, version_at, mark_at, mark_size, edit_number_at, edit_number_size, operation_at, curve_at, x_at, y_at}
use Rattle.sketch.specs.Drawing.{id_size}
use Rattle.sketch.specs.Lists.{guard_number}
use borrow.Author.Tests.{lt-leb}
use Rattle.big_endian.specs.Laws.{run_starts, run_puts}
use Rattle.message.proofs.messages.write_message.Goals as goal

pub returns-then-m-lt1 : goal.returns-then-m-lt1
unfolding guard_number
returns-then-m-lt1 c = let t = lt-leb _ _ c.if-m-lt1.true in record { number = rw t; buffer = rw t }

pub returns-then-buf-lt-MESSAGE_SIZE : goal.returns-then-buf-lt-MESSAGE_SIZE
unfolding guard_number
returns-then-buf-lt-MESSAGE_SIZE c = let t1 = le-leb _ _ c.if-m-lt1.false in let t2 = lt-leb _ _ c.if-buf-lt-MESSAGE_SIZE.true in record { number = rw (t1, t2); buffer = rw (t1, t2) }

pub returns : goal.returns
unfolding guard_number encode
returns c =
    let a = c.args in
    let h : message_size ≤ length a.buf.now = c.if-buf-lt-MESSAGE_SIZE.false in
    let w1 = run_starts a.buf.now 0 length_size _ (omega arith) c.put4.ensures in
    let w2 = run_puts a.buf.now 0 version_at 1 _ _ _ _ (omega arith) w1 c.put1.ensures in
    let w3 = run_puts a.buf.now 0 mark_at mark_size _ _ _ _ (omega arith) w2 c.put8.ensures in
    let w4 = run_puts a.buf.now 0 edit_number_at edit_number_size _ _ _ _ (omega arith) w3 c.put4-2.ensures in
    let w5 = run_puts a.buf.now 0 operation_at 1 _ _ _ _ (omega arith) w4 c.put1-2.ensures in
    let w6 = run_puts a.buf.now 0 curve_at id_size _ _ _ _ (omega arith) w5 c.put4-3.ensures in
    let w7 = run_puts a.buf.now 0 x_at 8 _ _ _ _ (omega arith) w6 c.put8-2.ensures in
    let w8 = run_puts a.buf.now 0 y_at 8 _ _ _ _ (omega arith) w7 c.put8-3.ensures in
    let t1 = le-leb _ _ c.if-m-lt1.false in
    let t2 = le-leb _ _ h in
    record { number = rw (t1, t2); buffer = rw (t1, t2) (w8.is ∙ simp (append_assoc, c.from.ensures, c.from-2.ensures, c.from-3.ensures, c.from-4.ensures, c.from-5.ensures)) }
