-- `wall_program::write_bytes` meets its contract.
use Rattle.wall_program.proofs.Program.{bytes_short, bytes_written}
use Rattle.wall_program.proofs.write_bytes.Goals as goal

pub returns-then-out-bytes : goal.returns-then-out-bytes
returns-then-out-bytes c = bytes_short c.args.bytes.now c.args.out.now (λ k. (c.type_inv.bytes k).fits) c.if-out-bytes.true

pub returns : goal.returns
returns c = bytes_written c.args.bytes.now c.args.out.now (λ k. (c.type_inv.bytes k).fits) c.if-out-bytes.false c.put_run.ensures
