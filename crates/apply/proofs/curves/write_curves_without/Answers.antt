-- `apply::write_curves_without` meets its contract.
use Rattle.std.proofs.Common.{arith}
use Rattle.apply.proofs.Parts.{length_without, without_put}
use Rattle.apply.proofs.curves.write_curves_without.Goals as goal

pub put_rows-a-requires : goal.put_rows-a-requires
put_rows-a-requires c =
    let n = length_without c.args.k c.args.curves.now c.requires.0 in
    (omega arith, omega (arith, c.requires.0), omega (arith, n, c.requires.1, c.requires.0))

pub put_rows-requires : goal.put_rows-requires
put_rows-requires c =
    let n = length_without c.args.k c.args.curves.now c.requires.0 in
    (omega (arith, c.requires.0), omega arith, omega (arith, n, c.requires.1, c.requires.0, c.put_rows-a.ensures.1))

pub returns : goal.returns
returns c =
    let a = c.args in
    without_put a.k a.curves.now c.requires.0 a.out.now a.at _ _ c.put_rows-a.ensures.0 c.put_rows-a.ensures.1 _ c.requires.1 c.put_rows.ensures.0
