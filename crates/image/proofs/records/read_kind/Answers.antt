use Rattle.std.proofs.Common.{arith, sym, ◌∙◌, ne_eqb}
use Rattle.big_endian.specs.Fields.{field}
use Rattle.image.specs.Records.{kind_of, ids_at, curve_kind_at}
use Rattle.image.proofs.records.read_kind.Goals as goal

pub returns-in-1 : goal.returns-in-1
unfolding kind_of ids_at
returns-in-1 c = simp (sym c.get1.ensures ∙ c.in-1.is, c.get4-in-1.ensures, c.get4.ensures)

pub returns-in-2 : goal.returns-in-2
unfolding kind_of ids_at
returns-in-2 c = simp (sym c.get1.ensures ∙ c.in-2.is, c.get4-in-2-3.ensures, c.get4-in-2-2.ensures, c.get4-in-2.ensures)

pub returns-in-3 : goal.returns-in-3
unfolding kind_of ids_at
returns-in-3 c = simp (sym c.get1.ensures ∙ c.in-3.is, c.number_at.ensures, c.get4-in-3.ensures)

pub returns-in-4 : goal.returns-in-4
unfolding kind_of ids_at
returns-in-4 c = simp (sym c.get1.ensures ∙ c.in-4.is, c.get1-in-4.ensures)

pub returns-in_default : goal.returns-in_default
unfolding kind_of ids_at
returns-in_default c =
    let k = field c.args.r.now curve_kind_at 1 in
    simp (ne_eqb k 1 (omega arith), ne_eqb k 2 (omega arith), ne_eqb k 3 (omega arith), ne_eqb k 4 (omega arith), c.number_at-in_default.ensures, c.get4-in_default-3.ensures, c.get4-in_default-2.ensures, c.get4-in_default.ensures)
