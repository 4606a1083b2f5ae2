use Rattle.std.proofs.Common.{◌∙◌, rules}
use Rattle.bernstein.proofs.Lowering.{none, single, pair, triple, four}
use Rattle.bernstein.proofs.value.short_value.Goals as goal

pub returns-then-n-eq0 : goal.returns-then-n-eq0
returns-then-n-eq0 c = none c.args.t c.args.c.now c.if-n-eq0.true

pub returns-then-n-eq1 : goal.returns-then-n-eq1
returns-then-n-eq1 c = single c.args.t c.args.c.now c.if-n-eq1.true

pub returns-then-n-eq2 : goal.returns-then-n-eq2
returns-then-n-eq2 c = c.mix-a.ensures ∙ pair c.args.t c.args.c.now c.if-n-eq2.true

pub returns-then-n-eq3 : goal.returns-then-n-eq3
returns-then-n-eq3 c = simp (c.mix-d.ensures, c.mix-b.ensures, c.mix-a.ensures) (triple c.args.t c.args.c.now c.if-n-eq3.true)

pub returns : goal.returns
returns c = simp (c.mix-3.ensures, c.mix-2.ensures, c.mix.ensures, c.mix-d.ensures, c.mix-b.ensures, c.mix-a.ensures) (four c.args.t c.args.c.now (search rules))
