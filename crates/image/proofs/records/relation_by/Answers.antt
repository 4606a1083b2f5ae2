use Rattle.std.proofs.Common.{arith, ne_eqb, sym, ap}
use Rattle.image.specs.Records.{relation_by}
use Rattle.image.proofs.records.relation_by.Goals as goal

pub returns-in-1 : goal.returns-in-1
unfolding relation_by
returns-in-1 c = sym (ap (λ k. relation_by k c.args.a c.args.b c.args.v) c.in-1.is)

pub returns-in-2 : goal.returns-in-2
unfolding relation_by
returns-in-2 c = sym (ap (λ k. relation_by k c.args.a c.args.b c.args.v) c.in-2.is)

pub returns-in-3 : goal.returns-in-3
unfolding relation_by
returns-in-3 c = sym (ap (λ k. relation_by k c.args.a c.args.b c.args.v) c.in-3.is)

pub returns-in-4 : goal.returns-in-4
unfolding relation_by
returns-in-4 c = sym (ap (λ k. relation_by k c.args.a c.args.b c.args.v) c.in-4.is)

pub returns-in-5 : goal.returns-in-5
unfolding relation_by
returns-in-5 c = sym (ap (λ k. relation_by k c.args.a c.args.b c.args.v) c.in-5.is)

pub returns-in-6 : goal.returns-in-6
unfolding relation_by
returns-in-6 c = sym (ap (λ k. relation_by k c.args.a c.args.b c.args.v) c.in-6.is)

pub returns-in-7 : goal.returns-in-7
unfolding relation_by
returns-in-7 c = sym (ap (λ k. relation_by k c.args.a c.args.b c.args.v) c.in-7.is)

pub returns-in-8 : goal.returns-in-8
unfolding relation_by
returns-in-8 c = sym (ap (λ k. relation_by k c.args.a c.args.b c.args.v) c.in-8.is)

pub returns-in_default : goal.returns-in_default
unfolding relation_by
returns-in_default c = simp (ne_eqb c.args.kind 1 (omega arith), ne_eqb c.args.kind 2 (omega arith), ne_eqb c.args.kind 3 (omega arith), ne_eqb c.args.kind 4 (omega arith), ne_eqb c.args.kind 5 (omega arith), ne_eqb c.args.kind 6 (omega arith), ne_eqb c.args.kind 7 (omega arith), ne_eqb c.args.kind 8 (omega arith))
