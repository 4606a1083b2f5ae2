use Rattle.cuts.proofs.Sides.{one_there, around_few, around_turned, around_straight}
use Rattle.cuts.proofs.brackets.around.Goals as goal

pub returns-then-cuts-lt2 : goal.returns-then-cuts-lt2
returns-then-cuts-lt2 c = around_few _ _ _ c.requires c.if-cuts-lt2.true

pub returns-in_default : goal.returns-in_default
returns-in_default c = absurd (one_there _ c.or_of_all.ensures.numbers c.args.sh _ c.requires _ _ c.if-cuts-lt2.false c.in_default.ensures.found)

pub returns-in_default-or_of_all : goal.returns-in_default-or_of_all
returns-in_default-or_of_all c = absurd (one_there _ c.or_of_all.ensures.numbers c.args.sh _ c.requires _ _ c.if-cuts-lt2.false c.in_default-or_of_all.ensures.found)

pub returns-then-before_in_order : goal.returns-then-before_in_order
returns-then-before_in_order c = around_turned _ c.or_of_all.ensures.numbers _ _ c.requires _ _ _ c.if-cuts-lt2.false c.in-Some.ensures.found c.in-Some-or_of_all.ensures.found c.before_in_order.ensures c.if-before_in_order.true

pub returns-else-before_in_order : goal.returns-else-before_in_order
returns-else-before_in_order c = around_straight _ c.or_of_all.ensures.numbers _ _ c.requires _ _ _ c.if-cuts-lt2.false c.in-Some.ensures.found c.in-Some-or_of_all.ensures.found c.before_in_order.ensures c.if-before_in_order.false
